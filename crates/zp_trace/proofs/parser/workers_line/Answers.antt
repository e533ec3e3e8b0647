use Rattle.std.proofs.Common.{ap, ◌∙◌}
use Rattle.zp_trace.specs.Spelling.{spelled, workers_words}
use Rattle.zp_trace.proofs.BadLines.{NoWorkersLine}
use Rattle.zp_trace.proofs.WordLists.{at_none, workers_are_words, front}
use Rattle.zp_trace.proofs.parser.workers_line.Goals as goal

pub returns-in_err-words-clause-none : goal.returns-in_err-words-clause-none
returns-in_err-words-clause-none c =
    at_none _ {P = NoWorkersLine c.args.text.now} (λ n more is e. c.in_err-words.ensures.none (workers_words n) more (workers_are_words n is) (front (workers_words n) c.args.text.now more e))

pub returns-in_err-workers-clause-none : goal.returns-in_err-workers-clause-none
returns-in_err-workers-clause-none c =
    at_none _ {P = NoWorkersLine c.args.text.now} (λ n more is e.
    let only = c.in_ok-words.ensures.only (workers_words n) more (workers_are_words n is) (front (workers_words n) c.args.text.now more e) in
    c.in_err-workers.ensures.none n is (ap spelled c.deref.ensures.0 ∙ only.0))
