use Rattle.std.proofs.Common.{ap, ◌∙◌}
use Rattle.zp_trace.specs.Spelling.{spelled, lists_words}
use Rattle.zp_trace.proofs.BadLines.{NoListsLine}
use Rattle.zp_trace.proofs.WordLists.{at_none, lists_are_words, front}
use Rattle.zp_trace.proofs.parser.lists_line.Goals as goal

pub returns-in_err-words-clause-none : goal.returns-in_err-words-clause-none
returns-in_err-words-clause-none c =
    at_none _ {P = NoListsLine c.args.text.now} (λ batch high more is e. c.in_err-words.ensures.none (lists_words batch high) more (lists_are_words batch high is) (front (lists_words batch high) c.args.text.now more e))

pub returns-in_err-lists-clause-none : goal.returns-in_err-lists-clause-none
returns-in_err-lists-clause-none c =
    at_none _ {P = NoListsLine c.args.text.now} (λ batch high more is e.
    let only = c.in_ok-words.ensures.only (lists_words batch high) more (lists_are_words batch high is) (front (lists_words batch high) c.args.text.now more e) in
    c.in_err-lists.ensures.none batch high is (ap spelled c.deref.ensures.0 ∙ only.0))
