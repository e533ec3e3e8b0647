use Rattle.zp_events.specs.Words.{words_of}
use Rattle.zp_events.proofs.Options.{at_none}
use Rattle.zp_events.proofs.Buffers.{NoEntries, no_label, no_slash_in, no_kept, no_written, entries_made}
use Rattle.zp_events.proofs.buffer_lines.buffer_entries.Goals as goal

pub returns-in_err-behind_label-clause-none : goal.returns-in_err-behind_label-clause-none
returns-in_err-behind_label-clause-none c =
    at_none _ {P = NoEntries (words_of c.args.line.now)} (no_label _ _ c.in_ok-behind_mark.ensures.some c.in_err-behind_label.ensures.none)

pub returns-in_err-kept_digits-clause-none : goal.returns-in_err-kept_digits-clause-none
returns-in_err-kept_digits-clause-none c =
    at_none _ {P = NoEntries (words_of c.args.line.now)} (no_slash_in _ _ _ _ c.in_ok-word.word.now c.in_ok-behind_mark.ensures.some c.in_ok-behind_label.ensures.some c.in_ok-word.ensures.some c.in_err-kept_digits.ensures.none)

pub returns-in_err-kept-clause-none : goal.returns-in_err-kept-clause-none
returns-in_err-kept-clause-none c =
    at_none _ {P = NoEntries (words_of c.args.line.now)} (no_kept _ _ _ _ c.in_ok-word.word.now c.in_ok-kept_digits.kept_digits.now c.in_ok-kept_digits.written_digits.now c.in_ok-behind_mark.ensures.some c.in_ok-behind_label.ensures.some c.in_ok-word.ensures.some c.in_ok-kept_digits.ensures.some.0 c.in_ok-kept_digits.ensures.some.1 c.in_err-kept.ensures.none)

pub returns-in_err-written-clause-none : goal.returns-in_err-written-clause-none
returns-in_err-written-clause-none c =
    at_none _ {P = NoEntries (words_of c.args.line.now)} (no_written _ _ _ _ c.in_ok-word.word.now c.in_ok-kept_digits.kept_digits.now c.in_ok-kept_digits.written_digits.now c.in_ok-behind_mark.ensures.some c.in_ok-behind_label.ensures.some c.in_ok-word.ensures.some c.in_ok-kept_digits.ensures.some.0 c.in_ok-kept_digits.ensures.some.1 c.in_err-written.ensures.none)

pub returns-clause-some : goal.returns-clause-some
returns-clause-some c =
    entries_made _ _ _ _ c.in_ok-word.word.now c.in_ok-kept_digits.kept_digits.now c.in_ok-kept_digits.written_digits.now _ _ c.in_ok-behind_mark.ensures.some c.in_ok-behind_label.ensures.some c.in_ok-word.ensures.some c.in_ok-kept_digits.ensures.some.0 c.in_ok-kept.ensures.some c.in_ok-written.ensures.some
