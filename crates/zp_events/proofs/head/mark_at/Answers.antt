use Rattle.zp_events.proofs.Options.{at_none}
use Rattle.zp_events.proofs.Marks.{NoMark, no_bracket_no_mark, no_number_no_mark, no_space_no_mark}
use Rattle.zp_events.proofs.head.mark_at.Goals as goal

pub returns-in_err-number-clause-none : goal.returns-in_err-number-clause-none
returns-in_err-number-clause-none c =
    at_none _ {P = NoMark c.args.text.now} (no_bracket_no_mark c.args.text.now _ c.in_ok-inside.ensures.some c.in_err-number.ensures.none)

pub returns-in_err-cpu-clause-none : goal.returns-in_err-cpu-clause-none
returns-in_err-cpu-clause-none c =
    at_none _ {P = NoMark c.args.text.now} (no_number_no_mark c.args.text.now _ c.in_ok-number.number.now c.in_ok-number.after.now c.in_ok-inside.ensures.some c.in_ok-number.ensures.some.0 c.in_ok-number.ensures.some.1 c.in_err-cpu.ensures.none)

pub returns-in_err-rest-clause-none : goal.returns-in_err-rest-clause-none
returns-in_err-rest-clause-none c =
    at_none _ {P = NoMark c.args.text.now} (no_space_no_mark c.args.text.now _ c.in_ok-number.number.now c.in_ok-number.after.now c.in_ok-inside.ensures.some c.in_ok-number.ensures.some.0 c.in_ok-number.ensures.some.1 c.in_err-rest.ensures.none)
