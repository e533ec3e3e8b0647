use Rattle.zp_events.proofs.Options.{at_none}
use Rattle.zp_events.proofs.Buffers.{NoLost, no_space_in, no_lost_number, no_lost_end}
use Rattle.zp_events.proofs.buffer_lines.lost_at.Goals as goal

pub returns-in_err-digits-clause-none : goal.returns-in_err-digits-clause-none
returns-in_err-digits-clause-none c =
    at_none _ {P = NoLost c.args.text.now} (no_space_in c.args.text.now _ c.in_ok-inside.ensures.some c.in_err-digits.ensures.none)

pub returns-in_err-number-clause-none : goal.returns-in_err-number-clause-none
returns-in_err-number-clause-none c =
    at_none _ {P = NoLost c.args.text.now} (no_lost_number c.args.text.now _ c.in_ok-digits.digits.now c.in_ok-digits.after.now c.in_ok-inside.ensures.some c.in_ok-digits.ensures.some.0 c.in_ok-digits.ensures.some.1 c.in_err-number.ensures.none)

pub returns-in_err-_rest-clause-none : goal.returns-in_err-_rest-clause-none
returns-in_err-_rest-clause-none c =
    at_none _ {P = NoLost c.args.text.now} (no_lost_end c.args.text.now _ c.in_ok-digits.digits.now c.in_ok-digits.after.now c.in_ok-inside.ensures.some c.in_ok-digits.ensures.some.0 c.in_ok-digits.ensures.some.1 c.in_err-_rest.ensures.none)
