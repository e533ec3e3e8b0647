use Rattle.std.proofs.Common.{ℕ, List}
use Rattle.zp_events.specs.Numbers.{IsNumber}
use Rattle.zp_events.proofs.Options.{at_none}
use Rattle.zp_events.proofs.Numbers.{digit_below, too_large, more}
use Rattle.zp_events.proofs.number.number_of.Goals as goal

-- the word writes no number of this base
abbrev NoNumber : ℕ → List ℕ → Type 0
NoNumber base word = (n : ℕ) → IsNumber base word n → ⊥

pub returns-in_err-digit-clause-none : goal.returns-in_err-digit-clause-none
returns-in_err-digit-clause-none c =
    at_none _ {P = NoNumber c.args.base c.args.word.now} (λ n number. c.in_err-digit.ensures (digit_below c.args.base c.args.word.now c.loop-byte.byte-index number.digits c.loop-byte-test.true))

pub returns-in_err-number-clause-none : goal.returns-in_err-number-clause-none
returns-in_err-number-clause-none c =
    at_none _ {P = NoNumber c.args.base c.args.word.now} (λ n number. too_large c.args.base c.args.word.now c.loop-byte.byte-index c.loop-byte.number _ n c.requires.least c.loop-byte-test.true c.loop-byte.invariant.number c.in_ok-digit.ensures.1 c.in_err-number.ensures.none number)

pub loop-byte-preserved : goal.loop-byte-preserved
loop-byte-preserved c =
    let p = more c.args.base c.args.word.now c.loop-byte.byte-index c.loop-byte.number _ _ c.loop-byte-test.true c.loop-byte.invariant.digits c.loop-byte.invariant.number c.in_ok-digit.ensures.0 c.in_ok-digit.ensures.1 c.in_ok-number.ensures.some in
    record { some = c.loop-byte.invariant.some; small = c.in_ok-number.ensures.fits; digits = p.0; number = p.1 }
