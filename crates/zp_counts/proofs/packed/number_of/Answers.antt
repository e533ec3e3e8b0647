use Rattle.std.proofs.Common.{◌≡◌, ◌+◌, ◌*◌, length, drop, sym, ap, ◌∙◌, arith}
use Rattle.std.proofs.lemmas.List.{drop_all}
use Rattle.zp_counts.specs.Packing.{number_of}
use Rattle.zp_counts.proofs.Digits.{number_below, number_step, step_below}
use Rattle.zp_counts.proofs.packed.number_of.Goals as goal

pub loop-place-init : goal.loop-place-init
loop-place-init c = record { number = sym (ap (number_of c.args.base) (drop_all (length c.args.digits.now) c.args.digits.now (omega arith))) }

pub overflow_mul-number : goal.overflow_mul-number
overflow_mul-number c =
    let low = step_below c.args.base c.loop-place.place c.args.digits.now c.requires.base c.loop-place-test.true c.loop-place.auto.place c.requires.digits in
    let same = ap (λ n. n * c.args.base) c.loop-place.invariant.number in
    omega (arith, low, same, c.requires.size)

pub overflow_add-number : goal.overflow_add-number
overflow_add-number c =
    let low = step_below c.args.base c.loop-place.place c.args.digits.now c.requires.base c.loop-place-test.true c.loop-place.auto.place c.requires.digits in
    let same = ap (λ n. n * c.args.base) c.loop-place.invariant.number in
    omega (arith, low, same, c.requires.size, c.from.ensures)

pub loop-place-preserved : goal.loop-place-preserved
loop-place-preserved c =
    record {
      number = (λ j. c.loop-place.invariant.number j * c.args.base + c.from.ensures j)
          ∙ number_step c.args.base c.loop-place.place c.args.digits.now c.loop-place-test.true c.loop-place.auto.place;
    }

pub returns-clause-below : goal.returns-clause-below
returns-clause-below c =
    let first : c.loop-place.place ≡ 0 = omega (arith, c.loop-place-test.false) in
    let all : drop c.loop-place.place c.args.digits.now ≡ c.args.digits.now = ap (λ n. drop n c.args.digits.now) first in
    let number : c.loop-place.number ≡ number_of c.args.base c.args.digits.now = c.loop-place.invariant.number ∙ ap (number_of c.args.base) all in
    omega (arith, number, number_below c.args.base c.args.digits.now c.requires.digits)
