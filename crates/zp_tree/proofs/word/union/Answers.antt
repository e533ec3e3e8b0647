use Rattle.std.proofs.Common.{◌+◌, ◌≡◌, inl, inr, ◌∙◌, ap, sym, arith, slice_index}
use Rattle.std.specs.Int.{bit_at}
use Rattle.std.proofs.lemmas.Bool.{cases_eq}
use Rattle.std.proofs.lemmas.Nat.Bits.{bit_at_or, bit_at-lt}
use Rattle.zp_tree.proofs.word.union.Goals as goal

pub words-preserved : goal.words-preserved
words-preserved c =
    let b = c.words.bits in
    let w = c.word.inside.bits in
    let at : slice_index c.args.words.now (c.args.from + c.words.place) ≡ w = sym (c.read-word.ensures.node 0) ∙ sym c.word.view_is in
    let u = c.words.invariant.union in
    record {
      union = record {
        each = λ r i lo hi one.
            elim (cases_eq r (c.args.from + c.words.place)) [
              | inl same ↦ let here : bit_at w i ≡ 1 = ap (λ x. bit_at x i) (sym at) ∙ rw same at one in omega (arith, bit_at_or b w i, here, bit_at-lt b i)
              | inr ne ↦ omega (arith, bit_at_or b w i, u.each r i lo (omega arith) one, bit_at-lt w i)
            ];
        only = λ i one.
            elim (cases_eq (bit_at w i) 1) [
              | inl here ↦ (c.args.from + c.words.place, omega arith, omega arith, ap (λ x. bit_at x i) at ∙ here)
              | inr not ↦ let o = u.only i (omega (arith, bit_at_or b w i, one, not, bit_at-lt w i)) in (o.0, o.1, omega (arith, o.2), o.3)
            ];
      };
      none = omega (arith, bit_at_or b w 0, c.words.invariant.none, c.word.invariant);
      counted = omega (arith, c.read-word.ensures.counted, c.words.invariant.counted);
    }
