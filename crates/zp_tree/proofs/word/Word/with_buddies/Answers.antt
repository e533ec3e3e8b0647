use Rattle.std.proofs.Common.{ℕ, arith, subst, bit_or}
use Rattle.std.proofs.lemmas.Nat.Bits.{bit_at_or}
use Rattle.zp_tree.specs.Words.{IsPaired}
use Rattle.zp_tree.proofs.Chains.{with_chain_around}
use Rattle.zp_tree.proofs.word.Word.with_buddies.Goals as goal

pub invariant_of-result : goal.invariant_of-result
invariant_of-result c = omega (arith, bit_at_or c.self.inside.bits c.chain-buddies.result 0, c.self.invariant, c.chain-buddies.ensures.none)

pub returns : goal.returns
returns c =
    let P : ℕ → Type 0 = λ w. IsPaired w (bit_or c.self.inside.bits c.chain-buddies.result) c.args.place c.args.from c.args.to in
    subst P c.self.view_is (with_chain_around _ _ _ _ _ c.chain-buddies.ensures)
