use Rattle.std.proofs.Common.{ℕ, arith, subst, bit_and, w64}
use Rattle.std.specs.Int.{bit_not}
use Rattle.std.proofs.lemmas.Nat.Bits.{bit_at_and}
use Rattle.zp_tree.specs.Words.{IsUnpaired}
use Rattle.zp_tree.proofs.Chains.{without_chain}
use Rattle.zp_tree.proofs.word.Word.without_buddies.Goals as goal

pub invariant_of-result : goal.invariant_of-result
invariant_of-result c = omega (arith, bit_at_and c.self.inside.bits (bit_not w64 c.chain-buddies.result) 0, c.self.invariant)

pub returns : goal.returns
returns c =
    let P : ℕ → Type 0 = λ w. IsUnpaired w (bit_and c.self.inside.bits (bit_not w64 c.chain-buddies.result)) c.args.place c.args.from c.args.to in
    subst P c.self.view_is (without_chain _ _ _ _ _ c.requires.place c.requires.levels c.chain-buddies.type_inv c.chain-buddies.ensures)
