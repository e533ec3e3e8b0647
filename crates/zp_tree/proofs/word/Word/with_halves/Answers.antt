use Rattle.std.proofs.Common.{ℕ, arith, subst, bit_or}
use Rattle.std.proofs.lemmas.Nat.Bits.{bit_at_or}
use Rattle.zp_tree.specs.Words.{IsHalved}
use Rattle.zp_tree.proofs.Chains.{with_chain}
use Rattle.zp_tree.proofs.word.Word.with_halves.Goals as goal

pub invariant_of-result : goal.invariant_of-result
invariant_of-result c = omega (arith, bit_at_or c.self.inside.bits c.chain-halves.result 0, c.self.invariant, c.chain-halves.ensures.none)

pub returns : goal.returns
returns c =
    let P : ℕ → Type 0 = λ w. IsHalved w (bit_or c.self.inside.bits c.chain-halves.result) c.args.place c.args.from c.args.to in
    subst P c.self.view_is (with_chain _ _ _ _ _ c.requires.block c.chain-halves.ensures)
