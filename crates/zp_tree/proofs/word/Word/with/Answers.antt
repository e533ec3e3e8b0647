use Rattle.std.proofs.Common.{ℕ, subst}
use Rattle.zp_tree.specs.Words.{IsMarked}
use Rattle.zp_tree.proofs.WordBits.{set_bit, set_marks, set_keeps_none}
use Rattle.zp_tree.proofs.word.Word.with.Goals as goal

pub invariant_of-result : goal.invariant_of-result
invariant_of-result c = set_keeps_none _ _ _ _ c.requires c.node_of.ensures.node c.self.invariant

pub returns : goal.returns
returns c =
    let P : ℕ → Type 0 = λ w. IsMarked w (set_bit c.self.inside.bits c.node_of.result) c.args.place c.args.level 1 in
    subst P c.self.view_is (set_marks _ _ _ _ c.requires c.node_of.ensures.node)
