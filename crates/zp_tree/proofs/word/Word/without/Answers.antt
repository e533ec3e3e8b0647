use Rattle.std.proofs.Common.{ℕ, subst}
use Rattle.zp_tree.specs.Words.{IsMarked}
use Rattle.zp_tree.proofs.WordBits.{clear_bit, clear_marks, clear_keeps_none}
use Rattle.zp_tree.proofs.word.Word.without.Goals as goal

pub invariant_of-result : goal.invariant_of-result
invariant_of-result c = clear_keeps_none _ _ _ _ c.requires c.node_of.ensures.node c.self.invariant

pub returns : goal.returns
returns c =
    let P : ℕ → Type 0 = λ w. IsMarked w (clear_bit c.self.inside.bits c.node_of.result) c.args.place c.args.level 0 in
    subst P c.self.view_is (clear_marks _ _ _ _ c.requires c.node_of.ensures.node)
