use Rattle.std.proofs.Common.{ℕ, subst}
use Rattle.zp_model.specs.Block.{head}
use Rattle.zp_tree.specs.Words.{node, IsMarked}
use Rattle.zp_tree.proofs.WordBits.{clear_bit, clear_marks, clear_keeps_none}
use Rattle.zp_tree.proofs.BuddyPlaces.{head_node, head_place, place_inside}
use Rattle.zp_tree.proofs.word.Word.without_around.Goals as goal

pub overflow_shl-result : goal.overflow_shl-result
overflow_shl-result c = place_inside _ _ c.requires.place c.requires.level

pub invariant_of-result : goal.invariant_of-result
invariant_of-result c = clear_keeps_none _ _ _ _ (head_place _ _ c.requires.place c.requires.level) (head_node _ _ c.requires.level) c.self.invariant

pub returns : goal.returns
returns c =
    let P : ℕ → Type 0 = λ w. IsMarked w (clear_bit c.self.inside.bits (node c.args.place c.args.level)) (head c.args.place c.args.level) c.args.level 0 in
    subst P c.self.view_is (clear_marks _ _ _ _ (head_place _ _ c.requires.place c.requires.level) (head_node _ _ c.requires.level))
