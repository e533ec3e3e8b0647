use Rattle.std.proofs.Common.{ℕ, subst}
use Rattle.zp_model.specs.Block.{head}
use Rattle.zp_tree.specs.Words.{node, IsMarked}
use Rattle.zp_tree.proofs.WordBits.{set_bit, set_marks, set_keeps_none}
use Rattle.zp_tree.proofs.BuddyPlaces.{head_node, head_place, place_inside}
use Rattle.zp_tree.proofs.word.Word.with_around.Goals as goal

pub overflow_shl-result : goal.overflow_shl-result
overflow_shl-result c = place_inside _ _ c.requires.place c.requires.level

pub invariant_of-result : goal.invariant_of-result
invariant_of-result c = set_keeps_none _ _ _ _ (head_place _ _ c.requires.place c.requires.level) (head_node _ _ c.requires.level) c.self.invariant

pub returns : goal.returns
returns c =
    let P : ℕ → Type 0 = λ w. IsMarked w (set_bit c.self.inside.bits (node c.args.place c.args.level)) (head c.args.place c.args.level) c.args.level 1 in
    subst P c.self.view_is (set_marks _ _ _ _ (head_place _ _ c.requires.place c.requires.level) (head_node _ _ c.requires.level))
