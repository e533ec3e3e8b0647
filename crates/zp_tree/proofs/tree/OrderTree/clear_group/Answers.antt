use Rattle.std.proofs.Common.{◌<◌, arith, length}
use Rattle.zp_model.specs.declared.constants.TheConstants.{LARGEST_ORDER}
use Rattle.zp_tree.specs.Blocks.{without_group}
use Rattle.zp_tree.specs.Marks.{IsGroupCleared}
use Rattle.zp_tree.specs.Spelled.{IsTreeOf}
use Rattle.zp_tree.proofs.ClearedGroups.{group_tree}
use Rattle.zp_tree.proofs.Spelling.{tree_in, spelled_is, spelled_tree}
use Rattle.zp_tree.proofs.tree.OrderTree.clear_group.Goals.{After-put}
use Rattle.zp_tree.proofs.tree.OrderTree.clear_group.Goals as goal

after : (c : After-put) → IsTreeOf LARGEST_ORDER c.self.inside.pages c.clear_marks.new.low c.clear_marks.new.high c.put.new.self c.self.inside.stale (without_group c.args.self.now c.args.group)
after c =
    let t = tree_in LARGEST_ORDER _ _ _ _ _ _ c.self.view_is c.self.invariant in
    let r : IsGroupCleared c.self.inside.low c.self.inside.high c.clear_marks.new.low c.clear_marks.new.high c.args.group = c.clear_marks.ensures in
    let room : c.args.group < length c.self.inside.ranks = omega (arith, c.requires, t.room, t.rows, t.pages_of) in
    group_tree _ _ _ _ _ _ _ _ _ _ _ t room r (rw c.none.ensures at c.put.ensures)

pub invariant_of-self : goal.invariant_of-self
invariant_of-self c = spelled_tree _ _ _ _ _ _ _ (after (goal.at.invariant_of-self c).After-put)

pub returns : goal.returns
returns c = spelled_is _ _ _ _ _ _ _ (after (goal.at.returns c).After-put)
