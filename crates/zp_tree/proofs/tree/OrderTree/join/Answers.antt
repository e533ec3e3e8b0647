use Rattle.zp_model.specs.declared.constants.TheConstants.{LARGEST_ORDER}
use Rattle.zp_tree.specs.Blocks.{joined_set}
use Rattle.zp_tree.specs.Marks.{IsJoinedUp}
use Rattle.zp_tree.specs.Spelled.{IsTreeOf}
use Rattle.zp_tree.proofs.JoinedSets.{IsJoining}
use Rattle.zp_tree.proofs.Spelling.{tree_in, spelled_is, spelled_tree}
use Rattle.zp_tree.proofs.TreeSteps.{join_tree}
use Rattle.zp_tree.proofs.tree.OrderTree.join.Goals.{After-raise_rank}
use Rattle.zp_tree.proofs.tree.OrderTree.join.Goals as goal

after : (c : After-raise_rank) → IsTreeOf LARGEST_ORDER c.self.inside.pages c.join_marks.new.low c.join_marks.new.high c.raise_rank.new.ranks c.self.inside.stale (joined_set c.args.self.now c.args.at c.args.from c.args.to)
after c =
    let t = tree_in LARGEST_ORDER _ _ _ _ _ _ c.self.view_is c.self.invariant in
    let r : IsJoinedUp c.self.inside.low c.self.inside.high c.join_marks.new.low c.join_marks.new.high c.args.at c.args.from c.args.to = c.join_marks.ensures in
    let j : IsJoining LARGEST_ORDER c.args.self.now c.args.at c.args.from c.args.to = record {
      set = t.set;
      block = c.requires.block;
      up = c.requires.up;
      aligned = c.requires.aligned;
      apart = c.requires.apart;
      buddies = c.requires.buddies;
    } in
    join_tree _ _ _ _ _ _ _ _ _ _ _ _ _ t j r c.raise_rank.ensures

pub invariant_of-self : goal.invariant_of-self
invariant_of-self c = spelled_tree _ _ _ _ _ _ _ (after (goal.at.invariant_of-self c).After-raise_rank)

pub returns : goal.returns
returns c = spelled_is _ _ _ _ _ _ _ (after (goal.at.returns c).After-raise_rank)
