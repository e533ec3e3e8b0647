use Rattle.std.proofs.Common.{◌+◌, ◌∙◌, arith}
use Rattle.zp_tree.specs.RankRows.{IsInRow}
use Rattle.zp_tree.proofs.RankRow.{group_row, group_read}
use Rattle.zp_tree.proofs.ranks.RankTree.read.Goals.{After-row}
use Rattle.zp_tree.proofs.ranks.RankTree.read.Goals as goal

-- the group's node
at : (c : After-row) → IsInRow c.self.invariant.0 (c.row.result + c.args.group)
at c = group_row c.self.invariant.0 _ _ c.self.inside.nodes _ c.self.invariant.3 c.self.view_is c.row.ensures.row c.requires.group

pub read-requires-clause-inside : goal.read-requires-clause-inside
read-requires-clause-inside c = omega (arith, (at (goal.at.read-requires-clause-inside c).After-row).to, c.self.invariant.3.size)

pub returns-clause-rank : goal.returns-clause-rank
returns-clause-rank c = c.read.ensures.node 0 ∙ group_read c.self.invariant.0 _ c.args.group c.self.inside.nodes _ c.self.invariant.3 c.self.view_is c.row.ensures.row
