use Rattle.std.proofs.Common.{ℕ, ◌<◌, List, subst, arith, length}
use Rattle.zp_tree.specs.RankRows.{IsTopRank}
use Rattle.zp_tree.proofs.RankNodes.{row_pos}
use Rattle.zp_tree.proofs.RankRow.{root_top, row_seen}
use Rattle.zp_tree.proofs.ranks.RankTree.largest.Goals.{After-self}
use Rattle.zp_tree.proofs.ranks.RankTree.largest.Goals as goal

root_in : (c : After-self) → 1 < length c.self.inside.nodes
root_in c = omega (arith, c.self.invariant.3.size, row_pos c.self.invariant.0)

pub read-requires-clause-inside : goal.read-requires-clause-inside
read-requires-clause-inside c = root_in (goal.at.read-requires-clause-inside c).After-self

pub returns : goal.returns
returns c =
    let inv = c.self.invariant in
    let P : List ℕ → Type 0 = λ rs. IsTopRank rs c.read.result in
    subst P (row_seen inv.0 c.self.inside.nodes _ inv.3 c.self.view_is) (rw (c.read.ensures.node 0) (root_top inv.0 c.self.inside.nodes inv.3))
