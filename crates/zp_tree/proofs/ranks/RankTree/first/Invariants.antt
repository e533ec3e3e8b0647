use Rattle.std.proofs.Common.{ℕ, ◌+◌, ◌-◌, ◌≡◌, ◌<◌, slice_index}
use Rattle.zp_tree.specs.RankRows.{IsRanked}
use Rattle.zp_tree.proofs.RankWays.{IsOnWay}
use Rattle.zp_tree.proofs.ranks.RankTree.first.Given as goal

abbrev pub invariant-rows : goal.invariant-rows
invariant-rows l = (d : ℕ) → IsRanked d l.self-inside.nodes → (j : ℕ) × IsOnWay d j l.node l.fn.rank l.self-inside.nodes × (l.meter ≡ l.initial.meter + j) × (0 < j → l.held ≡ slice_index l.self-inside.nodes l.node)

abbrev pub decreases-rows : goal.decreases-rows
decreases-rows l = l.row - l.node
