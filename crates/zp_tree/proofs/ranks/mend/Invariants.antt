use Rattle.std.proofs.Common.{ℕ, ◌*◌, ◌/◌, ◌^◌, ◌≡◌, ◌≤◌, ◌<◌, drop, slice_index}
use Rattle.zp_tree.specs.declared.constants.TheConstants.{FAN}
use Rattle.zp_tree.specs.RankRows.{best_from, IsInRow, IsRankedBut}
use Rattle.zp_tree.proofs.ranks.mend.Given as goal

-- the nodes hold what they should but the one above, which holds as much or more, and the last row is as it was
abbrev pub invariant-mending : goal.invariant-mending
invariant-mending l =
    (d : ℕ) → IsInRow d l.fn.rank → IsRankedBut d l.fn.nodes (l.fn.rank / FAN) → (0 < d → best_from l.fn.nodes (FAN * (l.fn.rank / FAN)) FAN ≤ slice_index l.fn.nodes (l.fn.rank / FAN))
    → (i : ℕ) × (i ≤ d) × IsInRow i l.node × IsRankedBut d l.nodes (l.node / FAN) × (drop (FAN ^ d) l.nodes ≡ drop (FAN ^ d) l.fn.nodes)
    × (0 < i → best_from l.nodes (FAN * (l.node / FAN)) FAN ≤ slice_index l.nodes (l.node / FAN))

abbrev pub decreases-mending : goal.decreases-mending
decreases-mending l = l.node
