use Rattle.std.proofs.Common.{ℕ, ◌*◌, ◌/◌, ◌^◌, ◌≡◌, ◌≤◌, ◌<◌, drop, max, slice_index}
use Rattle.zp_tree.specs.declared.constants.TheConstants.{FAN}
use Rattle.zp_tree.specs.RankRows.{best_from, IsInRow, IsRankedBut}
use Rattle.zp_tree.proofs.ranks.raise.Given as goal

-- the nodes hold what they should but the one above, which should hold the larger of the rank and what it holds
abbrev pub invariant-rising : goal.invariant-rising
invariant-rising l =
    (d : ℕ) → IsInRow d l.fn.place → IsRankedBut d l.fn.nodes (l.fn.place / FAN) → (0 < d → max (slice_index l.fn.nodes (l.fn.place / FAN)) l.fn.rank ≡ best_from l.fn.nodes (FAN * (l.fn.place / FAN)) FAN)
    → (i : ℕ) × (i ≤ d) × IsInRow i l.node × IsRankedBut d l.nodes (l.node / FAN) × (drop (FAN ^ d) l.nodes ≡ drop (FAN ^ d) l.fn.nodes)
    × (0 < i → max (slice_index l.nodes (l.node / FAN)) l.fn.rank ≡ best_from l.nodes (FAN * (l.node / FAN)) FAN)

abbrev pub decreases-rising : goal.decreases-rising
decreases-rising l = l.node
