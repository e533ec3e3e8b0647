use Rattle.std.proofs.Common.{ℕ, ◌-◌, ◌*◌, ◌≡◌, ◌≤◌, ◌<◌, ◌^◌}
use Rattle.zp_tree.specs.declared.constants.TheConstants.{FAN, MOST_GROUPS}
use Rattle.zp_tree.proofs.ranks.RankTree.new.Given as goal

-- the row is one below the root, and those above it have no room
abbrev pub invariant-rows : goal.invariant-rows
invariant-rows l = (d : ℕ) × (0 < d) × (l.first ≡ FAN ^ d) × (l.first ≤ FAN * MOST_GROUPS) × ((e : ℕ) → 0 < e → e < d → FAN ^ e < l.groups)

abbrev pub decreases-rows : goal.decreases-rows
decreases-rows l = l.groups - l.first
