use Rattle.std.proofs.Common.{ℕ, ◌+◌, ◌-◌, ◌<◌, ◌≤◌}
use Rattle.zp_view.proofs.Lying.{Misses}
use Rattle.zp_view.proofs.blocks.block_around.Given as goal

-- no page so far begins a block that has the page
abbrev pub invariant-down : goal.invariant-down
invariant-down l = (d : ℕ) → d < l.back → l.zone.plain.base + d ≤ l.number → Misses l.zone.plain (l.number - d) l.page
