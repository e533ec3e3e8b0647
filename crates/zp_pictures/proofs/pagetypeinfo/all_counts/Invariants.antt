use Rattle.std.proofs.Common.{◌≡◌, map, take}
use Rattle.zp_states.specs.Replays.{office_at}
use Rattle.zp_pictures.specs.Tables.{type_counts}
use Rattle.zp_pictures.proofs.pagetypeinfo.all_counts.Given as goal

-- what is said of the zones so far
abbrev pub invariant-loop-zone : goal.invariant-loop-zone
invariant-loop-zone l = l.counts.items ≡ map type_counts (take l.zone (office_at l.replay).zones)
