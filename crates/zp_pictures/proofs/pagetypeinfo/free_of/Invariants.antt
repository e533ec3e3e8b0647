use Rattle.std.proofs.Common.{ℕ, ◌≡◌, ◌<◌, get_or, length}
use Rattle.zp_model.specs.declared.constants.TheConstants.{ORDERS}
use Rattle.zp_share.specs.Commands.{zone_at}
use Rattle.zp_states.specs.Replays.{office_at}
use Rattle.zp_view.specs.Tables.{typed_blocks}
use Rattle.zp_pictures.proofs.pagetypeinfo.free_of.Given as goal

-- the counts so far
abbrev pub invariant-loop-number : goal.invariant-loop-number
invariant-loop-number l = record {
  long : length l.by_order ≡ ORDERS;
  counts : (k : ℕ) → k < l.number → get_or l.by_order k 0 ≡ typed_blocks (zone_at (office_at l.replay).zones l.zone).plain.area k l.kind;
}
