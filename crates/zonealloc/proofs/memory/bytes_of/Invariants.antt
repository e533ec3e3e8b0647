use Rattle.std.proofs.Common.{◌≡◌, ◌≤◌, ◌+◌, ◌*◌, All, take}
use Rattle.std.specs.List.{sum_by}
use Rattle.zonealloc.specs.declared.memory.TheConstants.{CREW_BYTES, ROW_BYTES}
use Rattle.zonealloc.specs.Memory.{HasSize, zone_bytes}
use Rattle.zonealloc.proofs.memory.bytes_of.Given as goal

abbrev pub invariant-loop-zone : goal.invariant-loop-zone
invariant-loop-zone l = record {
  sum : l.bytes ≡ ROW_BYTES + CREW_BYTES * l.workers + sum_by (zone_bytes l.workers) (take l.zone-index l.zones);
  sizes : All HasSize (take l.zone-index l.zones);
  small : l.bytes ≤ 4096 + l.zone-index * 8589934592;
}
