use Rattle.std.proofs.Common.{ℕ, ◌≡◌, ◌≤◌, ◌<◌, ◌+◌, ◌^◌, slice_index_or}
use Rattle.zonealloc.specs.declared.zone_spec.ZoneSpec.{ZoneSpec}
use Rattle.zonealloc.proofs.zone_spec.are_apart.Given as goal

abbrev pub invariant-loop-zone : goal.invariant-loop-zone
invariant-loop-zone l = record {
  apart : (i : ℕ) (none : ZoneSpec) → i + 1 < l.zone-index → (slice_index_or l.zones i none).base + (slice_index_or l.zones i none).pages ≤ (slice_index_or l.zones (i + 1) none).base;
  end : (i : ℕ) (none : ZoneSpec) → i + 1 ≡ l.zone-index → l.end ≡ (slice_index_or l.zones i none).base + (slice_index_or l.zones i none).pages;
  first : l.zone-index ≡ 0 → l.end ≡ 0;
  small : l.end < 2 ^ 33;
}
