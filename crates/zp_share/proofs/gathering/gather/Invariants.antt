use Rattle.std.proofs.Common.{ℕ, ◌≡◌, ◌<◌, map}
use Rattle.std.specs.List.{range_with_len}
use Rattle.zp_share.specs.Commands.{zone_at}
use Rattle.zp_share.specs.Shares.{named_zone, plain}
use Rattle.zp_share.specs.Gathering.{AddsUp, owns_at, totals_of}
use Rattle.zp_share.proofs.gathering.gather.Given as goal

abbrev pub invariant-loop-place : goal.invariant-loop-place
invariant-loop-place l =
    record {
      zones : l.zones ≡ l.initial.zones;
      shares : l.shares ≡ l.initial.shares;
      totals : l.totals.items ≡ map (λ i. totals_of (zone_at (map named_zone l.initial.zones) i).plain (owns_at (map plain l.initial.shares) i)) (range_with_len 0 l.place);
      adds_up : (i : ℕ) → i < l.place → AddsUp (zone_at (map named_zone l.initial.zones) i).plain (owns_at (map plain l.initial.shares) i);
    }
