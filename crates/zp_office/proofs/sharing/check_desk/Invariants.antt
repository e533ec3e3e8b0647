use Rattle.std.proofs.Common.{ℕ, ◌≡◌, ◌<◌, Some}
use Rattle.std.specs.List.{slice_get}
use Rattle.zp_zone.specs.Seats.{ZoneState}
use Rattle.zp_share.specs.ZoneShares.{SharesIn}
use Rattle.zp_share.specs.Shares.{share_at}
use Rattle.zp_office.proofs.sharing.check_desk.Given as goal

-- the desk's share agrees with each of the zones so far, and all is as it was
abbrev pub invariant-loop-place : goal.invariant-loop-place
invariant-loop-place l =
    record {
      zones : l.zones ≡ l.initial.zones;
      desk : l.desk ≡ l.initial.desk;
      agree : (i : ℕ) → i < l.place → (z : ZoneState) → slice_get l.initial.zones i ≡ Some z → SharesIn z (share_at l.initial.desk.share i);
    }
