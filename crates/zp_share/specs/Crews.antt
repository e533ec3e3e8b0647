-- A row of zones with the shares of all its workers.
use Rattle.std.specs.Prelude.{◌≡◌, List, All, length, map}
use Rattle.std.specs.List.{range_with_len}
use Rattle.zp_model.specs.Zone.{workers_of}
use Rattle.zp_zone.specs.NamedZone.{NamedZone}
use Rattle.zp_zone.specs.Seats.{ZoneState}
use Rattle.zp_share.specs.PlainShares.{PlainShare}
use Rattle.zp_share.specs.Shares.{ShareState, IsShareOf, key_of, named_zone, plain}

pub record CrewState : Type 0 where
  -- the zones, the lowest first, and the share of each worker in order
  pub zones : List NamedZone
  pub shares : List PlainShare

-- what contracts see of zones and shares
abbrev pub crew_of : List ZoneState → List ShareState → CrewState
crew_of zones shares = record { zones = map named_zone zones; shares = map plain shares }

-- these are the shares of the workers of the zones, in order
pub record AreSharesOf (zones : List ZoneState) (shares : List ShareState) : Type 0 where
  pub fit : All (IsShareOf (map key_of zones)) shares
  pub workers : map (λ (s : ShareState). s.worker) shares ≡ range_with_len 0 (length shares)
  pub crew : All (λ (z : ZoneState). workers_of z.plain ≡ length shares) zones
