-- One zone that threads share, and what a worker of it has (this profile).
use Rattle.std.specs.Prelude.{ℕ, [], ◌∷◌, length}
use Rattle.zp_share.specs.Shares.{ShareState}
use Rattle.zp_share.specs.ZoneShares.{opening_share}
use Rattle.zp_shared.specs.Rows.{ViewState}
use Rattle.zp_zone.specs.Seats.{SeatState}

-- a worker at work: its share of the zone, and its view of it
pub record WorkerState : Type 0 where
  pub share : ShareState
  pub view : ViewState

-- the share of a seat of the zone by which no request was made; its refills ask for so many pages, and its lists have room for so many
abbrev pub opening_worker : ℕ → ℕ → SeatState → ShareState
opening_worker batch high_len t = record { worker = t.worker; batch = batch; high_len = high_len; zones = opening_share t (length t.part.blocks) ∷ [] }
