-- The counts of a zone behind a lock, as they stand on a board beside it (this profile).
use Rattle.std.specs.Prelude.{ℕ, ◌≡◌, ◌+◌, Bool, false, List, [], ◌∷◌, ◌++◌, Option, None, Some, cond, length, ltb, min, slice_get, take}
use Rattle.zp_model.specs.declared.counts.Counts.{Counts}
use Rattle.zp_model.specs.Info.{counts_of}
use Rattle.zp_model.specs.Run.{opening_of, run}
use Rattle.zp_model.specs.Zone.{PlainZone}
use Rattle.zp_counts.specs.CountBoards.{BoardState, CountsPublished, CountsSeen}
use Rattle.zp_counts.specs.declared.reading.Reading.{Reading}
use Rattle.zp_zone.specs.Seats.{ZoneState}
use Rattle.zp_gate.specs.declared.publishing.TheConstants.{LAST_PLACE}

-- how many free blocks of each order the zone has, and how many free pages
abbrev pub zone_counts : ZoneState → Counts
zone_counts z = counts_of z.plain.area.largest z.plain.area.free

-- the same after the first n of all requests that were made of it
abbrev pub counts_after : ZoneState → ℕ → Counts
counts_after z n = let y : PlainZone = run (opening_of z.plain) (take n z.entries) in counts_of y.area.largest y.area.free

-- each of these is, by its place, the zone's counts after so many requests
abbrev pub AreCountsOf : ZoneState → List Counts → Type 0
AreCountsOf z cs = (n : ℕ) (c : Counts) → slice_get cs n ≡ Some c → c ≡ counts_after z n

-- what is published of a zone: its counts at its opening and after each request, as far as places can be numbered
pub record IsPublished (z : ZoneState) (cs : List Counts) : Type 0 where
  pub many : length cs ≡ min (length z.entries) LAST_PLACE + 1
  pub each : AreCountsOf z cs

-- a reading is the zone's counts after as many requests as its place says
abbrev pub IsCountsOf : ZoneState → Reading → Type 0
IsCountsOf z r = r.counts ≡ counts_after z r.place

-- a board has room for the opening counts and so many more, and its words hold any counts
abbrev pub IsWide : BoardState → Type 0
IsWide b = (b.capacity ≡ LAST_PLACE) × (b.tie.packed ≡ false)

-- the right to publish is one for this board; or there is neither
abbrev pub IsTiedTo : Option BoardState → Option CountsPublished → Type 0
IsTiedTo None None = Unit {0}
IsTiedTo (Some b) (Some p) = (p.tie ≡ b.tie) × IsWide b
IsTiedTo b p = ⊥

-- what is published on this board is of the zone; or there is no board
abbrev pub IsBoardOf : Option BoardState → ZoneState → Option CountsPublished → Type 0
IsBoardOf None z None = Unit {0}
IsBoardOf (Some b) z (Some p) = (p.tie ≡ b.tie) × IsPublished z p.published
IsBoardOf b z p = ⊥

-- counts on which the zone's follow, if there is room
abbrev pub with_counts : ZoneState → List Counts → List Counts
with_counts z cs = cond (ltb LAST_PLACE (length cs)) cs (cs ++ zone_counts z ∷ [])

-- what is published, where there is a board, once the zone was asked, or was not
abbrev pub board_after : Bool → ZoneState → Option CountsPublished → Option CountsPublished
board_after asked z None = None
board_after asked z (Some p) = Some (cond asked (record p { published = with_counts z p.published }) p)

-- the reader has seen all that is published, and looked at nothing since
abbrev pub HasRead : Option CountsPublished → CountsSeen → Type 0
HasRead None r = ⊥
HasRead (Some p) r = r ≡ record { tie = p.tie; seen = p.published; known = length p.published; looks = [] }
