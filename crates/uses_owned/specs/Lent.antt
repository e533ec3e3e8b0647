-- What a caller says of pages that it keeps.
use Rattle.std.specs.Prelude.{IsTrue}
use Rattle.zp_zone.specs.Seats.{SeatState, has}
use Rattle.uses_owned.specs.declared.huge_page.Run.{Run}

-- the pages are the seat's, as one block
abbrev pub IsLent : SeatState → Run → Type 0
IsLent seat run = IsTrue (has seat run.page run.order)
