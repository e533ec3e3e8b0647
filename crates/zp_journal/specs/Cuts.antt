-- A zone's journal that is cut (this profile).
use Rattle.std.specs.Prelude.{ℕ, ◌≡◌, ◌≤◌, drop, length}
use Rattle.zp_model.specs.Run.{IsHistory}
use Rattle.zp_zone.specs.Seats.{ZoneState}
use Rattle.zp_journal.specs.Journals.{JournalState}

-- how many entries were handed over, and the journal since
pub record CutState : Type 0 where
  pub handed : ℕ
  pub journal : JournalState

-- the zone's entries are those that were handed over and those of the journal, one after another
pub record IsCutOf (z : ZoneState) (c : CutState) : Type 0 where
  pub within : c.handed ≤ length z.entries
  pub rest : c.journal.entries ≡ drop c.handed z.entries
  pub history : IsHistory z.plain z.entries
