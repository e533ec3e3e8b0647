-- A zone's journal, and what a replay finds of it (this profile).
use Rattle.std.specs.Prelude.{ℕ, ◌≡◌, ◌≤◌, ◌-◌, ◌++◌, List, length, take, slice_get, Option, None, Some}
use Rattle.zp_model.specs.declared.counts.Counts.{Counts}
use Rattle.zp_model.specs.Entries.{Entry}
use Rattle.zp_model.specs.Info.{counts_of}
use Rattle.zp_model.specs.Zone.{PlainZone}
use Rattle.zp_model.specs.Run.{run, IsLegal, IsLegalEntry, IsHistory}
use Rattle.zp_zone.specs.Seats.{ZoneState}
use Rattle.zp_journal.specs.Asking.{IsTried}
use Rattle.zp_journal.specs.declared.replay.JournalCheck.{JournalCheck}
use Rattle.zp_journal.specs.declared.replay.JournalCheck.TheVariants.{Legal, Differs}

pub record JournalState : Type 0 where
  -- how many entries there is room for, and the entries, the oldest first
  pub capacity : ℕ
  pub entries : List Entry

-- the journal has all that was asked of the zone since its opening, and the zone is the run of it
pub record IsJournalOf (z : ZoneState) (j : JournalState) : Type 0 where
  pub entries : j.entries ≡ z.entries
  pub history : IsHistory z.plain z.entries

-- entry n, counted from 1, is the first that is not legal from this zone on: its request cannot be made there, or is answered
-- otherwise
pub record IsFirstIllegal (z : PlainZone) (es : List Entry) (n : ℕ) : Type 0 where
  pub some : 1 ≤ n
  pub within : n ≤ length es
  pub before : IsLegal z (take (n - 1) es)
  pub illegal : (e : Entry) → slice_get es (n - 1) ≡ Some e → IsLegalEntry (run z (take (n - 1) es)) e → ⊥

-- what a replay from this opening, under this name, finds: that all entries are legal, with the zone of their run; or the first
-- that is not
abbrev pub IsChecked : List ℕ → PlainZone → List Entry → JournalCheck → Type 0
IsChecked name z es (Legal y) = IsLegal z es × (y.name ≡ name) × (y.plain ≡ run z es) × (y.entries ≡ es)
IsChecked name z es (Differs n) = IsFirstIllegal z es n

-- the counts of a zone that was opened so, after the first n of these entries
abbrev pub counts_after : PlainZone → List Entry → ℕ → Counts
counts_after z es n = let y : PlainZone = run z (take n es) in counts_of y.area.largest y.area.free

-- there are so many entries, and they are legal
pub record IsLegalUpTo (z : PlainZone) (es : List Entry) (n : ℕ) : Type 0 where
  pub within : n ≤ length es
  pub legal : IsLegal z (take n es)

-- what is told of the first n entries: the counts after them, where there are so many and they are legal, and else nothing
abbrev pub IsCountedAfter : PlainZone → List Entry → ℕ → Option Counts → Type 0
IsCountedAfter z es n None = IsLegalUpTo z es n → ⊥
IsCountedAfter z es n (Some c) = IsLegalUpTo z es n × (c ≡ counts_after z es n)

-- the zone after these entries: each was asked of it, one after another
abbrev pub gone_on : List Entry → ZoneState → ZoneState
gone_on es z = record { tie = z.tie; name = z.name; plain = run z.plain es; entries = z.entries ++ es }

-- the zone is left where entry n, counted from 1, was tried after those before it
abbrev pub IsLeftAt : ZoneState → List Entry → ℕ → ZoneState → Type 0
IsLeftAt z es n y = (e : Entry) → slice_get es (n - 1) ≡ Some e → IsTried (gone_on (take (n - 1) es) z) e y

-- what is found where a zone goes on as these entries say, and the zone that it leaves: that all of them are legal, with the zone after
-- them; or the first that is not, with the zone where it was tried
abbrev pub IsReplayedFurther : ZoneState → List Entry → Option ℕ → ZoneState → Type 0
IsReplayedFurther z es None y = IsLegal z.plain es × (y ≡ gone_on es z)
IsReplayedFurther z es (Some n) y = IsFirstIllegal z.plain es n × IsLeftAt z es n y

-- the same of the first m entries
abbrev pub IsRepeatedUpTo : ZoneState → List Entry → ℕ → Option ℕ → ZoneState → Type 0
IsRepeatedUpTo z es m None y = IsReplayedFurther z (take m es) None y
IsRepeatedUpTo z es m (Some n) y = (n ≤ m) × IsReplayedFurther z es (Some n) y
