-- What a C program's calls with a reader of a zone's board come to, by their answers (this profile).
use Rattle.std.specs.Prelude.{ℕ, ◌≡◌, ◌≤◌, ◌⊎◌, ◌↔◌, Option, None, Some}
use Rattle.zp_counts.specs.declared.reading.Reading.{Reading}
use Rattle.zp_gate.specs.declared.reader_error.ReaderError.{ReaderError}
use Rattle.zp_gate.specs.declared.reader_error.ReaderError.TheVariants.{Busy, NoBoard, NoMemory, NoZone}
use Rattle.zp_gate.specs.GatedWorkers.{HasZone, WorkerState, gated_at}
use Rattle.zp_gate.specs.Readers.{IsNewReader, IsRead, ReaderState}
use Rattle.zonealloc.specs.declared.boards.ZoneReading.{ZoneReading}
use Rattle.zonealloc.specs.Calls.{HasNoZone, IsOf}

abbrev pub reader_number : ReaderError → ℕ
reader_number NoZone = 40
reader_number NoBoard = 47
reader_number (Busy b) = 42
reader_number NoMemory = 6

abbrev pub reading_told : Reading → ZoneReading
reading_told r = record { by_order = r.counts.by_order; free = r.counts.free; place = r.place }

-- the worker's zone at place i has no board
abbrev pub HasNoBoard : ℕ → WorkerState → Type 0
HasNoBoard i v = HasZone i v × ((gated_at v i).key.board ≡ None)

-- Answered 0, a new reader of the worker's zone at place i is in the handle, which was empty; else that is as it was. 41: nothing is in the worker's
-- handle, or something in the reader's. 40: there is no such zone. 47: it has no board
pub record IsReaderCall (i code : ℕ) (r s : Option ReaderState) (b a : Option WorkerState) : Type 0 where
  pub same : a ≡ b
  pub made : code ≡ 0 → (v : WorkerState) × (x : ReaderState) × (b ≡ Some v) × (r ≡ None) × (s ≡ Some x) × HasZone i v × IsNewReader (gated_at v i).key x
  pub kept : 1 ≤ code → s ≡ r
  pub handles : (code ≡ 41) ↔ ((b ≡ None) ⊎ ¬ (r ≡ None))
  pub zone : (code ≡ 40) ↔ ((r ≡ None) × IsOf (HasNoZone i) b)
  pub board : (code ≡ 47) ↔ ((r ≡ None) × IsOf (HasNoBoard i) b)
  pub codes : (code ≡ 0) ⊎ ((code ≡ 6) ⊎ ((code ≡ 40) ⊎ ((code ≡ 41) ⊎ ((code ≡ 42) ⊎ (code ≡ 47)))))

-- answered 0, the reader in the handle read this, with nobody asked; else, where there is none, nothing changed
pub record IsReadCall (code : ℕ) (before after : ZoneReading) (b a : Option ReaderState) : Type 0 where
  pub told : code ≡ 0 → (r : ReaderState) × (s : ReaderState) × (x : Reading) × (b ≡ Some r) × (a ≡ Some s) × IsRead r s x × (after ≡ reading_told x)
  pub kept : 1 ≤ code → (a ≡ b) × (after ≡ before)
  pub empty : (code ≡ 41) ↔ (b ≡ None)
  pub codes : (code ≡ 0) ⊎ (code ≡ 41)

-- the handle is then empty; answered 0, there was a reader
pub record IsEndReaderCall (code : ℕ) (b a : Option ReaderState) : Type 0 where
  pub done : a ≡ None
  pub empty : (code ≡ 41) ↔ (b ≡ None)
  pub codes : (code ≡ 0) ⊎ (code ≡ 41)
