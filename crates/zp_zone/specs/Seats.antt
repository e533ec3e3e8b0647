-- A zone and its seats as contracts see them, and what a request leaves of them for the calls after it (this profile).
use Rattle.std.specs.Prelude.{ℕ, ◌≡◌, ◌≢◌, Bool, true, false, IsTrue, List, [], All, length, map, replicate, None}
use Rattle.std.specs.List.{range_with_len}
use Rattle.atomic_table.specs.Seated.{TableId}
use Rattle.zp_model.specs.Entries.{Entry}
use Rattle.zp_model.specs.declared.request.Request.{Request}
use Rattle.zp_model.specs.declared.request.Reply.{Reply}
use Rattle.zp_model.specs.Rows.{stands_in}
use Rattle.zp_model.specs.Zone.{PlainZone, workers_of}
use Rattle.zp_model.specs.Run.{IsHistory}
use Rattle.zp_model.specs.Books as part_of
use Rattle.zp_model.specs.Books.{Books, Part, part, has_block, entered, noted, noted_in}
use Rattle.zp_model.specs.Runs.{is_within}
use Rattle.zp_tie.specs.Ties.{Kept}

-- the zone's tie is what tells its seats from those of other zones; the entries are those of all requests made so far
pub record ZoneState : Type 0 where
  pub tie : TableId
  pub name : List ℕ
  pub plain : PlainZone
  pub entries : List Entry

-- a worker's right to act in the zone of this tie, with what is the worker's there
pub record SeatState : Type 0 where
  pub tie : TableId
  pub worker : ℕ
  pub part : Part

-- the seat was made with this zone
abbrev pub IsSeatOf : ZoneState → SeatState → Type 0
IsSeatOf z s = s.tie ≡ z.tie

-- each seat of the zone is one of it still
abbrev pub KeepsSeats : ZoneState → ZoneState → Type 0
KeepsSeats before after = (s : SeatState) → IsSeatOf before s → IsSeatOf after s

abbrev pub books : ZoneState → Books
books z = record { plain = z.plain; entries = z.entries }

-- the keeper has dealt a seat to each worker of the zone, and the entries are the zone's history
abbrev pub KeepsBooks : Kept Books → Type 0
KeepsBooks k = (k.dealt ≡ workers_of k.whole.plain) × IsHistory k.whole.plain k.whole.entries

-- the zone after worker w's request
abbrev pub asked : ℕ → Request → ZoneState → ZoneState
asked w r z = let b : Books = entered w r (books z) in record { tie = z.tie; name = z.name; plain = b.plain; entries = b.entries }

-- the seat, when its request is answered so
abbrev pub replied : Request → Reply → SeatState → SeatState
replied r q s = record { tie = s.tie; worker = s.worker; part = noted s.worker r q s.part }

-- the seat, when any request of its is answered so in the zone z as it was
abbrev pub replied_in : PlainZone → Request → Reply → SeatState → SeatState
replied_in z r q s = record { tie = s.tie; worker = s.worker; part = noted_in z s.worker r q s.part }

-- the seat has what is its worker's in the zone
abbrev pub Agrees : ZoneState → SeatState → Type 0
Agrees z s = s.part ≡ part s.worker (books z)

-- whether the block of order k at an absolute page is one of the seat's
abbrev pub has : SeatState → ℕ → ℕ → Bool
has s p k = has_block s.worker s.part p k

-- whether the seat has the n pages from an absolute page on: there is one at least, and each lies in a block of the seat's
abbrev pub has_run : SeatState → ℕ → ℕ → Bool
has_run s p n = part_of.has_run s.worker s.part p n

-- each of the pages is the seat's, as a block of order 0
abbrev pub HasPages : SeatState → List ℕ → Type 0
HasPages s pages = All (λ page. IsTrue (has s page 0)) pages

-- no block of the seat starts at the absolute page
abbrev pub IsNewTo : SeatState → ℕ → Type 0
IsNewTo s p = (k : ℕ) → has s p k ≡ false

-- nor at one of the n pages from it on
abbrev pub AreNewTo : SeatState → ℕ → ℕ → Type 0
AreNewTo s p n = (q : ℕ) → is_within p n q ≡ true → IsNewTo s q

-- each page of the seat is the seat's still, but for the n pages from page p on
abbrev pub KeepsPagesBut : ℕ → ℕ → SeatState → SeatState → Type 0
KeepsPagesBut p n before after = (q : ℕ) → is_within p n q ≡ false → IsTrue (has_run before q 1) → IsTrue (has_run after q 1)

-- each block of the seat is the seat's still
abbrev pub KeepsBlocks : SeatState → SeatState → Type 0
KeepsBlocks before after = (p k : ℕ) → IsTrue (has before p k) → IsTrue (has after p k)

-- each block of the seat at another page than this one
abbrev pub KeepsBlocksBut : ℕ → SeatState → SeatState → Type 0
KeepsBlocksBut page before after = (p k : ℕ) → p ≢ page → IsTrue (has before p k) → IsTrue (has after p k)

-- each block of the seat at another page than these
abbrev pub KeepsBlocksBeside : List ℕ → SeatState → SeatState → Type 0
KeepsBlocksBeside pages before after = (p k : ℕ) → stands_in p pages ≡ false → IsTrue (has before p k) → IsTrue (has after p k)

-- no request was made with the seat: it has no block and no entry
pub record IsUnused (s : SeatState) : Type 0 where
  pub blocks : s.part.blocks ≡ replicate (length s.part.blocks) None
  pub entries : s.part.entries ≡ []

-- the first n seats of a tie over these books, one for each worker in order
abbrev pub seats_of : TableId → Books → ℕ → List SeatState
seats_of t b n = map (λ w. let s : SeatState = record { tie = t; worker = w; part = part w b } in s) (range_with_len 0 n)
