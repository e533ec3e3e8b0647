-- The counts of a zone on a board (this profile).
use Rattle.std.specs.Prelude.{ℕ, ◌≡◌, ◌+◌, ◌-◌, ◌<◌, ◌≤◌, ◌⊎◌, Bool, true, false, Some, slice_get, List, [], ◌∷◌, ◌++◌, length, map, min, take, slice_index, slice_index_or}
use Rattle.atomic_table.specs.Seated.{TableId}
use Rattle.zp_model.specs.declared.constants.TheConstants.{NARROW_PAGES, ORDERS}
use Rattle.zp_model.specs.declared.counts.Counts.{Counts}
use Rattle.zp_ring.specs.Rings.{AreLooks, WasMet, WerePassed}
use Rattle.zp_counts.specs.declared.kinds.TheConstants.{SLOTS}
use Rattle.zp_counts.specs.declared.packed.TheConstants.{WIDE, MIDDLE, NARROW}
use Rattle.zp_counts.specs.declared.reading.Reading.{Reading}

-- the number that a word of one count stands for: a count has 32 bits
abbrev pub count_in : ℕ → ℕ
count_in w = min w 4294967295

-- the counts that words of one count each stand for; those of no words are what is taken where nothing is published
abbrev pub counts_in : List ℕ → Counts
counts_in ws = record { by_order = map count_in (take ORDERS ws); free = count_in (slice_index_or ws ORDERS 0) }

-- the counts of these orders are below a limit
abbrev pub StayBelow : Counts → ℕ → ℕ → ℕ → Type 0
StayBelow c from to limit = (k : ℕ) → from ≤ k → k < to → slice_index c.by_order k < limit

-- the counts fit into packed words
abbrev pub ArePackable : Counts → Type 0
ArePackable c = (c.free < WIDE) × StayBelow c 0 2 WIDE × StayBelow c 2 6 MIDDLE × StayBelow c 6 ORDERS NARROW

-- what ties a board to its publisher and its readers: its row of words, whether the board turns, and whether its words are packed
pub record CountTie : Type 0 where
  pub table : TableId
  pub turns : Bool
  pub packed : Bool

-- the words of a board have room for the counts of a zone of so many pages: where they are packed, it has few
abbrev pub HoldsCounts : CountTie → ℕ → Type 0
HoldsCounts tie pages = tie.packed ≡ true → pages ≤ NARROW_PAGES

-- a board, to a contract: it has room for the opening counts and for as many more as its capacity
pub record BoardState : Type 0 where
  pub tie : CountTie
  pub capacity : ℕ

-- the publisher: the counts that are published, the opening ones first
pub record CountsPublished : Type 0 where
  pub tie : CountTie
  pub published : List Counts

-- a reader: the counts that it has seen, how many it knows to be published, and the places at which it looked since it was made, or since it last read with the publisher at hand
pub record CountsSeen : Type 0 where
  pub tie : CountTie
  pub seen : List Counts
  pub known : ℕ
  pub looks : List ℕ

-- a reading of a board that does not turn looks once, and all up to the place that it finds is seen
pub record IsFreshFixedRead (before after : CountsSeen) : Type 0 where
  pub place : ℕ
  pub looked : after.looks ≡ before.looks ++ place ∷ []
  pub found : length after.seen ≡ place + 1
  pub known : after.known ≡ length after.seen

-- a reading of one that turns sees what was the newest at a look of this reading; or nothing new is seen, and in this reading each try was passed by
pub record IsFreshTurningRead (before after : CountsSeen) : Type 0 where
  pub places : List ℕ
  pub looked : after.looks ≡ before.looks ++ places
  pub order : AreLooks places before.known after.known
  pub fresh : WasMet SLOTS places before.known (length after.seen) after.known ⊎ ((after.seen ≡ before.seen) × WerePassed SLOTS places)

-- what a reader saw by a reading is fresh
pub record IsFreshRead (before after : CountsSeen) : Type 0 where
  pub grown : before.known ≤ after.known
  pub within : length after.seen ≤ after.known
  pub fixed : before.tie.turns ≡ false → IsFreshFixedRead before after
  pub turning : before.tie.turns ≡ true → IsFreshTurningRead before after

-- the last of some counts
abbrev pub last_counts : List Counts → Counts
last_counts cs = slice_index_or cs (length cs - 1) (counts_in [])

-- the same with their place
abbrev pub last_reading : List Counts → Reading
last_reading cs = record { counts = last_counts cs; place = length cs - 1 }

-- the reading is one of these counts, at its place
abbrev pub IsReadingOf : List Counts → Reading → Type 0
IsReadingOf cs r = slice_get cs r.place ≡ Some r.counts
