-- What the seats of a board's row know, and the rule over them: one seat stores, and what a seat has seen is a beginning of what is published.
use Rattle.std.specs.Prelude.{◌≡◌, ℕ, ◌+◌, ◌-◌, ◌*◌, ◌<◌, ◌≤◌, true, false, List, [], ◌∷◌, ◌++◌, length, slice_index, slice_index_or}
use mathlib.Core.Option.{some}
use mathlib.Core.List.{IsPrefix}
use lib.ListN.{get_elem?}
use Rattle.atomic_table.specs.Table.{State, Me, Step}
use Rattle.atomic_table.specs.Seated.{TableId}
use Rattle.zp_board.specs.declared.word_row.BoardView.{BoardView}

-- a board, to a contract: it has room for the opening entry and for as many more as its capacity
pub record WordBoardState : Type 0 where
  pub tie : TableId
  pub capacity : ℕ

-- the publisher: the entries that are published
pub record WordPublisherState : Type 0 where
  pub tie : TableId
  pub published : List (List ℕ)

-- a reader: the entries that it has seen, and the places that its looks found since it was made, or since it last read with the publisher at hand
pub record WordReaderState : Type 0 where
  pub tie : TableId
  pub seen : List (List ℕ)
  pub looks : List ℕ

-- an entry of a list, counted from 0
abbrev pub entry_at : List (List ℕ) → ℕ → List ℕ
entry_at es n = slice_index_or es n []

-- the last one
abbrev pub last_of : List (List ℕ) → List ℕ
last_of es = entry_at es (length es - 1)

abbrev pub blank : ℕ → BoardView
blank size = record { size = size; stores = true; entries = []; next = []; reads = false; seen = []; looks = [] }

abbrev pub emptied : BoardView → BoardView
emptied v = record v { stores = false; reads = false }

abbrev pub storing : BoardView → BoardView
storing v = record v { reads = false }

abbrev pub reading : BoardView → BoardView
reading v = record v { stores = false; looks = [] }

abbrev pub both_of : BoardView → BoardView → BoardView
both_of v w = record v { reads = w.reads; seen = w.seen }

abbrev pub newcomer : BoardView → BoardView
newcomer v = record v { stores = false; reads = true; seen = v.entries; looks = [] }

-- the seat that stores, the entries that are published, and the next one, as far as it is written
pub record Posts : Type 0 where
  pub storer : ℕ
  pub entries : List (List ℕ)
  pub next : List ℕ

-- what the rule says of one seat
pub record Sits (size : ℕ) (b : Posts) (by : ℕ) (v : BoardView) : Type 0 where
  pub stores : v.stores ≡ true → (by ≡ b.storer) × (v.entries ≡ b.entries) × (v.next ≡ b.next) × (v.size ≡ size)
  pub reads : v.reads ≡ true → IsPrefix v.seen b.entries × (v.size ≡ size)

module _ (W : ℕ) where
  -- where word k of entry n stands
  abbrev pub word_at : ℕ → ℕ → ℕ
  word_at n k = W * n + 1 + k

  -- each entry has W words
  abbrev pub AreWide : List (List ℕ) → Type 0
  AreWide es = (n : ℕ) → n < length es → length (entry_at es n) ≡ W

  -- what the rule says of the words
  pub record Lies (size : ℕ) (b : Posts) (words : List ℕ) : Type 0 where
    pub size_is : length words ≡ size
    pub room : W * length b.entries + 1 + length b.next ≤ size
    pub wide : AreWide b.entries
    pub place : slice_index words 0 ≡ length b.entries - 1
    pub entries : (n k : ℕ) → n < length b.entries → k < W → slice_index words (word_at n k) ≡ slice_index (entry_at b.entries n) k
    pub next : (k : ℕ) → k < length b.next → slice_index words (word_at (length b.entries) k) ≡ slice_index b.next k

  abbrev pub IsBoarded : ℕ → State (Unit {0}) BoardView → Type 0
  IsBoarded size s = (b : Posts) × Lies size b s.words × ((by : ℕ) (v : BoardView) → get_elem? s.views by ≡ some v → Sits size b by v)

  -- the entries up to the place are seen, and the place is one more that was found. They begin with what was seen. A seat that stores too has seen all that is published
  abbrev pub Looks : Step (Unit {0}) → Me (Unit {0}) BoardView → ℕ → Me (Unit {0}) BoardView → Type 0
  Looks step me found after =
      (after ≡ (record me.0 { seen = after.0.seen; looks = me.0.looks ++ found ∷ [] }, me.1))
      × IsPrefix me.0.seen after.0.seen × (length after.0.seen ≡ found + 1) × (W * length after.0.seen + 1 ≤ me.0.size) × AreWide after.0.seen
      × (me.0.stores ≡ true → after.0.seen ≡ me.0.entries)

  -- a word that was seen is found
  abbrev pub Fetches : Step (Unit {0}) → Me (Unit {0}) BoardView → ℕ → Me (Unit {0}) BoardView → Type 0
  Fetches step me found after =
      (after ≡ me) × ((n k : ℕ) → step.word ≡ word_at n k → n < length me.0.seen → k < W → found ≡ slice_index (entry_at me.0.seen n) k)

-- the word that is stored is one more word of the next entry
abbrev pub Writes : Step (Unit {0}) → Me (Unit {0}) BoardView → ℕ → Me (Unit {0}) BoardView → Type 0
Writes step me new after = after ≡ (record me.0 { next = me.0.next ++ new ∷ [] }, me.1)

-- the next entry is published
abbrev pub Opens : Step (Unit {0}) → Me (Unit {0}) BoardView → ℕ → Me (Unit {0}) BoardView → Type 0
Opens step me new after = after ≡ (record me.0 { entries = me.0.entries ++ me.0.next ∷ []; next = [] }, me.1)
