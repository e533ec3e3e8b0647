-- What the seats of a turning board's row know, and the rule over them: one seat stores, what a seat has seen is a beginning of what is published, and what it fetched is of the entry that it looks for, as long as that one has not been turned over.
use Rattle.std.specs.Prelude.{◌≡◌, ℕ, ◌+◌, ◌-◌, ◌*◌, ◌%◌, ◌<◌, ◌≤◌, ◌⊎◌, true, false, List, [], ◌∷◌, ◌++◌, length, slice_index}
use mathlib.Core.Option.{some}
use mathlib.Core.List.{IsPrefix}
use lib.ListN.{get_elem?}
use Rattle.atomic_table.specs.Table.{State, Me, Step}
use Rattle.atomic_table.specs.Seated.{TableId}
use Rattle.zp_board.specs.Boards.{entry_at}
use Rattle.zp_ring.specs.declared.ring.TheConstants.{TRIES}
use Rattle.zp_ring.specs.declared.ring_row.RingView.{RingView}

-- a board, to a contract
pub record RingState : Type 0 where
  pub tie : TableId

-- the publisher: the entries that are published
pub record RingPublisherState : Type 0 where
  pub tie : TableId
  pub published : List (List ℕ)

-- a reader: the entries up to the one that it read last, how many it knows to be published, and the places at which it looked since it was made, or since it last read with the publisher at hand
pub record RingReaderState : Type 0 where
  pub tie : TableId
  pub seen : List (List ℕ)
  pub known : ℕ
  pub looks : List ℕ

-- each place is at least so far beyond the one before it
abbrev pub AreApart : ℕ → List ℕ → Type 0
AreApart far places = (k : ℕ) → k + 1 < length places → slice_index places k + far ≤ slice_index places (k + 1)

-- the places of the looks of one reading, one after another: none is before what was known, nor before the look before it, and after the last one it is known how many are published by then
pub record AreLooks (places : List ℕ) (known now_known : ℕ) : Type 0 where
  pub some : 0 < length places
  pub few : length places ≤ TRIES + 1
  pub order : AreApart 0 places
  pub first : known ≤ slice_index places 0 + 1
  pub last : now_known ≡ slice_index places (length places - 1) + 1

-- the last try was met: all up to the place of the last look but one is seen, which is no less than what was known before, and the last look found so few more that the words are whole
pub record WasMet (slots : ℕ) (places : List ℕ) (known seen now_known : ℕ) : Type 0 where
  pub tried : 2 ≤ length places
  pub found : seen ≡ slice_index places (length places - 2) + 1
  pub newer : known ≤ seen
  pub near : now_known + 1 < seen + slots

-- each of the tries was passed by: between two looks so many were published that the words may have been turned over
pub record WerePassed (slots : ℕ) (places : List ℕ) : Type 0 where
  pub tries : length places ≡ TRIES + 1
  pub passed : AreApart (slots - 1) places

-- what a reading answers is fresh: it is what was the newest at a look of this reading; or nothing new is seen, and in this reading each try was passed by
pub record IsFresh (slots : ℕ) (before after : RingReaderState) : Type 0 where
  pub places : List ℕ
  pub looked : after.looks ≡ before.looks ++ places
  pub order : AreLooks places before.known after.known
  pub fresh : WasMet slots places before.known (length after.seen) after.known ⊎ ((after.seen ≡ before.seen) × WerePassed slots places)

abbrev pub blank : RingView
blank = record { stores = true; entries = []; next = []; reads = false; seen = []; from = 0; got = []; looks = [] }

abbrev pub emptied : RingView → RingView
emptied v = record v { stores = false; reads = false }

abbrev pub storing : RingView → RingView
storing v = record v { reads = false }

abbrev pub reading : RingView → RingView
reading v = record v { stores = false; looks = [] }

abbrev pub both_of : RingView → RingView → RingView
both_of v w = record v { reads = w.reads; seen = w.seen; from = w.from; got = w.got }

abbrev pub newcomer : RingView → RingView
newcomer v = record v { stores = false; reads = true; seen = v.entries; from = length v.entries - 1; got = []; looks = [] }

-- the seat that stores, the entries that are published, and the next one, as far as it is written
pub record Posts : Type 0 where
  pub storer : ℕ
  pub entries : List (List ℕ)
  pub next : List ℕ

-- the words stand at the head of the entry
abbrev pub Heads : List ℕ → List ℕ → Type 0
Heads words entry = (k : ℕ) → k < length words → slice_index words k ≡ slice_index entry k

module _ (W S : ℕ) where
  -- where word k of entry n stands
  abbrev pub word_at : ℕ → ℕ → ℕ
  word_at n k = W * (n % S) + 1 + k

  -- each entry has W words
  abbrev pub AreWide : List (List ℕ) → Type 0
  AreWide es = (n : ℕ) → n < length es → length (entry_at es n) ≡ W

  -- what the rule says of one seat. What it fetched is of the entry that it looks for, unless that many were published that the entry's words may have been turned over
  pub record Sits (b : Posts) (by : ℕ) (v : RingView) : Type 0 where
    pub stores : v.stores ≡ true → (by ≡ b.storer) × (v.entries ≡ b.entries) × (v.next ≡ b.next)
    pub reads : v.reads ≡ true → IsPrefix v.seen b.entries × (v.from < length v.seen) × (length b.entries < v.from + S → Heads v.got (entry_at b.entries v.from))

  -- what the rule says of the words. Of the entries the last ones lie in the row, S - 1 of them
  pub record Lies (b : Posts) (words : List ℕ) : Type 0 where
    pub size_is : length words ≡ W * S + 1
    pub short : length b.next ≤ W
    pub wide : AreWide b.entries
    pub place : slice_index words 0 ≡ length b.entries - 1
    pub entries : (n k : ℕ) → n < length b.entries → length b.entries < n + S → k < W → slice_index words (word_at n k) ≡ slice_index (entry_at b.entries n) k
    pub next : (k : ℕ) → k < length b.next → slice_index words (word_at (length b.entries) k) ≡ slice_index b.next k

  abbrev pub IsTurning : State (Unit {0}) RingView → Type 0
  IsTurning s = (b : Posts) × Lies b s.words × ((by : ℕ) (v : RingView) → get_elem? s.views by ≡ some v → Sits b by v)

  -- The entries up to the place are seen, the last of them is looked for, and the place is one more that was found. They begin with what was seen. Where not too many were
  -- published since the look before, what was fetched is of the entry that was looked for. A seat that stores too has seen all that is
  -- published
  abbrev pub Looks : Step (Unit {0}) → Me (Unit {0}) RingView → ℕ → Me (Unit {0}) RingView → Type 0
  Looks step me found after =
      (after ≡ (record me.0 { seen = after.0.seen; from = found; got = []; looks = me.0.looks ++ found ∷ [] }, me.1))
      × IsPrefix me.0.seen after.0.seen × (length after.0.seen ≡ found + 1) × AreWide after.0.seen
      × (found + 1 < me.0.from + S → Heads me.0.got (entry_at after.0.seen me.0.from))
      × (me.0.stores ≡ true → after.0.seen ≡ me.0.entries)

  -- the seat that stores finds a word of an entry that still lies in the row
  abbrev pub Finds : Step (Unit {0}) → Me (Unit {0}) RingView → ℕ → Me (Unit {0}) RingView → Type 0
  Finds step me found after =
      (after ≡ me)
      × ((n k : ℕ) → step.word ≡ word_at n k → n < length me.0.entries → length me.0.entries < n + S → k < W → found ≡ slice_index (entry_at me.0.entries n) k)

-- one word more is fetched
abbrev pub Fetches : Step (Unit {0}) → Me (Unit {0}) RingView → ℕ → Me (Unit {0}) RingView → Type 0
Fetches step me found after = after ≡ (record me.0 { got = me.0.got ++ found ∷ [] }, me.1)

-- the word that is stored is one more word of the next entry
abbrev pub Writes : Step (Unit {0}) → Me (Unit {0}) RingView → ℕ → Me (Unit {0}) RingView → Type 0
Writes step me new after = after ≡ (record me.0 { next = me.0.next ++ new ∷ [] }, me.1)

-- the next entry is published
abbrev pub Opens : Step (Unit {0}) → Me (Unit {0}) RingView → ℕ → Me (Unit {0}) RingView → Type 0
Opens step me new after = after ≡ (record me.0 { entries = me.0.entries ++ me.0.next ∷ []; next = [] }, me.1)
