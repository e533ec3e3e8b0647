-- What the seats of a row know, and the rule over them: one seat keeps the whole, and what a seat holds is the part of its worker, which no other seat holds.
use Rattle.std.specs.Prelude.{◌≡◌, ◌≢◌, ℕ, ◌+◌, ◌<◌, true, false}
use mathlib.Core.Option.{some}
use lib.ListN.{get_elem?}
use Rattle.atomic_table.specs.Table.{State, Me, Step}
use Rattle.atomic_table.specs.Seated.{TableId}
use Rattle.zp_tie.specs.declared.word.TieView.{TieView}

-- the keeper, to a contract
pub record Kept (X : Type 0) : Type 0 where
  pub tie : TableId
  pub whole : X
  pub dealt : ℕ

-- a token, to a contract
pub record Held (Y : Type 0) : Type 0 where
  pub tie : TableId
  pub worker : ℕ
  pub mine : Y

-- the token is one of the keeper's tie, and holds its worker's part of the whole that the keeper keeps
pub record Agrees {X Y : Type 0} (part : ℕ → X → Y) (k : Kept X) (t : Held Y) : Type 0 where
  pub dealt : t.worker < k.dealt
  pub same : t.mine ≡ part t.worker k.whole

-- what another worker has of the whole is the same before and after
abbrev pub OthersStay : {X Y : Type 0} → (ℕ → X → Y) → ℕ → X → X → Type 0
OthersStay part worker before after = (other : ℕ) → other ≢ worker → part other after ≡ part other before

-- the whole, the number of tokens that were dealt, the seat that keeps the whole, and the seat that holds each worker's part
pub record Books (X : Type 0) : Type 0 where
  pub whole : X
  pub dealt : ℕ
  pub keeper : ℕ
  pub holder : ℕ → ℕ

module _ {X Y : Type 0} where
  abbrev pub emptied : TieView X Y → TieView X Y
  emptied v = record { keeps = false; whole = v.whole; dealt = v.dealt; holds = false; worker = v.worker; mine = v.mine }

  abbrev pub kept_only : TieView X Y → TieView X Y
  kept_only v = record { keeps = v.keeps; whole = v.whole; dealt = v.dealt; holds = false; worker = v.worker; mine = v.mine }

  abbrev pub held_only : TieView X Y → TieView X Y
  held_only v = record { keeps = false; whole = v.whole; dealt = v.dealt; holds = v.holds; worker = v.worker; mine = v.mine }

  abbrev pub both_of : TieView X Y → TieView X Y → TieView X Y
  both_of v w = record { keeps = v.keeps; whole = v.whole; dealt = v.dealt; holds = w.holds; worker = w.worker; mine = w.mine }

  abbrev pub dealt_left : TieView X Y → TieView X Y
  dealt_left v = record { keeps = v.keeps; whole = v.whole; dealt = v.dealt + 1; holds = v.holds; worker = v.worker; mine = v.mine }

  module _ (part : ℕ → X → Y) where
    abbrev pub keeper_view : X → TieView X Y
    keeper_view x = record { keeps = true; whole = x; dealt = 0; holds = false; worker = 0; mine = part 0 x }

    abbrev pub nobody : X → TieView X Y
    nobody x = record { keeps = false; whole = x; dealt = 0; holds = false; worker = 0; mine = part 0 x }

    abbrev pub dealt_right : TieView X Y → TieView X Y
    dealt_right v = record { keeps = false; whole = v.whole; dealt = v.dealt; holds = true; worker = v.dealt; mine = part v.dealt v.whole }

    -- what the rule says of one seat
    pub record Fits (b : Books X) (by : ℕ) (v : TieView X Y) : Type 0 where
      pub keeps : v.keeps ≡ true → (by ≡ b.keeper) × (v.whole ≡ b.whole) × (v.dealt ≡ b.dealt)
      pub holds : v.holds ≡ true → (by ≡ b.holder v.worker) × (v.worker < b.dealt) × (v.mine ≡ part v.worker b.whole)

    abbrev pub IsTied : State (Unit {0}) (TieView X Y) → Type 0
    IsTied s = (b : Books X) × ((by : ℕ) (v : TieView X Y) → get_elem? s.views by ≡ some v → Fits b by v)

    -- the whole becomes what it is to become, and so does the part of the worker
    abbrev pub requested : (X → X) → TieView X Y → TieView X Y
    requested to v = record { keeps = v.keeps; whole = to v.whole; dealt = v.dealt; holds = v.holds; worker = v.worker; mine = part v.worker (to v.whole) }

    abbrev pub Requests : (X → X) → Step (Unit {0}) → Me (Unit {0}) (TieView X Y) → ℕ → Me (Unit {0}) (TieView X Y) → Type 0
    Requests to step me found after = (after ≡ (requested to me.0, me.1)) × (me.0.mine ≡ part me.0.worker me.0.whole) × (me.0.worker < me.0.dealt)

    -- nothing changes, and the two parts agree
    abbrev pub Checks : Step (Unit {0}) → Me (Unit {0}) (TieView X Y) → ℕ → Me (Unit {0}) (TieView X Y) → Type 0
    Checks step me found after = (after ≡ me) × (me.0.mine ≡ part me.0.worker me.0.whole) × (me.0.worker < me.0.dealt)

  -- the whole is set, before any part of it is dealt
  abbrev pub Sets : (X → X) → Step (Unit {0}) → Me (Unit {0}) (TieView X Y) → ℕ → Me (Unit {0}) (TieView X Y) → Type 0
  Sets to step me found after = after ≡ (record { keeps = me.0.keeps; whole = to me.0.whole; dealt = me.0.dealt; holds = me.0.holds; worker = me.0.worker; mine = me.0.mine }, me.1)
