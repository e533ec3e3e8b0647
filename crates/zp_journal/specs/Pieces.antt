-- The journal of a zone in pieces, each cut off where the next begins (this profile).
use Rattle.std.specs.Prelude.{ℕ, ◌≡◌, ◌+◌, Bool, true, false, List, [], ◌∷◌, ◌++◌, length, Option, None, Some}
use Rattle.zp_model.specs.Entries.{Entry}
use Rattle.zp_model.specs.Zone.{PlainZone}
use Rattle.zp_model.specs.Run.{run, IsLegal}
use Rattle.zp_zone.specs.Seats.{ZoneState}
use Rattle.zp_journal.specs.Journals.{gone_on}
use Rattle.zp_journal.specs.declared.pieces.Piece.{Piece}

-- the pieces put together: their entries, in order
abbrev pub entries_of : List Piece → List Entry
entries_of [] = []
entries_of (p ∷ ps) = p.journal.entries ++ entries_of ps

-- after so many entries the first piece begins, and each of the others where the one before it ended
abbrev pub AreAdjoining : ℕ → List Piece → Type 0
AreAdjoining n [] = Unit {0}
AreAdjoining n (p ∷ ps) = (p.before ≡ n) × AreAdjoining (n + length p.journal.entries) ps

-- what a replay of entries from this opening, under this name, finds: the zone of their run, which has them as its own; or that they are not
-- legal
abbrev pub IsReplayedWhole : List ℕ → PlainZone → List Entry → Option ZoneState → Type 0
IsReplayedWhole name o es None = IsLegal o es → ⊥
IsReplayedWhole name o es (Some z) = IsLegal o es × (z.name ≡ name) × (z.plain ≡ run o es) × (z.entries ≡ es)

-- whether a zone goes on by these entries: where they are legal there, it is the zone after them
abbrev pub IsOneFurther : ZoneState → List Entry → Bool → ZoneState → Type 0
IsOneFurther z es true y = IsLegal z.plain es × (y ≡ gone_on es z)
IsOneFurther z es false y = IsLegal z.plain es → ⊥
