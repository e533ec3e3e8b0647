-- The rule of a lock: where nobody is in, the room that its key tells of is at home behind it; and what a visitor knows (this profile).
use Rattle.std.specs.Prelude.{◌≡◌, ℕ, List, [], ◌∷◌, Option, None, Some}
use mathlib.Core.Option.{some}
use lib.ListN.{get_elem?}
use Rattle.atomic_table.specs.Table.{State, Me, Step}
use Rattle.atomic_table.specs.Seated.{TableId}
use Rattle.atomic_table.specs.declared.shared.Seat.{Seat}
use Rattle.zp_open_room.specs.Rooms.{RoomState}
use Rattle.zp_open_gate.specs.declared.room_key.RoomKey.{RoomKey}
use Rattle.zp_open_gate.specs.declared.visit_view.VisitView.{VisitView}
use Rattle.zp_open_gate.specs.Rooms.{IsBehind, IsOneCall}

-- who has not come in yet; who came, and found this
abbrev pub outside : RoomKey → VisitView
outside key = record { key = key; found = None; left = None }

abbrev pub inside : RoomKey → RoomState → VisitView
inside key y = record { key = key; found = Some y; left = None }

-- the word of the lock: 0 where nobody is in
abbrev pub IsAtHome : RoomKey → ℕ → State RoomState VisitView → Type 0
IsAtHome key w s = w ≡ 0 → (y : RoomState) × (get_elem? s.homes 0 ≡ some (some y)) × IsBehind key y

abbrev pub IsGated : RoomKey → State RoomState VisitView → Type 0
IsGated key s = (w : ℕ) × (s.words ≡ w ∷ []) × IsAtHome key w s × ((by : ℕ) (v : VisitView) → get_elem? s.views by ≡ some v → v.key ≡ key)

abbrev pub Comes : Step RoomState → Me RoomState VisitView → ℕ → Me RoomState VisitView → Type 0
Comes st me found after = after ≡ me

-- what stands there is with who enters, who knows what it was
abbrev pub Enters : Step RoomState → Me RoomState VisitView → ℕ → Me RoomState VisitView → Type 0
Enters st me found after = found ≡ 0 → (y : RoomState) × (after.0 ≡ inside me.0.key y) × (after.1 ≡ (0, y) ∷ me.1) × IsBehind me.0.key y

-- the first of the slots that a visitor holds
abbrev pub first_held : List (ℕ × RoomState) → Option RoomState
first_held [] = None
first_held (x ∷ xs) = Some x.1

-- and knows, when he leaves, what he left
abbrev pub Leaves : Step RoomState → Me RoomState VisitView → ℕ → Me RoomState VisitView → Type 0
Leaves st me found after = after.0 ≡ record me.0 { left = first_held me.1 }

-- the visitor entered the lock with this key, and has what stood there
abbrev pub IsIn : TableId → RoomKey → Seat RoomState VisitView → Type 0
IsIn id key p = (p.table_id ≡ id) × ((y : RoomState) × (p.me.0 ≡ inside key y) × (p.me.1 ≡ (0, y) ∷ []) × IsBehind key y)

-- he has what one call made of it, and so may leave
abbrev pub MayLeave : TableId → RoomKey → Seat RoomState VisitView → Type 0
MayLeave id key p =
    (p.table_id ≡ id) × ((y : RoomState) × (z : RoomState) × (p.me.0 ≡ inside key y) × (p.me.1 ≡ (0, z) ∷ []) × IsBehind key y × IsOneCall y z)
