use Rattle.std.proofs.Common.{ℕ, List, [], ◌∷◌, ◌≡◌, ap, arith, subst, sym}
use Rattle.atomic_table.specs.declared.shared.Seat.{Seat}
use Rattle.atomic_table.specs.Table.{rest}
use Rattle.zp_open_room.specs.Rooms.{RoomState}
use Rattle.zp_open_gate.specs.declared.visit_view.VisitView.{VisitView}
use Rattle.zp_open_gate.specs.Rooms.{IsBehind, IsOneCall}
use Rattle.zp_open_gate.proofs.Keys.{known_still}
use Rattle.zp_open_gate.proofs.Steps.{leaves, looked_at}
use Rattle.zp_open_gate.proofs.try_lock.TryLock.leave.Goals as goal

pub store-requires : goal.store-requires
store-requires c =
    let id = c.args.self.now.table.shared.table_id in let key = c.args.self.now.table.shared.key in
    let may = c.requires.1 in let y = may.0 in let z = may.1 in
    let now : RoomState = c.slot_mut-room.result.now in
    let p : Seat RoomState VisitView = record c.args.visitor { me = (c.args.visitor.me.0, (0, now) ∷ rest c.args.visitor.me.1) } in
    let held : p.me.1 ≡ (0, now) ∷ [] = ap (λ (l : List (ℕ × RoomState)). (0, now) ∷ rest l) may.3 in
    let same : now ≡ z = looked_at c.args.visitor z now may.3 c.slot_mut-room.ensures.value in
    let behind : IsBehind key now = record { known = known_still key y now may.4.known (subst (IsOneCall y) (sym same) may.5); history = c.history.ensures } in
    (c.requires.0, omega (arith, c.args.self.now.words), leaves key id id.slots p c.args.self.now.slots y now may.2 held behind)
