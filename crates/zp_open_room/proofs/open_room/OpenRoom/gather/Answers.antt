use Rattle.std.proofs.Common.{ap, arith}
use Rattle.zp_model.specs.declared.counts.Counts.{Counts}
use Rattle.zp_open_room.specs.Rooms.{RoomState}
use Rattle.zp_open_room.proofs.Totals.{adds_up}
use Rattle.zp_open_room.proofs.open_room.OpenRoom.gather.Goals as goal

pub overflow_sub-result : goal.overflow_sub-result
overflow_sub-result c =
    let room : RoomState = record { zone = c.self.inside.zone; worker = c.self.inside.seat.worker } in
    let whole = adds_up room c.pages-pages.ensures.lawful c.self.invariant.posted c.self.invariant.worker in
    omega (arith, whole.sum, ap (λ (n : Counts). n.free) c.counts-free.ensures.counts, c.pages-pages.ensures.pages)
