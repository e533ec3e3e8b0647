use Rattle.std.proofs.Common.{arith, ap, length}
use Rattle.zp_replay.specs.Serving.{IsOfficeServed}
use Rattle.zp_replay.proofs.ServedOffices.{if_ok, served_is}
use Rattle.zp_replay.proofs.ShortLines.{commands_few}
use Rattle.zp_replay.proofs.threads.serve_at_once.Goals as goal

pub room_for-room-requires : goal.room_for-room-requires
room_for-room-requires g c = omega (arith, commands_few c.args.trace.now c.requires.lines, ap length c.as_slice.ensures)

pub serve-requires-clause-capacity : goal.serve-requires-clause-capacity
serve-requires-clause-capacity g c = omega (arith, commands_few c.args.trace.now c.requires.lines, ap length c.as_slice.ensures, c.room_for-room.ensures.within)

pub returns-clause-served : goal.returns-clause-served
returns-clause-served g c =
    if_ok (λ s. IsOfficeServed c.in-Ok.parts.0.items c.in-Ok.parts.1.items s.0) _ c.serve.result
    (λ s i. served_is c.args.trace.now c.in-Ok.parts.0.items c.in-Ok.parts.1.items s.0 c.in-Ok.ensures.zones c.in-Ok.ensures.desks c.in-Ok.ensures.office i)
    c.serve.ensures.office
