use Rattle.zp_shared.proofs.Guarding.{seat_at}
use Rattle.zp_shared.proofs.guarded.Guarded.check.Goals as goal

pub check-requires-clause-seat : goal.check-requires-clause-seat
check-requires-clause-seat g c = seat_at g.J.Naming.zones c.self.inside.place c.self.inside.zone c.args.share.now c.self.invariant.0 c.requires.fits
