use Rattle.std.proofs.Common.{[], ap}
use Rattle.std.proofs.lemmas.List.{length-replicate}
use Rattle.zp_model.specs.Zone.{PlainZone, zone_opening}
use Rattle.zp_zone.specs.Seats.{ZoneState}
use Rattle.zp_journal.proofs.Repeating.{seats_opened}
use Rattle.zp_journal.proofs.replay.replay_wide_opening.Goals as goal

pub returns-clause-seats : goal.returns-clause-seats
returns-clause-seats c =
    let made = c.in_ok-zone.ensures in
    let o : PlainZone = zone_opening c.args.config.largest c.args.config.base c.args.config.pages c.args.config.min c.args.workers in
    seats_opened c.in_ok-zone.zone c.in_ok-zone.seats.items o c.args.workers made.fits made.seats (ap (λ (z : ZoneState). z.plain) made.zone)
    (length-replicate c.args.workers [])
