use Rattle.zonesoak.proofs.endless.endless.Goals as goal

pub returns-clause-fits : goal.returns-clause-fits
returns-clause-fits c = rw c.in_ok-without_journal.ensures.zone c.in_ok-zone.ensures.fits
