use Rattle.zonebench.proofs.locked.time_nothing.Goals as goal

pub time_as-requires-clause-fits : goal.time_as-requires-clause-fits
time_as-requires-clause-fits g c κs within = rw c.in-Ok.ensures.zone c.requires.fits
