use Rattle.zonealloc.proofs.making.made.Goals as goal

pub returns-clause-new : goal.returns-clause-new
returns-clause-new c = let given = c.in-Some.ensures.some in rw (← given.0, ← given.1) c.opened.ensures.new
