use Rattle.zonealloc.proofs.Unopened.{unopened}
use Rattle.zonealloc.proofs.making.opened.Goals as goal

pub returns-in-Ok-new-clause-new : goal.returns-in-Ok-new-clause-new
returns-in-Ok-new-clause-new c = rw c.in-Ok-new.ensures.ok c.in-Ok.ensures.new

pub returns-clause-why : goal.returns-clause-why
returns-clause-why c =
    let n = c.args.workers in let made = c.in_ok-configs.ensures in
    let why = rw c.as_slice.ensures.value at c.in-Err.ensures.why in
    rw c.refused-in-Err.ensures (unopened n c.in_ok-configs.configs.items c.args.zones.now c.in-Err.why (made.wanted n) made.good why)
