use Rattle.std.proofs.Common.{length, refl}
use Rattle.zp_gate.specs.GatedZones.{free_of, freed_of}
use Rattle.zonealloc.specs.ManyCalls.{AsksFrees}
use Rattle.zonealloc.proofs.Answering.{many_call}
use Rattle.zonealloc.proofs.many.zonealloc_free_many.Goals as goal

pub returns-in-Ok-clause-call : goal.returns-in-Ok-clause-call
returns-in-Ok-clause-call c =
    let pages = c.args.pages.now in
    let orders = c.args.orders.now in
    many_call (AsksFrees pages orders) freed_of (length pages) _ c.args.zone c.end_of.result _ _ (free_of pages orders) c.in-Ok.granted c.held-held.result.now c.free_many.new.self refl refl c.end_of.ensures.is c.end_of.ensures.small
    c.in-Ok.ensures.made c.held-held.ensures.value refl
