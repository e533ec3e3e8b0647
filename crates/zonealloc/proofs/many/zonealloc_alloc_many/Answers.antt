use Rattle.std.proofs.Common.{length, refl}
use Rattle.zp_model.specs.declared.request.Request.{Request}
use Rattle.zp_gate.specs.GatedZones.{each_is, page_of}
use Rattle.zonealloc.specs.ManyCalls.{AsksAllocs}
use Rattle.zonealloc.proofs.Answering.{many_call}
use Rattle.zonealloc.proofs.many.zonealloc_alloc_many.Goals as goal

pub returns-in-Ok-clause-call : goal.returns-in-Ok-clause-call
returns-in-Ok-clause-call c =
    let order = c.in-Some.order in
    let kind = c.in-Some-kind_of.kind in
    let mark = c.in-Some-mark_of.mark in
    many_call (AsksAllocs c.args.order c.args.kind c.args.mark) (page_of c.alloc_many.new.pages) (length c.args.pages.now) _ c.args.zone c.end_of.result _ _ (each_is (Request.Alloc order kind mark)) c.in-Ok.granted c.held-held.result.now
    c.alloc_many.new.self
    (kind, mark, c.in-Some-kind_of.ensures.some.0, c.in-Some-mark_of.ensures.some.0, λ j. each_is (Request.Alloc (c.in-Some.ensures.some.0 j) kind mark)) refl c.end_of.ensures.is c.end_of.ensures.small c.in-Ok.ensures.made
    c.held-held.ensures.value refl
