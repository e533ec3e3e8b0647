use Rattle.std.proofs.Common.{refl, sym, rules}
use Rattle.zp_model.specs.declared.request.Reply.{Reply}
use Rattle.zp_model.specs.declared.request.Request.TheVariants as request
use Rattle.zp_share.proofs.Carrying.{moved_fits}
use Rattle.zp_share.proofs.Covering.{covers_one, covers_taken, covers_then}
use Rattle.zp_share.proofs.Lending.{front_ok, from_refill, filled_now, given_now, taken_asked}
use Rattle.zp_share.proofs.commands.alloc_filled.Goals as goal

pub returns-clause-fits : goal.returns-clause-fits
returns-clause-fits g c =
    moved_fits (g.Z.Zones.keys c.fill.new.self) c.fill.new.share c.take_cached.new.self c.args.zone c.in_ok-fill.ensures.asked.1.fits c.take_cached.ensures.others c.take_cached.ensures.seat

pub returns-clause-told : goal.returns-clause-told
returns-clause-told g c =
    λ rows e.
    from_refill rows c.args.share.now c.take_cached.new.self c.fill.new.share c.fill.new.share c.args.zone c.args.order 0 c.args.kind c.args.mark c.in_ok-fill.ensures.asked.0 c.ok_or.result _ _
    c.requires.listed (sym c.requires.empty) refl (c.in_ok-fill.ensures.asked.1.told rows e) refl refl
    c.take_cached.ensures.others c.take_cached.ensures.after (front_ok _ c.take_cached.result c.ok_or.result c.ok_or.ensures.value c.take_cached.ensures.answer)

pub returns-clause-asked : goal.returns-clause-asked
returns-clause-asked g c =
    let asked = c.in_ok-fill.ensures.asked.1 in
    taken_asked c.args.order c.args.mark c.args.share.now c.fill.new.share c.take_cached.new.self c.args.zone c.args.kind c.take_cached.result c.ok_or.result
    (search rules)
    (filled_now c.args.share.now c.fill.new.share c.args.zone c.args.share.now.batch c.args.kind c.args.mark c.in_ok-fill.ensures.asked.0 c.requires.zone c.requires.share asked.share asked.reply.fresh asked.reply.some)
    c.take_cached.ensures.share c.take_cached.ensures.others c.take_cached.ensures.after c.take_cached.ensures.answer c.ok_or.ensures.value
    (given_now c.args.order c.args.kind c.args.mark c.args.zone 0 c.in_ok-fill.ensures.asked.0 c.args.share.now c.fill.new.share c.take_cached.new.self c.requires.zone
    c.requires.listed (sym c.requires.empty) refl asked.share c.take_cached.ensures.after)

pub returns-clause-read : goal.returns-clause-read
returns-clause-read g c =
    let b = g.Z.Zones.covers c.args.zones.now in
    let a = g.Z.Zones.covers c.fill.new.self in
    covers_then b a a c.args.share.now c.fill.new.share c.take_cached.new.self
    (covers_one b a c.args.zone (request.Refill c.args.kind c.args.mark c.args.share.now.batch) (Reply.Pages c.in_ok-fill.ensures.asked.0) c.args.share.now c.fill.new.share c.in_ok-fill.ensures.asked.1.share
    (λ e. g.met.Z.Zones.covers_own _ _ _ _ _ c.in_ok-fill.ensures.read.1 refl)
    (g.met.Z.Zones.covers_still _ _ _ _ _ c.in_ok-fill.ensures.read.1))
    (covers_taken a c.fill.new.share c.take_cached.new.self c.args.zone c.args.kind c.take_cached.ensures.others c.take_cached.ensures.after)
