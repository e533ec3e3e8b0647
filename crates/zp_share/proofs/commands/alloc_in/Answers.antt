use Rattle.std.proofs.Common.{◌∙◌, refl, sym, rules}
use Rattle.zp_share.proofs.Carrying.{moved_fits}
use Rattle.zp_share.proofs.Covering.{covers_taken}
use Rattle.zp_share.proofs.Lending.{front_ok, from_list, filled_before, given_before, taken_asked}
use Rattle.zp_share.proofs.commands.alloc_in.Goals as goal

pub returns-clause-fits : goal.returns-clause-fits
returns-clause-fits g c =
    moved_fits (g.Z.Zones.keys c.args.zones.now) c.args.share.now c.take_cached.new.self c.args.zone c.requires.fits c.take_cached.ensures.others c.take_cached.ensures.seat

pub returns-clause-told : goal.returns-clause-told
returns-clause-told g c =
    λ rows e.
    from_list rows c.args.share.now c.take_cached.new.self c.args.share.now c.args.zone c.args.order c.cached_len.result c.args.kind c.args.mark c.ok_or.result _ _ e
    (sym c.is_listed.ensures ∙ c.if-not-is_listed.false) c.cached_len.ensures.same c.if-cached_len-eq0.false refl refl
    c.take_cached.ensures.others c.take_cached.ensures.after (front_ok _ c.take_cached.result c.ok_or.result c.ok_or.ensures.value c.take_cached.ensures.answer)

pub returns-clause-asked : goal.returns-clause-asked
returns-clause-asked g c =
    taken_asked c.args.order c.args.mark c.args.share.now c.args.share.now c.take_cached.new.self c.args.zone c.args.kind c.take_cached.result c.ok_or.result
    (search rules)
    (filled_before c.args.share.now c.args.share.now c.args.zone c.cached_len.result c.args.kind refl c.cached_len.ensures.same c.if-cached_len-eq0.false)
    c.take_cached.ensures.share c.take_cached.ensures.others c.take_cached.ensures.after c.take_cached.ensures.answer c.ok_or.ensures.value
    (given_before c.args.order c.args.kind c.args.mark c.args.zone c.cached_len.result c.args.share.now c.args.share.now c.take_cached.new.self
    (sym c.is_listed.ensures ∙ c.if-not-is_listed.false) c.cached_len.ensures.same c.if-cached_len-eq0.false refl c.take_cached.ensures.after)

pub returns-clause-read : goal.returns-clause-read
returns-clause-read g c =
    covers_taken (g.Z.Zones.covers c.args.zones.now) c.args.share.now c.take_cached.new.self c.args.zone c.args.kind c.take_cached.ensures.others c.take_cached.ensures.after
