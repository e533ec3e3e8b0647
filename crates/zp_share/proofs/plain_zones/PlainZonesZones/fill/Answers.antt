use Rattle.std.proofs.Common.{◌≡◌, ◌<◌, List, length, map, sym, subst, arith, Some}
use Rattle.std.specs.Prelude.{slice_set}
use Rattle.zp_model.specs.declared.refused.Refused.TheVariants.{JournalFull}
use Rattle.zp_model.specs.declared.request.Reply.{Reply}
use Rattle.zp_model.specs.declared.request.Request.{Request}
use Rattle.zp_model.specs.declared.request.Request.TheVariants as request
use Rattle.zp_zone.specs.Seats.{ZoneState, IsSeatOf}
use Rattle.zp_share.specs.declared.sections_made.TheConstants.{LAST_SECTION}
use Rattle.zp_share.specs.Sections.{IsAsked}
use Rattle.zp_share.specs.Shares.{IsShareOf, IsAskedAt, key_of, named_zone, sections_at, share_at}
use Rattle.zp_share.proofs.Refilled.{refilled_so}
use Rattle.zp_share.proofs.Tried.{last_made}
use Rattle.zp_share.proofs.Telling.{as_many, seat_at, asked_at}
use Rattle.zp_share.proofs.plain_zones.PlainZonesZones.fill.Goals as goal

fits : (c : goal.After-index_mut) → IsShareOf (map key_of c.self.inside.zones.items) c.args.share.now
fits c = subst (λ zs. IsShareOf (map key_of zs) c.args.share.now) (sym c.self.view_is) c.requires.fits

there : (c : goal.After-index_mut) → c.args.zone < length c.self.inside.zones.items
there c = omega (arith, c.requires.zone, as_many c.self.inside.zones.items c.args.share.now (fits c))

pub fill-requires-clause-seat : goal.fill-requires-clause-seat
fill-requires-clause-seat c =
    subst (λ z. IsSeatOf z (share_at c.args.share.now c.args.zone).seat) (sym c.index_mut.ensures.value)
    (seat_at c.self.inside.zones.items c.args.zone c.args.share.now c.index_mut.result.now (there c) (fits c))

pub returns-clause-asked : goal.returns-clause-asked
returns-clause-asked c =
    let r : Request = request.Refill c.args.kind c.args.mark c.args.share.now.batch in
    let after : List ZoneState = slice_set c.self.inside.zones.items c.args.zone c.fill.new.zone in
    refilled_so
    (λ q. IsAsked r q c.index_mut.result.now c.fill.new.zone (share_at c.args.share.now c.args.zone) (share_at c.fill.new.self c.args.zone))
    (λ q. IsAskedAt c.args.zone r q (map key_of c.args.self.now) (map key_of after) (Some (map named_zone c.args.self.now)) (Some (map named_zone after)) c.args.share.now c.fill.new.self)
    c.fill.result
    (λ q asked. subst (λ zs. IsAskedAt c.args.zone r q (map key_of zs) (map key_of after) (Some (map named_zone zs)) (Some (map named_zone after)) c.args.share.now c.fill.new.self) c.self.view_is
    (asked_at r q c.self.inside.zones.items c.args.share.now c.fill.new.self c.args.zone c.index_mut.result.now c.fill.new.zone
    (record { fits = subst (λ zs. IsShareOf (map key_of zs) c.args.share.now) (sym c.self.view_is) c.requires.fits; place = c.requires.zone; zone = c.index_mut.ensures.value; others = c.fill.ensures.others }) asked))
    c.fill.ensures.section

pub returns-clause-read : goal.returns-clause-read
returns-clause-read c =
    let r : Request = request.Refill c.args.kind c.args.mark c.args.share.now.batch in
    refilled_so
    (λ q. IsAsked r q c.index_mut.result.now c.fill.new.zone (share_at c.args.share.now c.args.zone) (share_at c.fill.new.self c.args.zone))
    (λ q. q ≡ Reply.Refused JournalFull → sections_at c.fill.new.self c.args.zone ≡ LAST_SECTION)
    c.fill.result
    (λ q asked. last_made r q c.index_mut.result.now c.fill.new.zone (share_at c.args.share.now c.args.zone) (share_at c.fill.new.self c.args.zone) asked.made)
    c.fill.ensures.section
