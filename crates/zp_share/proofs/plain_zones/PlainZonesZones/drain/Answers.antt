use Rattle.std.proofs.Common.{◌<◌, length, map, sym, subst, arith, Some}
use Rattle.std.specs.Prelude.{slice_set}
use Rattle.zp_model.specs.declared.request.Reply.{Reply}
use Rattle.zp_model.specs.declared.request.Reply.TheVariants as reply
use Rattle.zp_model.specs.declared.request.Request.{Request}
use Rattle.zp_model.specs.declared.request.Request.TheVariants as request
use Rattle.zp_zone.specs.Seats.{IsSeatOf}
use Rattle.zp_share.specs.PlainShares.{back}
use Rattle.zp_share.specs.Sections.{done_reply}
use Rattle.zp_share.specs.Shares.{IsShareOf, IsAskedAt, key_of, named_zone, share_at}
use Rattle.zp_share.specs.ZoneShares.{cached_of}
use Rattle.zp_share.proofs.Tried.{last_made}
use Rattle.zp_share.proofs.Telling.{as_many, seat_at, asked_at}
use Rattle.zp_share.proofs.plain_zones.PlainZonesZones.drain.Goals as goal

fits : (c : goal.After-index_mut) → IsShareOf (map key_of c.self.inside.zones.items) c.args.share.now
fits c = subst (λ zs. IsShareOf (map key_of zs) c.args.share.now) (sym c.self.view_is) c.requires.fits

there : (c : goal.After-index_mut) → c.args.zone < length c.self.inside.zones.items
there c = omega (arith, c.requires.zone, as_many c.self.inside.zones.items c.args.share.now (fits c))

pub drain-requires-clause-seat : goal.drain-requires-clause-seat
drain-requires-clause-seat c =
    subst (λ z. IsSeatOf z (share_at c.args.share.now c.args.zone).seat) (sym c.index_mut.ensures.value)
    (seat_at c.self.inside.zones.items c.args.zone c.args.share.now c.index_mut.result.now (there c) (fits c))

abbrev asked : goal.After-self-1 → Request
asked c = request.Drain c.args.kind (back c.args.count (cached_of (share_at c.args.share.now c.args.zone) c.args.kind))

abbrev answer : goal.After-self-1 → Reply
answer c = done_reply reply.Drained c.drain.result

pub returns-clause-asked : goal.returns-clause-asked
returns-clause-asked c =
    let after = slice_set c.self.inside.zones.items c.args.zone c.drain.new.zone in
    subst (λ zs. IsAskedAt c.args.zone (asked c) (answer c) (map key_of zs) (map key_of after) (Some (map named_zone zs)) (Some (map named_zone after)) c.args.share.now c.drain.new.self) c.self.view_is
    (asked_at (asked c) (answer c) c.self.inside.zones.items c.args.share.now c.drain.new.self c.args.zone c.index_mut.result.now c.drain.new.zone
    (record { fits = subst (λ zs. IsShareOf (map key_of zs) c.args.share.now) (sym c.self.view_is) c.requires.fits; place = c.requires.zone; zone = c.index_mut.ensures.value; others = c.drain.ensures.others }) c.drain.ensures.section)

pub returns-clause-read : goal.returns-clause-read
returns-clause-read c =
    last_made (asked c) (answer c) c.index_mut.result.now c.drain.new.zone (share_at c.args.share.now c.args.zone) (share_at c.drain.new.self c.args.zone) c.drain.ensures.section.made
