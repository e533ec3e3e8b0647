use Rattle.std.proofs.Common.{◌<◌, ◌∙◌, ap, sym, length, map, set, subst}
use Rattle.std.proofs.lemmas.List.{set-get_or}
use Rattle.zp_model.specs.Choose.{origin}
use Rattle.zp_model.specs.Zone.{PlainZone}
use Rattle.zp_zone.specs.Seats.{ZoneState}
use Rattle.zp_share.specs.Commands.{zone_at}
use Rattle.zp_share.specs.Shares.{named_zone}
use Rattle.zp_share.proofs.Gathered.{named-is}
use Rattle.zp_share.proofs.plain_zones.PlainZones.origin.Goals as goal

pub returns-clause-answer : goal.returns-clause-answer
returns-clause-answer c =
    let zones = c.self.inside.zones.items in
    let r = c.index_mut.result.now in
    let there : c.args.zone < length zones = subst (λ zs. c.args.zone < length zs) (sym c.self.view_is) c.requires in
    c.origin.ensures.answer
    ∙ ap (λ (z : ZoneState). origin z.plain.area c.args.order c.args.kind) c.index_mut.ensures.value
    ∙ ap (λ (z : PlainZone). origin z.area c.args.order c.args.kind) (sym (named-is zones c.args.zone r there))
    ∙ ap (λ zs. origin (zone_at (map named_zone zs) c.args.zone).plain.area c.args.order c.args.kind) c.self.view_is

pub returns-clause-same : goal.returns-clause-same
returns-clause-same c =
    let zones = c.self.inside.zones.items in
    ap (set zones c.args.zone) (c.origin.ensures.same ∙ c.index_mut.ensures.value) ∙ set-get_or zones c.args.zone c.index_mut.result.now ∙ c.self.view_is
