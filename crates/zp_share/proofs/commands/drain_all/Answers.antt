use Rattle.std.proofs.Common.{◌≡◌, ◌<◌, ◌≤◌, ◌+◌, ◌*◌, ◌∙◌, arith, refl, sym, subst, Err, length, rules}
use Rattle.zp_share.specs.Commands.{drain_all}
use Rattle.zp_model.specs.declared.constants.TheConstants.{TYPES}
use Rattle.zp_share.specs.Shares.{AreDrained, IsDone, IsDrainedTill, list_place, world}
use Rattle.zp_share.proofs.Covering.{covers_then}
use Rattle.zp_share.proofs.Drained.{drained_then, on_err, once_then, till_then}
use Rattle.zp_share.proofs.DrainingAll.{drained_one, drained_all, drained_err, same_share, same_lent_then}
use Rattle.zp_share.proofs.commands.drain_all.Goals as goal

pub loop-zone-preserved : goal.loop-zone-preserved
loop-zone-preserved g c =
    let x = c.loop-zone.invariant in
    let lt : c.loop-zone.zone < length c.args.share.now.zones = search rules in
    let more : c.in_ok-drained.drained ≤ (c.loop-zone.zone + 1) * 192 = search rules in (
      c.drain_zone.ensures.keys ∙ x.0,
      c.drain_zone.ensures.fits,
      same_share c.args.share.now c.loop-zone.share c.drain_zone.new.share x.2 c.drain_zone.ensures.same,
      more,
      drained_then 0 (c.loop-zone.zone * TYPES) (c.loop-zone.zone * TYPES) ((c.loop-zone.zone + 1) * TYPES) c.args.share.now c.loop-zone.share c.drain_zone.new.share (omega arith) refl (omega arith) x.4
          (subst (λ n. AreDrained (c.loop-zone.zone * TYPES) n c.loop-zone.share c.drain_zone.new.share) (omega arith) c.in_ok-drained.ensures.drained),
      λ rows e.
          drained_one (world rows c.args.share.now) (length c.args.share.now.zones) c.loop-zone.drained c.in_ok-drained.drained c.loop-zone.zone _ _ c.loop-zone.share c.drain_zone.new.share lt
          (x.5 rows e) c.in_ok-drained.ensures.told,
      same_lent_then c.args.share.now c.loop-zone.share c.drain_zone.new.share x.6 c.drain_zone.ensures.lent,
      once_then 0 (c.loop-zone.zone * TYPES) (c.loop-zone.zone * TYPES) (c.loop-zone.zone * TYPES + TYPES) c.args.share.now c.loop-zone.share c.drain_zone.new.share x.4 c.in_ok-drained.ensures.drained x.7 c.drain_zone.ensures.once,
      covers_then (g.Z.Zones.covers c.args.zones.now) (g.Z.Zones.covers c.loop-zone.zones) (g.Z.Zones.covers c.drain_zone.new.zones) c.args.share.now c.loop-zone.share c.drain_zone.new.share x.8 c.drain_zone.ensures.read,
    )

pub returns-in_err-drained-clause-told : goal.returns-in_err-drained-clause-told
returns-in_err-drained-clause-told g c =
    λ rows e.
    let is : c.from_residual.result ≡ Err c.in_err-drained.field-0.0 = search rules in
    let lt : c.loop-zone.zone < length c.args.share.now.zones = search rules in
    subst (λ r. IsDone (drain_all (world rows c.args.share.now)) r (g.Z.Zones.told c.drain_zone.new.zones) c.drain_zone.new.share) (sym is)
    (drained_err (world rows c.args.share.now) (length c.args.share.now.zones) c.loop-zone.drained c.loop-zone.zone c.in_err-drained.field-0.0 _ _ c.loop-zone.share c.drain_zone.new.share lt
    (c.loop-zone.invariant.5 rows e) c.in_err-drained.ensures.told)

pub returns-clause-told : goal.returns-clause-told
returns-clause-told g c =
    λ rows e.
    let ge : length c.args.share.now.zones ≤ c.loop-zone.zone = search rules in
    drained_all (world rows c.args.share.now) (length c.args.share.now.zones) c.loop-zone.drained c.loop-zone.zone _ c.loop-zone.share ge (c.loop-zone.invariant.5 rows e)

pub returns-in_err-drained-clause-stopped : goal.returns-in_err-drained-clause-stopped
returns-in_err-drained-clause-stopped g c =
    let n = c.loop-zone.zone * TYPES in
    on_err c.from_residual.result (IsDrainedTill 0 c.args.share.now c.drain_zone.new.share)
    (till_then 0 n n c.args.share.now c.loop-zone.share c.drain_zone.new.share (omega arith) refl c.loop-zone.invariant.4 c.in_err-drained.ensures.stopped)

pub returns-in_err-drained-clause-once : goal.returns-in_err-drained-clause-once
returns-in_err-drained-clause-once g c =
    let n = c.loop-zone.zone * TYPES in
    let till : IsDrainedTill n c.loop-zone.share c.drain_zone.new.share = c.in_err-drained.ensures.stopped in
    once_then 0 n n (list_place till.zone till.kind) c.args.share.now c.loop-zone.share c.drain_zone.new.share c.loop-zone.invariant.4 till.drained c.loop-zone.invariant.7 c.drain_zone.ensures.once
