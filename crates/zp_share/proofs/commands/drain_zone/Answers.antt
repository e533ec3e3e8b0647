use Rattle.std.proofs.Common.{◌≡◌, ◌+◌, ◌*◌, refl, rules, subst, sym, Err}
use Rattle.std.proofs.lemmas.Result.{IfErr-weaker}
use Rattle.zp_model.specs.declared.constants.TheConstants.{TYPES}
use Rattle.zp_model.specs.declared.migrate_type.MigrateType.TheVariants.{Reclaimable, Movable}
use Rattle.zp_share.specs.Commands.{and_then, drain_list}
use Rattle.zp_share.specs.Shares.{AreDrained, DrainsOnce, IsDone, IsDrainedTill, list_place, world}
use Rattle.zp_share.proofs.Carrying.{then_err, then_ok}
use Rattle.zp_share.proofs.Drained.{by_answer, on_err, once_second, once_third, till_second, till_third}
use Rattle.zp_share.proofs.commands.drain_zone.Goals as goal

pub returns-clause-told : goal.returns-clause-told
returns-clause-told g c =
    λ rows e.
    then_ok _ (λ n v. and_then (drain_list n v c.args.zone Reclaimable) (λ m u. drain_list m u c.args.zone Movable)) c.in_ok-unmovable.unmovable _ _ _ _ _ _
    (c.in_ok-unmovable.ensures.told rows e) refl
    (λ rows2 e2. then_ok _ (λ m u. drain_list m u c.args.zone Movable) c.in_ok-reclaimable.reclaimable _ _ _ _ _ _ (c.in_ok-reclaimable.ensures.told rows2 e2) refl (c.drain_list-3.ensures.told))

pub returns-in_err-reclaimable-clause-stopped : goal.returns-in_err-reclaimable-clause-stopped
returns-in_err-reclaimable-clause-stopped g c =
    on_err c.from_residual-in_err-reclaimable.result (IsDrainedTill (c.args.zone * TYPES) c.args.share.now c.drain_list-2.new.share)
    (till_second c.args.zone c.args.share.now c.drain_list.new.share c.drain_list-2.new.share c.in_ok-unmovable.ensures.drained c.in_err-reclaimable.ensures.stopped)

pub returns-in_err-reclaimable-clause-once : goal.returns-in_err-reclaimable-clause-once
returns-in_err-reclaimable-clause-once g c =
    let till : IsDrainedTill (list_place c.args.zone Reclaimable) c.drain_list.new.share c.drain_list-2.new.share = c.in_err-reclaimable.ensures.stopped in
    once_second c.args.zone (list_place till.zone till.kind) c.args.share.now c.drain_list.new.share c.drain_list-2.new.share c.in_ok-unmovable.ensures.drained till.drained c.drain_list.ensures.once c.drain_list-2.ensures.once

pub returns-clause-stopped : goal.returns-clause-stopped
returns-clause-stopped g c =
    IfErr-weaker c.drain_list-3.result (λ e. IsDrainedTill (list_place c.args.zone Movable) c.drain_list-2.new.share c.drain_list-3.new.share) (λ e. IsDrainedTill (c.args.zone * TYPES) c.args.share.now c.drain_list-3.new.share)
    (λ e. till_third c.args.zone c.args.share.now c.drain_list.new.share c.drain_list-2.new.share c.drain_list-3.new.share c.in_ok-unmovable.ensures.drained c.in_ok-reclaimable.ensures.drained)
    c.drain_list-3.ensures.stopped

pub returns-clause-once : goal.returns-clause-once
returns-clause-once g c =
    let s = c.args.share.now in
    let v = c.drain_list.new.share in
    let w = c.drain_list-2.new.share in
    let u = c.drain_list-3.new.share in
    by_answer c.drain_list-3.result (AreDrained (list_place c.args.zone Movable) (list_place c.args.zone Movable + 1) w u) (IsDrainedTill (list_place c.args.zone Movable) w u) (DrainsOnce s u)
    c.drain_list-3.ensures.drained c.drain_list-3.ensures.stopped
    (λ z. once_third c.args.zone (list_place c.args.zone Movable + 1) s v w u c.in_ok-unmovable.ensures.drained c.in_ok-reclaimable.ensures.drained z c.drain_list.ensures.once c.drain_list-2.ensures.once c.drain_list-3.ensures.once)
    (λ z. once_third c.args.zone (list_place z.zone z.kind) s v w u c.in_ok-unmovable.ensures.drained c.in_ok-reclaimable.ensures.drained z.drained c.drain_list.ensures.once c.drain_list-2.ensures.once c.drain_list-3.ensures.once)

pub returns-in_err-reclaimable-clause-told : goal.returns-in_err-reclaimable-clause-told
returns-in_err-reclaimable-clause-told g c =
    λ rows e.
    let is : c.from_residual-in_err-reclaimable.result ≡ Err c.in_err-reclaimable.field-0.0 = search rules in
    then_ok _ (λ n v. and_then (drain_list n v c.args.zone Reclaimable) (λ m u. drain_list m u c.args.zone Movable)) c.in_ok-unmovable.unmovable _ _ _ _ _ _
    (c.in_ok-unmovable.ensures.told rows e) refl
    (λ rows2 e2.
    subst
    (λ r.
    IsDone (and_then (drain_list c.in_ok-unmovable.unmovable (world rows2 c.drain_list.new.share) c.args.zone Reclaimable) (λ m u. drain_list m u c.args.zone Movable)) r (g.Z.Zones.told c.drain_list-2.new.zones)
    c.drain_list-2.new.share) (sym is)
    (then_err _ (λ m u. drain_list m u c.args.zone Movable) c.in_err-reclaimable.field-0.0 _ _ _ (c.in_err-reclaimable.ensures.told rows2 e2) refl))
