use Rattle.std.proofs.Common.{◌≡◌, ◌-◌, refl, ap, arith, rules, Ok, Err}
use Rattle.zp_model.specs.declared.refused.Refused.TheVariants.{JournalFull}
use Rattle.zp_share.specs.Commands.{goes_down}
use Rattle.zp_share.specs.Shares.{world}
use Rattle.zp_share.proofs.Lending.{asked_below, stops, down_below, goes_on}
use Rattle.zp_share.proofs.commands.+alloc.Goals as goal
use Rattle.zp_share.proofs.commands.+alloc.Goals.{then-zone-eq0, else-zone-eq0}

pub returns-in-Ok-clause-told : goal.returns-in-Ok-clause-told
returns-in-Ok-clause-told g n c =
    λ rows e. stops c.args.order c.args.kind c.args.mark c.args.zone (world rows c.args.share.now) (Ok c.in-Ok.page) _ _ c.alloc_in.new.share (c.in-Ok.ensures.told rows e) (λ ne. refl) refl

pub returns-in-Err-clause-told : goal.returns-in-Err-clause-told
returns-in-Err-clause-told g n c =
    λ rows e.
    stops c.args.order c.args.kind c.args.mark c.args.zone (world rows c.args.share.now) (Err c.in-Err.refused) _ _ c.alloc_in.new.share (c.in-Err.ensures.told rows e)
    (λ ne.
    elim c.if-zone-eq0.branch [
      | then-zone-eq0 w ↦ absurd (ne w.if-zone-eq0.true)
      | else-zone-eq0 w ↦ let full : c.in-Err.refused ≡ JournalFull = search rules in ap (λ r. goes_down (Err r)) full
    ])
    refl

pub returns-in-Err-2-clause-told : goal.returns-in-Err-2-clause-told
returns-in-Err-2-clause-told g n c =
    λ rows e.
    let above : c.args.zone ≡ 0 → ⊥ = elim c.if-zone-eq0.branch [ then-zone-eq0 w ↦ search rules | else-zone-eq0 w ↦ w.if-zone-eq0.false ] in
    let other : c.in-Err.refused ≡ JournalFull → ⊥ = elim c.if-zone-eq0.branch [ then-zone-eq0 w ↦ search rules | else-zone-eq0 w ↦ search rules ] in
    down_below c.args.order c.args.kind c.args.mark c.args.zone (c.args.zone - 1) (world rows c.args.share.now) c.in-Err.refused _ c.alloc_in.new.share c.alloc.result _ c.alloc.new.share
    (omega (arith, above)) (c.in-Err.ensures.told rows e) (goes_on c.in-Err.refused other) c.alloc.ensures.told

pub returns-in-Err-2-clause-asked : goal.returns-in-Err-2-clause-asked
returns-in-Err-2-clause-asked g n c =
    let above : c.args.zone ≡ 0 → ⊥ = elim c.if-zone-eq0.branch [ then-zone-eq0 w ↦ search rules | else-zone-eq0 w ↦ w.if-zone-eq0.false ] in
    let other : c.in-Err.refused ≡ JournalFull → ⊥ = elim c.if-zone-eq0.branch [ then-zone-eq0 w ↦ search rules | else-zone-eq0 w ↦ search rules ] in
    asked_below c.args.order c.args.kind c.args.mark c.args.zone (c.args.zone - 1) c.in-Err.refused c.alloc.result c.args.share.now c.alloc_in.new.share c.alloc.new.share
    (omega (arith, above)) c.in-Err.ensures.same c.in-Err.ensures.only other c.in-Err.ensures.asked c.alloc.ensures.above c.alloc.ensures.asked
