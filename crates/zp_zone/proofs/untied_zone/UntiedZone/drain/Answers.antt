use Rattle.std.proofs.Common.{◌≡◌, arith, ap, sym, ◌∙◌, ◌^◌, take, length, length-drop}
use Rattle.std.proofs.lemmas.Bool.{eqb-true}
use Rattle.std.proofs.lemmas.Nat.{pow_pos}
use Rattle.zp_model.specs.Step.{drained}
use Rattle.zp_zone.specs.NamedZone.{NamedZone}
use Rattle.zp_zone.proofs.DrainParts.{all_back, drained_posted, left_part}
use Rattle.zp_zone.proofs.DrainSteps.{drained-gone, drained-kept}
use Rattle.zp_zone.proofs.untied_zone.UntiedZone.drain.Goals.{After-parts}
use Rattle.zp_zone.proofs.untied_zone.UntiedZone.drain.Goals as goal

pub parts-preserved : goal.parts-preserved
parts-preserved c =
    let i = c.parts.invariant in
    let after = c.free_part.ensures.after in
    let plain = ap (λ (z : NamedZone). z.plain) after in
    let x = left_part _ _ _ _ _ _ _ _ i.left i.lawful plain c.past_part-rest.ensures in
    record {
      name = ap (λ (z : NamedZone). z.name) after ∙ i.name;
      left = x.0;
      lawful = x.1;
      worker = rw (plain, drained_posted (take (2 ^ c.part_order-order.result) c.parts.rest.now) c.parts.self.plain) i.worker;
    }

pub parts-smaller : goal.parts-smaller
parts-smaller c =
    let k = c.part_order-order.result in
    omega (arith, ap length c.past_part-rest.ensures, length-drop (2 ^ k) c.parts.rest.now, pow_pos k, c.part_order-order.ensures.room)

-- at the end no page is left
done : (c : After-parts) → c.parts.self.plain ≡ drained c.args.self.now.plain c.args.pages.now
done c = all_back _ _ _ _ c.parts.rest.now c.parts.invariant.left (omega (arith, eqb-true _ _ (sym c.parts-test.ensures)))

pub returns-clause-gone : goal.returns-clause-gone
returns-clause-gone c = rw (done c) (drained-gone c.args.self.now.plain c.args.pages.now)

pub returns-clause-kept : goal.returns-clause-kept
returns-clause-kept c = rw (done c) (drained-kept c.args.self.now.plain c.args.worker c.args.pages.now c.requires.out)

-- the pages came back as a run
pub returns-then-is_falling-clause-gone : goal.returns-then-is_falling-clause-gone
returns-then-is_falling-clause-gone c = rw c.free_falling.ensures.after (drained-gone c.args.self.now.plain c.args.pages.now)

pub returns-then-is_falling-clause-kept : goal.returns-then-is_falling-clause-kept
returns-then-is_falling-clause-kept c = rw c.free_falling.ensures.after (drained-kept c.args.self.now.plain c.args.worker c.args.pages.now c.requires.out)
