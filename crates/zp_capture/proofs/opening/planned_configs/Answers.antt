use Rattle.std.proofs.Common.{ap, ◌∙◌, arith, map}
use Rattle.std.proofs.lemmas.List.{map_push}
use Rattle.zp_crew.specs.Opening.{plain_config}
use Rattle.zp_crew.proofs.Seating.{made_count, made_more}
use Rattle.zp_capture.specs.Opening.{planned_config}
use Rattle.zp_capture.proofs.opening.planned_configs.Goals as goal

pub push_reserved-requires : goal.push_reserved-requires
push_reserved-requires c =
    let count = made_count (planned_config c.args.settings.now) plain_config c.args.plans.now c.loop-plan.plan-index c.loop-plan.configs.items c.loop-plan-test.true c.loop-plan.invariant.configs in
    omega (arith, count, c.loop-plan.configs.ok.0, c.loop-plan.invariant.room, c.loop-plan-test.true)

pub loop-plan-preserved : goal.loop-plan-preserved
loop-plan-preserved c =
    let was = c.loop-plan.invariant in
    let pushed = c.push_reserved.ensures in
    record {
      configs =
          ap (map plain_config) pushed.items
          ∙ map_push plain_config c.loop-plan.configs.items c.planned_config.result
          ∙ made_more (planned_config c.args.settings.now) c.args.plans.now c.loop-plan.plan-index c.plan-item.result (map plain_config c.loop-plan.configs.items) (plain_config c.planned_config.result) c.loop-plan-test.true
          was.configs (c.planned_config.ensures ∙ ap (planned_config c.args.settings.now) c.plan-item.is);
      room = omega (arith, was.room, pushed.capacity);
    }
