use Rattle.std.proofs.Common.{ap, ◌∙◌, arith, map}
use Rattle.std.proofs.lemmas.List.{map_push}
use Rattle.zp_crew.specs.Opening.{plain_config}
use Rattle.zp_crew.proofs.Seating.{made_count, made_more}
use Rattle.zp_office.specs.Opening.{declared_config}
use Rattle.zp_office.proofs.opening.declared_configs.Goals as goal

pub push_reserved-requires : goal.push_reserved-requires
push_reserved-requires c =
    let count = made_count declared_config plain_config c.args.lines.now c.loop-line.line-index c.loop-line.configs.items c.loop-line-test.true c.loop-line.invariant.configs in
    omega (arith, count, c.loop-line.configs.ok.0, c.loop-line.invariant.room, c.loop-line-test.true)

pub loop-line-preserved : goal.loop-line-preserved
loop-line-preserved c =
    let was = c.loop-line.invariant in
    let pushed = c.push_reserved.ensures in
    record {
      configs =
          ap (map plain_config) pushed.items
          ∙ map_push plain_config c.loop-line.configs.items c.declared_config.result
          ∙ made_more declared_config c.args.lines.now c.loop-line.line-index c.line-item.result (map plain_config c.loop-line.configs.items) (plain_config c.declared_config.result) c.loop-line-test.true
          was.configs (c.declared_config.ensures ∙ ap declared_config c.line-item.is);
      room = omega (arith, was.room, pushed.capacity);
    }
