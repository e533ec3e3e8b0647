use Rattle.std.proofs.Common.{arith}
use Rattle.std.proofs.lemmas.Grind.{common_steps}
use Rattle.std.proofs.lemmas.List.Elements.{All-more}
use Rattle.zonealloc.specs.Memory.{HasSize}
use Rattle.zonealloc.proofs.memory.bytes_of.Goals as goal

pub loop-zone-preserved : goal.loop-zone-preserved
loop-zone-preserved c =
    let kept = c.loop-zone.invariant in let zone = c.in_ok-told.ensures in
    record {
      sum = grind (arith, common_steps, kept.sum, zone.ok);
      sizes = All-more HasSize c.args.zones.now c.loop-zone.zone-index _ c.loop-zone-test.true kept.sizes zone.ok.1;
      small = omega (arith, kept.small, zone.small);
    }
