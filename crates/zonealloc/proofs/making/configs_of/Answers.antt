use Rattle.std.proofs.Common.{All, arith, inr, subst}
use Rattle.std.proofs.lemmas.List.{get_or_default, take_all}
use Rattle.std.proofs.lemmas.List.Elements.{All-more}
use Rattle.zp_gate.proofs.Keys.{same_next}
use Rattle.zp_gate.specs.GatedRows.{key_for, wanted_by}
use Rattle.zonealloc.specs.Zones.{IsConfig, spec_key, wanted_zone}
use Rattle.zonealloc.proofs.making.configs_of.Goals as goal

pub loop-zone-preserved : goal.loop-zone-preserved
loop-zone-preserved c =
    let kept = c.loop-zone.invariant in let zones = c.args.zones.now in let i = c.loop-zone.zone-index in
    let config = c.in-Ok-config_of.config in let told = c.in-Ok-config_of.ensures in
    record {
      many = omega (arith, c.push_reserved.ensures.len, kept.many);
      room = omega (arith, c.push_reserved.ensures.capacity, kept.room);
      keys = λ n. same_next (key_for n) (spec_key n) c.loop-zone.configs.items c.push_reserved.new.self.items config zones i _ c.loop-zone-test.true c.push_reserved.ensures.items (kept.keys n) ((told.ok n).0);
      wanted = λ n. same_next (wanted_by n) (wanted_zone n) c.loop-zone.configs.items c.push_reserved.new.self.items config zones i _ c.loop-zone-test.true c.push_reserved.ensures.items (kept.wanted n) ((told.ok n).1);
      good = All-more IsConfig zones i _ c.loop-zone-test.true kept.good told.good;
    }

pub returns-in-Err-clause-why : goal.returns-in-Err-clause-why
returns-in-Err-clause-why c =
    let i = c.loop-zone.zone-index in let zones = c.args.zones.now in let lt = c.loop-zone-test.true in
    inr (record { i = i; zone = _; before = c.loop-zone.invariant.good; at = (lt, λ none. get_or_default zones i none _ lt); number = c.in-Err.ensures.why })

pub returns-clause-good : goal.returns-clause-good
returns-clause-good c = subst (All IsConfig) (take_all c.loop-zone.zone-index c.args.zones.now c.loop-zone-test.false) c.loop-zone.invariant.good
