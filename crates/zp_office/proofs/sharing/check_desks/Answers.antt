use Rattle.std.proofs.Common.{All, ap, get_or, set, subst, ◌∙◌}
use Rattle.std.proofs.lemmas.List.{set-get_or, take_all}
use Rattle.std.proofs.lemmas.List.Elements.{All-more}
use Rattle.zp_office.specs.Runs.{HaveShare}
use Rattle.zp_office.proofs.sharing.check_desks.Goals as goal

pub loop-desk-preserved : goal.loop-desk-preserved
loop-desk-preserved c =
    let i = c.loop-desk.invariant in
    let n = c.loop-desk.desk-index in
    let r = c.desk-item.result in
    let ds = c.loop-desk.desks in
    let told = c.check_desk.ensures in
    let one : HaveShare c.args.zones.now (get_or ds n r) = subst (λ zs. HaveShare zs (get_or ds n r)) i.zones told.agree in
    record {
      zones = told.zones ∙ i.zones;
      desks = ap (set ds n) told.desk ∙ set-get_or ds n r ∙ i.desks;
      agree = All-more (HaveShare c.args.zones.now) c.args.desks.now n r c.loop-desk-test.true i.agree (subst (λ l. HaveShare c.args.zones.now (get_or l n r)) i.desks one);
    }

pub returns-clause-agree : goal.returns-clause-agree
returns-clause-agree c =
    subst (All (HaveShare c.args.zones.now)) (take_all c.loop-desk.desk-index c.args.desks.now c.loop-desk-test.false) c.loop-desk.invariant.agree
