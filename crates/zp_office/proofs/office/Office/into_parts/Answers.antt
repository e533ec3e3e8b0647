use Rattle.std.proofs.Common.{rules, ◌≡◌, ◌∙◌, length, sym, ap, subst, List}
use Rattle.zp_share.specs.Crews.{AreSharesOf, crew_of}
use Rattle.zp_share.specs.Shares.{ShareState}
use Rattle.zp_office.specs.Offices.{OfficeState, crew_in}
use Rattle.zp_office.proofs.Leaving.{all_taken, crew_left, shares_are, shares_in}
use Rattle.zp_office.proofs.office.Office.into_parts.Goals as goal

left : (c : goal.After-drop-desk-iterator) → c.loop-desk.shares.items ≡ shares_in c.self.inside.desks.items
left c =
    let none : length c.loop-desk.desk-iterator.rest.items ≡ 0 = sym c.loop-desk.desk-iterator.rest.ok.0 ∙ c.in-None.ensures.steps.0 in
    let from : c.into_iter-desk-iterator.result.rest.items ≡ c.self.inside.desks.items = search rules in
    c.loop-desk.invariant.shares ∙ ap shares_in (all_taken _ _ _ _ c.loop-desk.invariant.whole none from)

pub returns-clause-shares : goal.returns-clause-shares
returns-clause-shares c = subst (λ (ss : List ShareState). AreSharesOf c.self.inside.zones ss) (sym (left c)) (shares_are c.self.inside.zones c.self.inside.desks.items c.self.invariant)

pub returns-clause-crew : goal.returns-clause-crew
returns-clause-crew c =
    ap (crew_of c.self.inside.zones) (left c)
    ∙ crew_left c.self.inside.zones c.self.inside.desks.items
    ∙ ap (λ (o : OfficeState). crew_in o) c.self.view_is
