use Rattle.std.proofs.Common.{◌+◌, ◌-◌, ◌≡◌, ◌≤◌, ◌∙◌, ap, arith}
use Rattle.std.proofs.lemmas.Bool.{and_parts}
use Rattle.zp_model.specs.Runs.{run_freed}
use Rattle.zp_model.specs.Zone.{PlainZone, pages_of}
use Rattle.zp_laws.proofs.RunSteps.{lent_inside, may_free-to}
use Rattle.zp_zone.specs.NamedZone.{NamedZone}
use Rattle.zp_zone.proofs.RunsGiven.{freed_gone, freed_keeps}
use Rattle.zp_zone.proofs.untied_zone.UntiedZone.free_run.Goals.{After-at-at, After-number, In-Some}
use Rattle.zp_zone.proofs.untied_zone.UntiedZone.free_run.Goals as goal

base : (c : After-number) → c.self.inside.base ≡ c.args.self.now.plain.base
base c = ap (λ (z : NamedZone). z.plain.base) c.self.view_is

-- the run lies in the zone, and has a page
inside : (c : After-number) → (c.args.self.now.plain.base ≤ c.args.page) × (c.args.page - c.args.self.now.plain.base + c.args.pages ≤ pages_of c.args.self.now.plain) × (1 ≤ c.args.pages)
inside c =
    let x = may_free-to c.args.self.now.plain c.args.worker c.args.page c.args.pages c.requires.lent in
    (x.0, lent_inside c.args.self.now.plain c.args.worker (c.args.page - c.args.self.now.plain.base) c.args.pages c.lawful.ensures x.1, x.1.some)

pub overflow_sub-first : goal.overflow_sub-first
overflow_sub-first c =
    let before = (goal.at.overflow_sub-first c).After-number in
    omega (arith, (inside before).0, base before, c.number.ensures.same)

pub at-at-requires : goal.at-at-requires
at-at-requires c =
    let before = (goal.at.at-at-requires c).After-number in
    omega (arith, inside before, base before, c.number.ensures.same, c.pages-pages.ensures.pages, c.pages-pages.ensures.within)

-- its place
place : (c : After-at-at) → c.at-at.result ≡ c.args.page - c.args.self.now.plain.base
place c = c.at-at.ensures ∙ omega (arith, c.number.ensures.same, base (goal.at.After-at-at c).After-number)

pub order_of_run-requires : goal.order_of_run-requires
order_of_run-requires c =
    let before = (goal.at.order_of_run-requires c).After-at-at in
    omega (arith, place before, inside (goal.at.After-at-at before).After-number)

pub free_parts-requires-clause-some : goal.free_parts-requires-clause-some
free_parts-requires-clause-some c = omega (arith, (inside (goal.at.free_parts-requires-clause-some c).After-number).2)

pub free_parts-requires-clause-lent : goal.free_parts-requires-clause-lent
free_parts-requires-clause-lent c = rw (place (goal.at.free_parts-requires-clause-lent c).After-at-at) (and_parts _ _ c.requires.lent).1

pub returns-in-Some-clause-after : goal.returns-in-Some-clause-after
returns-in-Some-clause-after c =
    let with_plain : PlainZone → NamedZone = λ z. record c.args.self.now { plain = z } in
    c.free_whole.ensures
    ∙ ap (λ n. with_plain (run_freed c.args.self.now.plain c.args.worker c.at-at.result n)) c.in-Some.ensures.some.1
    ∙ ap (λ h. with_plain (run_freed c.args.self.now.plain c.args.worker h c.args.pages)) (place (goal.at.returns-in-Some-clause-after c).After-at-at)

pub returns-in-Some-clause-gone : goal.returns-in-Some-clause-gone
returns-in-Some-clause-gone c =
    rw (returns-in-Some-clause-after c) (freed_gone c.args.self.now.plain c.args.worker c.args.page c.args.pages c.lawful.ensures c.requires.worker c.requires.lent)

pub returns-in-Some-clause-kept : goal.returns-in-Some-clause-kept
returns-in-Some-clause-kept c =
    rw (returns-in-Some-clause-after c) (freed_keeps c.args.self.now.plain c.args.worker c.args.page c.args.pages c.lawful.ensures c.requires.worker c.requires.lent)

pub returns-clause-after : goal.returns-clause-after
returns-clause-after c =
    let with_plain : PlainZone → NamedZone = λ z. record c.args.self.now { plain = z } in
    c.free_parts.ensures ∙ ap (λ h. with_plain (run_freed c.args.self.now.plain c.args.worker h c.args.pages)) (place (goal.at.returns-clause-after c).After-at-at)

pub returns-clause-gone : goal.returns-clause-gone
returns-clause-gone c =
    rw (returns-clause-after c) (freed_gone c.args.self.now.plain c.args.worker c.args.page c.args.pages c.lawful.ensures c.requires.worker c.requires.lent)

pub returns-clause-kept : goal.returns-clause-kept
returns-clause-kept c =
    rw (returns-clause-after c) (freed_keeps c.args.self.now.plain c.args.worker c.args.page c.args.pages c.lawful.ensures c.requires.worker c.requires.lent)
