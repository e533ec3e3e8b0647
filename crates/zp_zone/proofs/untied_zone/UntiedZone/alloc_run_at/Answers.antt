use Rattle.std.proofs.Common.{◌+◌, ◌-◌, ◌≡◌, ◌≤◌, ◌∙◌, ap, refl, sym, length, true, false, arith}
use Rattle.zp_model.specs.declared.refused.Refused.TheVariants.{BadRun, NotFree}
use Rattle.zp_model.specs.declared.request.Reply.{Reply}
use Rattle.zp_model.specs.Runs.{has_pages, run_taken}
use Rattle.zp_model.specs.Step.{Outcome, alloc_run_at, refuse}
use Rattle.zp_zone.specs.Kept.{plain_of}
use Rattle.zp_zone.specs.NamedZone.{NamedZone}
use Rattle.zp_zone.proofs.BlockSteps.{named}
use Rattle.zp_model.specs.Lawful.{IsLawful}
use Rattle.zp_model.proofs.LowestRun.{has_pages-to}
use Rattle.zp_model.proofs.RunParts.{within-to}
use Rattle.zp_laws.proofs.KeepingRuns.{IsFree}
use Rattle.zp_zone.proofs.RunsGiven.{free_fresh, taken_keeps, taken_lends}
use Rattle.zp_zone.proofs.RunsTaken.{at_got, at_no_place, at_not_free}
use Rattle.zp_zone.proofs.untied_zone.UntiedZone.alloc_run_at.Goals.{In_default, In-Some}
use Rattle.zp_zone.proofs.untied_zone.UntiedZone.alloc_run_at.Goals as goal

-- the run is not the zone's
bad : (c : In_default) → alloc_run_at (plain_of c.self.inside.buddy c.self.inside.base c.self.inside.min) c.args.worker c.args.page c.args.pages ≡ refuse (plain_of c.self.inside.buddy c.self.inside.base c.self.inside.min) BadRun
bad c =
    let size : c.pages.result ≡ length c.self.inside.buddy.area.free = c.pages.ensures.pages ∙ sym c.pages.ensures.framed.pages in
    at_no_place (plain_of c.self.inside.buddy c.self.inside.base c.self.inside.min) c.args.worker c.args.page c.args.pages (λ le some room. c.in_default.ensures.none le some (rw size room))

pub returns-in_default-clause-reply : goal.returns-in_default-clause-reply
returns-in_default-clause-reply c = rw (← c.self.view_is) (ap (λ (o : Outcome). o.reply) (sym (bad (goal.at.returns-in_default-clause-reply c).In_default)))

pub returns-in_default-clause-after : goal.returns-in_default-clause-after
returns-in_default-clause-after c = rw (← c.self.view_is) (ap (λ (o : Outcome). named c.self.inside.name o.zone) (sym (bad (goal.at.returns-in_default-clause-after c).In_default)))

-- the run is the zone's
inside : (c : In-Some) → c.args.page - c.self.inside.base + c.args.pages ≤ length c.self.inside.buddy.area.free
inside c = omega (arith, c.in-Some.ensures.some.1, c.in-Some.ensures.some.3, c.pages.ensures.pages, c.pages.ensures.framed.pages)

pub take_if_free-requires-clause-inside : goal.take_if_free-requires-clause-inside
take_if_free-requires-clause-inside c =
    rw (← c.self.view_is) (omega (arith, inside (goal.at.take_if_free-requires-clause-inside c).In-Some, c.in-Some.ensures.some.1))

-- one of its pages is not free
used : (c : In-Some) → false ≡ has_pages c.args.self.now.plain.area.free c.in-Some.at c.args.pages →
    alloc_run_at c.args.self.now.plain c.args.worker c.args.page c.args.pages ≡ refuse c.args.self.now.plain NotFree
used c =
    rw (← c.self.view_is) (λ e.
    at_not_free (plain_of c.self.inside.buddy c.self.inside.base c.self.inside.min) c.args.worker c.args.page c.args.pages c.in-Some.ensures.some.0 c.in-Some.ensures.some.2 (inside c) (rw (← c.in-Some.ensures.some.1) (sym e)))

pub returns-then-not-take_if_free-clause-reply : goal.returns-then-not-take_if_free-clause-reply
returns-then-not-take_if_free-clause-reply c =
    ap (λ (o : Outcome). o.reply) (sym (used (goal.at.returns-then-not-take_if_free-clause-reply c).In-Some c.if-not-take_if_free.ensures.when))

pub returns-then-not-take_if_free-clause-after : goal.returns-then-not-take_if_free-clause-after
returns-then-not-take_if_free-clause-after c =
    c.if-not-take_if_free.ensures.left refl
    ∙ ap (λ (o : Outcome). let z : NamedZone = record c.args.self.now { plain = o.zone } in z) (sym (used (goal.at.returns-then-not-take_if_free-clause-after c).In-Some c.if-not-take_if_free.ensures.when))

pub returns-then-not-take_if_free-clause-kept : goal.returns-then-not-take_if_free-clause-kept
returns-then-not-take_if_free-clause-kept c = rw (c.if-not-take_if_free.ensures.left refl) (λ g k w q. q)

-- all of them are
got : (c : In-Some) → true ≡ has_pages c.args.self.now.plain.area.free c.in-Some.at c.args.pages →
    alloc_run_at c.args.self.now.plain c.args.worker c.args.page c.args.pages ≡ (let o : Outcome = record { reply = Reply.Page c.args.page; zone = run_taken c.args.self.now.plain c.args.worker c.in-Some.at c.args.pages } in o)
got c =
    rw (← c.self.view_is, c.in-Some.ensures.some.1) (λ e.
    at_got (plain_of c.self.inside.buddy c.self.inside.base c.self.inside.min) c.args.worker c.args.page c.args.pages c.in-Some.ensures.some.0 c.in-Some.ensures.some.2 (inside c) (sym e))

pub returns-clause-reply : goal.returns-clause-reply
returns-clause-reply c = ap (λ (o : Outcome). o.reply) (sym (got (goal.at.returns-clause-reply c).In-Some c.if-not-take_if_free.ensures.when))

pub returns-clause-after : goal.returns-clause-after
returns-clause-after c =
    c.if-not-take_if_free.ensures.taken refl
    ∙ ap (λ (o : Outcome). let z : NamedZone = record c.args.self.now { plain = o.zone } in z) (sym (got (goal.at.returns-clause-after c).In-Some c.if-not-take_if_free.ensures.when))

-- the run is free, and is that of the pages asked for
whole : (c : In-Some) → true ≡ has_pages c.args.self.now.plain.area.free c.in-Some.at c.args.pages → IsFree c.args.self.now.plain c.in-Some.at c.args.pages
whole c e = record {
  inside = rw (← c.self.view_is) (omega (arith, inside c, c.in-Some.ensures.some.1));
  full = λ i q. let r = within-to c.in-Some.at c.args.pages i q in has_pages-to c.args.self.now.plain.area.free c.in-Some.at c.args.pages (sym e) i r.0 r.1;
}

place : (c : In-Some) → c.args.self.now.plain.base + c.in-Some.at ≡ c.args.page
place c =
    let base : c.self.inside.base ≡ c.args.self.now.plain.base = ap (λ (z : NamedZone). z.plain.base) c.self.view_is in
    omega (arith, c.in-Some.ensures.some.0, c.in-Some.ensures.some.1, base)

lawful : (c : In-Some) → IsLawful c.args.self.now.plain
lawful c = rw (← c.self.view_is) c.self.invariant.lawful

pub returns-clause-lent : goal.returns-clause-lent
returns-clause-lent c =
    let b = (goal.at.returns-clause-lent c).In-Some in
    rw (ap (λ (z : NamedZone). z.plain) (c.if-not-take_if_free.ensures.taken refl), ← place b)
    (taken_lends c.args.self.now.plain (lawful b) c.args.worker c.in-Some.at c.args.pages c.requires (whole b c.if-not-take_if_free.ensures.when) (omega (arith, c.in-Some.ensures.some.2)))

pub returns-clause-fresh : goal.returns-clause-fresh
returns-clause-fresh c =
    let b = (goal.at.returns-clause-fresh c).In-Some in
    rw (← place b) (free_fresh c.args.self.now.plain c.in-Some.at c.args.pages (lawful b) (whole b c.if-not-take_if_free.ensures.when))

pub returns-clause-kept : goal.returns-clause-kept
returns-clause-kept c =
    let b = (goal.at.returns-clause-kept c).In-Some in
    rw (ap (λ (z : NamedZone). z.plain) (c.if-not-take_if_free.ensures.taken refl))
    (taken_keeps c.args.self.now.plain (lawful b) c.args.worker c.in-Some.at c.args.pages c.requires (whole b c.if-not-take_if_free.ensures.when))
