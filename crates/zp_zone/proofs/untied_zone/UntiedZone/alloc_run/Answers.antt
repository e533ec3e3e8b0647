use Rattle.std.proofs.Common.{◌+◌, ◌≡◌, ◌≤◌, ◌<◌, ◌↔◌, ◌∙◌, ap, sym, true, arith}
use Rattle.std.proofs.lemmas.Bool.{false_from_ne_true}
use Rattle.zp_model.specs.declared.refused.Refused.TheVariants.{BelowMark, NoBlock}
use Rattle.zp_model.specs.declared.request.Reply.{Reply}
use Rattle.zp_model.specs.Mark.{pages_at_hand}
use Rattle.zp_model.specs.Runs.{is_above_by, run_taken}
use Rattle.zp_model.specs.Step.{Outcome, alloc_run, refuse}
use Rattle.zp_laws.proofs.KeepingRuns.{IsFree}
use Rattle.zp_zone.specs.Kept.{plain_of}
use Rattle.zp_zone.specs.NamedZone.{NamedZone}
use Rattle.zp_zone.proofs.BlockSteps.{named}
use Rattle.zp_zone.proofs.LowestRuns.{free_run, lowest_free, marked, may_alloc_run-to, run_below, run_got, run_none}
use Rattle.zp_zone.proofs.RunsGiven.{free_fresh, taken_keeps, taken_lends}
use Rattle.zp_zone.proofs.untied_zone.UntiedZone.alloc_run.Goals.{After-new-page, After-take_if_free-taken, After-room_above-room, In-Some, In_default}
use Rattle.zp_zone.proofs.untied_zone.UntiedZone.alloc_run.Goals as goal

-- the mark's test
test : (c : After-room_above-room) →
    (c.args.pages ≤ c.room_above-room.result) ↔ (is_above_by c.self.inside.min (pages_at_hand (plain_of c.self.inside.buddy c.self.inside.base c.self.inside.min)) c.args.pages c.args.mark ≡ true)
test c =
    marked (plain_of c.self.inside.buddy c.self.inside.base c.self.inside.min) c.args.pages c.available_pages.result c.room_above-room.result c.args.mark c.available_pages.ensures c.room_above-room.ensures.run
    (may_alloc_run-to c.args.pages c.args.align c.requires.may).0 (omega (arith, c.ranges.pages))

-- it fails
below : (c : After-room_above-room) → c.room_above-room.result < c.args.pages →
    alloc_run (plain_of c.self.inside.buddy c.self.inside.base c.self.inside.min) c.args.worker c.args.pages c.args.align c.args.mark ≡ refuse (plain_of c.self.inside.buddy c.self.inside.base c.self.inside.min) BelowMark
below c lt =
    run_below (plain_of c.self.inside.buddy c.self.inside.base c.self.inside.min) c.args.worker c.args.pages c.args.align c.args.mark (false_from_ne_true _ (λ e. omega (arith, (test c).1 e)))

pub returns-then-room-pages-clause-reply : goal.returns-then-room-pages-clause-reply
returns-then-room-pages-clause-reply c =
    rw (← c.self.view_is) (ap (λ (o : Outcome). o.reply) (sym (below (goal.at.returns-then-room-pages-clause-reply c).After-room_above-room c.if-room-pages.true)))

pub returns-then-room-pages-clause-after : goal.returns-then-room-pages-clause-after
returns-then-room-pages-clause-after c =
    rw (← c.self.view_is) (ap (λ (o : Outcome). named c.self.inside.name o.zone) (sym (below (goal.at.returns-then-room-pages-clause-after c).After-room_above-room c.if-room-pages.true)))

-- it passes
above : (c : After-room_above-room) → c.args.pages ≤ c.room_above-room.result → is_above_by c.args.self.now.plain.min (pages_at_hand c.args.self.now.plain) c.args.pages c.args.mark ≡ true
above c le = rw (← c.self.view_is) ((test c).0 le)

-- and there is no run
none : (c : In_default) → c.args.pages ≤ c.room_above-room.result →
    alloc_run c.args.self.now.plain c.args.worker c.args.pages c.args.align c.args.mark ≡ refuse c.args.self.now.plain NoBlock
none c le = run_none c.args.self.now.plain c.args.worker c.args.pages c.args.align c.args.mark (above (goal.at.In_default c).After-room_above-room le) (sym c.in_default.ensures)

pub returns-in_default-clause-reply : goal.returns-in_default-clause-reply
returns-in_default-clause-reply c = ap (λ (o : Outcome). o.reply) (sym (none (goal.at.returns-in_default-clause-reply c).In_default c.if-room-pages.false))

pub returns-in_default-clause-after : goal.returns-in_default-clause-after
returns-in_default-clause-after c =
    ap (λ (o : Outcome). let z : NamedZone = record c.args.self.now { plain = o.zone } in z) (sym (none (goal.at.returns-in_default-clause-after c).In_default c.if-room-pages.false))

-- or this one
free : (c : In-Some) → IsFree c.args.self.now.plain c.in-Some.at c.args.pages
free c = lowest_free c.args.self.now.plain c.args.pages c.args.align c.in-Some.at (sym c.in-Some.ensures)

pub take_if_free-taken-requires-clause-some : goal.take_if_free-taken-requires-clause-some
take_if_free-taken-requires-clause-some c = (may_alloc_run-to c.args.pages c.args.align c.requires.may).0

pub take_if_free-taken-requires-clause-inside : goal.take_if_free-taken-requires-clause-inside
take_if_free-taken-requires-clause-inside c = (free (goal.at.take_if_free-taken-requires-clause-inside c).In-Some).inside

-- so it was taken
taken : (c : After-take_if_free-taken) → c.take_if_free-taken.new.self ≡ (let z : NamedZone = record c.args.self.now { plain = run_taken c.args.self.now.plain c.args.worker c.in-Some.at c.args.pages } in z)
taken c =
    let run = free (goal.at.After-take_if_free-taken c).In-Some in
    c.take_if_free-taken.ensures.taken (c.take_if_free-taken.ensures.when ∙ free_run c.args.self.now.plain c.in-Some.at c.args.pages run)

page : (c : After-new-page) → c.new-page.result ≡ c.args.self.now.plain.base + c.in-Some.at
page c = omega (arith, c.new-page.ensures, c.number.ensures.same, ap (λ (z : NamedZone). z.plain.base) c.self.view_is)

got : (c : In-Some) → c.args.pages ≤ c.room_above-room.result →
    alloc_run c.args.self.now.plain c.args.worker c.args.pages c.args.align c.args.mark
    ≡ (let o : Outcome = record { reply = Reply.Page (c.args.self.now.plain.base + c.in-Some.at); zone = run_taken c.args.self.now.plain c.args.worker c.in-Some.at c.args.pages } in o)
got c le = run_got c.args.self.now.plain c.args.worker c.args.pages c.args.align c.args.mark c.in-Some.at (above (goal.at.In-Some c).After-room_above-room le) (sym c.in-Some.ensures)

pub returns-clause-reply : goal.returns-clause-reply
returns-clause-reply c =
    ap (λ n. Reply.Page n) (page (goal.at.returns-clause-reply c).After-new-page)
    ∙ ap (λ (o : Outcome). o.reply) (sym (got (goal.at.returns-clause-reply c).In-Some c.if-room-pages.false))

pub returns-clause-after : goal.returns-clause-after
returns-clause-after c =
    taken (goal.at.returns-clause-after c).After-take_if_free-taken ∙ ap (λ (o : Outcome). let z : NamedZone = record c.args.self.now { plain = o.zone } in z) (sym (got (goal.at.returns-clause-after c).In-Some c.if-room-pages.false))

pub returns-clause-lent : goal.returns-clause-lent
returns-clause-lent c =
    rw (taken (goal.at.returns-clause-lent c).After-take_if_free-taken, page (goal.at.returns-clause-lent c).After-new-page)
    (taken_lends c.args.self.now.plain c.lawful.ensures c.args.worker c.in-Some.at c.args.pages c.requires.worker (free (goal.at.returns-clause-lent c).In-Some) (may_alloc_run-to c.args.pages c.args.align c.requires.may).0)

pub returns-clause-fresh : goal.returns-clause-fresh
returns-clause-fresh c =
    rw (page (goal.at.returns-clause-fresh c).After-new-page) (free_fresh c.args.self.now.plain c.in-Some.at c.args.pages c.lawful.ensures (free (goal.at.returns-clause-fresh c).In-Some))

pub returns-clause-kept : goal.returns-clause-kept
returns-clause-kept c =
    rw (taken (goal.at.returns-clause-kept c).After-take_if_free-taken) (taken_keeps c.args.self.now.plain c.lawful.ensures c.args.worker c.in-Some.at c.args.pages c.requires.worker (free (goal.at.returns-clause-kept c).In-Some))
