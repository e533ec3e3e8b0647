use Rattle.std.proofs.Common.{◌+◌, ◌≤◌, ◌<◌, ◌∙◌, ap, refl, sym, length}
use Rattle.zp_model.specs.Area.{kind_at}
use Rattle.zp_model.specs.Frames.{Frames}
use Rattle.zp_model.specs.PageblockType.{noted_type}
use Rattle.zp_model.specs.Runs.{run_taken}
use Rattle.zp_model.specs.Zone.{workers_of}
use Rattle.zp_zone.specs.Kept.{plain_of}
use Rattle.zp_zone.specs.NamedZone.{NamedZone}
use Rattle.zp_zone.specs.RunsAt.{IsNotedRun}
use Rattle.zp_zone.proofs.BlockSteps.{IsAsked, named}
use Rattle.zp_zone.proofs.RunsTaken.{left_aside, run_kept, run_out}
use Rattle.zp_zone.proofs.untied_zone.UntiedZone.take_parts_if_free.Goals.{After-note_taken, After-pages-pages}
use Rattle.zp_zone.proofs.untied_zone.UntiedZone.take_parts_if_free.Goals as goal

asked : (c : After-pages-pages) → IsAsked c.self.inside.buddy c.self.inside.base c.self.inside.min
asked c = record { framed = c.pages-pages.ensures.framed; lawful = c.self.invariant.lawful }

inside : (c : After-pages-pages) → c.args.at + c.args.pages ≤ length c.self.inside.buddy.area.free
inside c = rw (← c.self.view_is) at c.requires.inside

pub note_taken-requires-clause-beside : goal.note_taken-requires-clause-beside
note_taken-requires-clause-beside c =
    let now = (goal.at.note_taken-requires-clause-beside c).After-pages-pages in
    left_aside c.self.inside.buddy c.take_pages.new.self c.self.inside.base c.self.inside.min c.args.at c.args.pages (asked now) (inside now) (sym c.if-not-take_pages.ensures.when) (c.if-not-take_pages.ensures.after refl) c.self.invariant.aside

noted : (c : After-note_taken) →
    IsNotedRun c.take_pages.new.self c.note_taken.new.buddy c.args.worker (λ g. noted_type (kind_at c.take_pages.new.self.area.largest c.take_pages.new.self.area.kinds g)) c.args.at c.args.pages
noted c = rw c.number.ensures.same at c.note_taken.ensures

pub invariant_of-self-2 : goal.invariant_of-self-2
invariant_of-self-2 c =
    let now = (goal.at.invariant_of-self-2 c).After-pages-pages in
    let f : Frames = c.self.inside.buddy in
    let workers : c.args.worker < workers_of (plain_of f c.self.inside.base c.self.inside.min) = rw (← c.self.view_is) at c.requires.worker in
    run_kept f c.take_pages.new.self c.self.inside.base c.self.inside.min c.args.at c.args.pages (asked now) (inside now) (sym c.if-not-take_pages.ensures.when) (c.if-not-take_pages.ensures.after refl) c.note_taken.new.buddy
    c.args.worker (noted (goal.at.invariant_of-self-2 c).After-note_taken) c.self.inside.name c.self.invariant workers

pub returns-clause-taken : goal.returns-clause-taken
returns-clause-taken c = λ _.
    let now = (goal.at.returns-clause-taken c).After-pages-pages in
    ap (named c.self.inside.name)
    (run_out c.self.inside.buddy c.take_pages.new.self c.self.inside.base c.self.inside.min c.args.at c.args.pages (asked now) (inside now) (sym c.if-not-take_pages.ensures.when) (c.if-not-take_pages.ensures.after refl)
    c.note_taken.new.buddy c.args.worker (noted (goal.at.returns-clause-taken c).After-note_taken))
    ∙ ap (λ (v : NamedZone). let y : NamedZone = record v { plain = run_taken v.plain c.args.worker c.args.at c.args.pages } in y) c.self.view_is
