use Rattle.std.proofs.Common.{◌+◌, ◌-◌, ◌^◌, ◌<◌, ◌∙◌, ap, arith, set}
use Rattle.zp_model.specs.declared.state.State.TheVariants.{Tail}
use Rattle.zp_model.specs.Frames.{Frames}
use Rattle.zp_model.specs.Runs.{run_freed}
use Rattle.zp_model.specs.Zone.{workers_of}
use Rattle.zp_zone.specs.Kept.{plain_of}
use Rattle.zp_zone.specs.NamedZone.{NamedZone}
use Rattle.zp_zone.specs.RunsAt.{IsGivenRun, IsNotedRun}
use Rattle.zp_zone.proofs.BlockSteps.{named}
use Rattle.zp_zone.proofs.RunsFreed.{IsPart, before_clear, behind_clear, part_beside, part_from, part_head, part_here, part_kept, part_pages, part_plain, part_unheld, part_used}
use Rattle.zp_zone.proofs.untied_zone.UntiedZone.free_part_of.Goals.{After-pages-pages, After-give_cut, After-note_cut, After-note_cut-2}
use Rattle.zp_zone.proofs.untied_zone.UntiedZone.free_part_of.Goals as goal

-- the pages are of the block
part : (c : After-pages-pages) → IsPart c.self.inside.buddy c.self.inside.base c.self.inside.min c.args.worker c.args.head c.args.at c.args.pages (record { order = c.args.order; kind = c.args.kind; worker = c.args.worker })
part c = record {
  asked = record { framed = c.pages-pages.ensures.framed; lawful = c.self.invariant.lawful };
  around = rw (← c.self.view_is) at c.requires.around;
  some = c.requires.some;
  within = c.requires.within;
}

pub overflow_add-behind : goal.overflow_add-behind
overflow_add-behind c = omega (arith, c.pages.ensures.pages)

pub overflow_sub-before : goal.overflow_sub-before
overflow_sub-before c = omega (arith, part_from (part (goal.at.overflow_sub-before c).After-pages-pages))

pub overflow_sub-left : goal.overflow_sub-left
overflow_sub-left c = omega (arith, c.pages.ensures.pages)

pub hold-requires-clause-page : goal.hold-requires-clause-page
hold-requires-clause-page c = part_head (part (goal.at.hold-requires-clause-page c).After-pages-pages)

pub hold-requires-clause-used : goal.hold-requires-clause-used
hold-requires-clause-used c = part_used (part (goal.at.hold-requires-clause-used c).After-pages-pages)

pub give_cut-requires-clause-clear : goal.give_cut-requires-clause-clear
give_cut-requires-clause-clear c = rw (c.hold.ensures.after, c.number-from.ensures.same) (part_pages (part (goal.at.give_cut-requires-clause-clear c).After-pages-pages))

pub give_cut-requires-clause-listed : goal.give_cut-requires-clause-listed
give_cut-requires-clause-listed c = rw c.hold.ensures.after c.self.invariant.lawful.lists

pub give_cut-requires-clause-beside : goal.give_cut-requires-clause-beside
give_cut-requires-clause-beside c = rw c.hold.ensures.after (part_beside (part (goal.at.give_cut-requires-clause-beside c).After-pages-pages) c.self.invariant.aside)

pub give_cut-requires-clause-unheld : goal.give_cut-requires-clause-unheld
give_cut-requires-clause-unheld c = rw c.hold.ensures.after (part_unheld (part (goal.at.give_cut-requires-clause-unheld c).After-pages-pages))

pub give_cut-requires-clause-here : goal.give_cut-requires-clause-here
give_cut-requires-clause-here c = rw (c.hold.ensures.after, c.number-from.ensures.same) (part_here (part (goal.at.give_cut-requires-clause-here c).After-pages-pages))

-- the frames before, with no note of the block's head
abbrev blank : After-pages-pages → Frames
blank c = record c.self.inside.buddy { states = set c.self.inside.buddy.states c.args.head Tail }

given : (c : After-give_cut) → IsGivenRun (blank (goal.at.After-give_cut c).After-pages-pages) c.give_cut.new.buddy c.args.at c.args.pages
given c = rw (c.hold.ensures.after, c.number-from.ensures.same) at c.give_cut.ensures

pub note_cut-requires-clause-clear : goal.note_cut-requires-clause-clear
note_cut-requires-clause-clear c =
    rw (c.number-first.ensures.same, c.number-from.ensures.same)
    (before_clear (part (goal.at.note_cut-requires-clause-clear c).After-pages-pages) c.give_cut.new.buddy (given (goal.at.note_cut-requires-clause-clear c).After-give_cut))

pub note_cut-requires-clause-beside : goal.note_cut-requires-clause-beside
note_cut-requires-clause-beside c = c.give_cut.ensures.beside

before : (c : After-note_cut) → IsNotedRun c.give_cut.new.buddy c.note_cut.new.buddy c.args.worker (λ q. c.args.kind) c.args.head (c.args.at - c.args.head)
before c = rw (c.number-first.ensures.same, c.number-from.ensures.same) at c.note_cut.ensures

pub note_cut-requires-2-clause-clear : goal.note_cut-requires-2-clause-clear
note_cut-requires-2-clause-clear c =
    rw (c.number-first.ensures.same, c.number-from.ensures.same, c.pages.ensures.pages)
    (behind_clear (part (goal.at.note_cut-requires-2-clause-clear c).After-pages-pages) c.give_cut.new.buddy (given (goal.at.note_cut-requires-2-clause-clear c).After-give_cut) c.note_cut.new.buddy
    (before (goal.at.note_cut-requires-2-clause-clear c).After-note_cut))

pub note_cut-requires-2-clause-beside : goal.note_cut-requires-2-clause-beside
note_cut-requires-2-clause-beside c = c.note_cut.ensures.beside

behind : (c : After-note_cut-2) → IsNotedRun c.note_cut.new.buddy c.note_cut-2.new.buddy c.args.worker (λ q. c.args.kind) (c.args.at + c.args.pages) (c.args.head + 2 ^ c.args.order - (c.args.at + c.args.pages))
behind c = rw (c.number-first.ensures.same, c.number-from.ensures.same, c.pages.ensures.pages) at c.note_cut-2.ensures

pub invariant_of-self : goal.invariant_of-self
invariant_of-self c =
    let now = (goal.at.invariant_of-self c).After-note_cut-2 in
    let workers : c.args.worker < workers_of (plain_of c.self.inside.buddy c.self.inside.base c.self.inside.min) = rw (← c.self.view_is) at c.requires.worker in
    part_kept (part (goal.at.invariant_of-self c).After-pages-pages) c.give_cut.new.buddy (given (goal.at.invariant_of-self c).After-give_cut) c.note_cut.new.buddy (before (goal.at.invariant_of-self c).After-note_cut)
    c.note_cut-2.new.buddy (behind now) c.self.inside.name c.self.invariant workers

pub returns : goal.returns
returns c =
    ap (named c.self.inside.name)
    (part_plain (part (goal.at.returns c).After-pages-pages) c.give_cut.new.buddy (given (goal.at.returns c).After-give_cut) c.note_cut.new.buddy (before (goal.at.returns c).After-note_cut)
    c.note_cut-2.new.buddy (behind (goal.at.returns c).After-note_cut-2))
    ∙ ap (λ (z : NamedZone). let y : NamedZone = record z { plain = run_freed z.plain c.args.worker c.args.at c.args.pages } in y) c.self.view_is
