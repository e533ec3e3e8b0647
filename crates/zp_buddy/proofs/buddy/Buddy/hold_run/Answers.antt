use Rattle.std.proofs.Common.{◌+◌, ◌≤◌, arith, length, refl, subst, sym}
use Rattle.zp_area.specs.Blocks.{Blocks}
use Rattle.zp_area.specs.Given.{AreClearPages}
use Rattle.zp_buddy.specs.Runs.{AreClear}
use Rattle.zp_buddy.proofs.Framed.{are_clear_is}
use Rattle.zp_buddy.proofs.HeldNotes.{held_run, run_set}
use Rattle.zp_buddy.proofs.buddy.Buddy.hold_run.Goals.{After-self}
use Rattle.zp_buddy.proofs.buddy.Buddy.hold_run.Goals as goal

pub hold-requires-clause-page : goal.hold-requires-clause-page
hold-requires-clause-page c = omega (arith, c.requires.clear.inside, c.if-pages-eq1.true, c.pages-pages.ensures.framed.pages)

-- the pages are clear in the words of the free area
clear : (c : After-self) → let a : Blocks = c.self.inside.area in (c.args.at + c.args.pages ≤ length a.rows.states) × AreClearPages a.largest a.rows.states a.rows.lists c.args.at c.args.pages
clear c = are_clear_is c.self.inside.area.largest c.self.inside.area c.args.at c.args.pages (subst (λ f. AreClear f c.args.at c.args.pages) (sym c.self.view_is) c.requires.clear)

pub hold_run-requires-clause-run : goal.hold_run-requires-clause-run
hold_run-requires-clause-run c = (clear (goal.at.hold_run-requires-clause-run c).After-self).0

pub invariant_of-self : goal.invariant_of-self
invariant_of-self c =
    let x = clear (goal.at.invariant_of-self c).After-self in
    rw c.hold_run.ensures (held_run c.self.inside.area c.self.inside.free c.args.at c.args.pages c.args.state.now c.self.invariant x.1 c.requires.note)

pub returns-else-pages-eq1 : goal.returns-else-pages-eq1
returns-else-pages-eq1 c =
    let x = clear (goal.at.returns-else-pages-eq1 c).After-self in
    let e = run_set c.self.inside.area c.self.inside.free c.args.at c.args.pages c.args.state.now c.self.invariant x.1 c.requires.note in
    record { after = rw (← c.self.view_is, c.hold_run.ensures, e) refl }
