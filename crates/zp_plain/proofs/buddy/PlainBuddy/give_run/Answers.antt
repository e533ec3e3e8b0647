use Rattle.std.proofs.Common.{◌≡◌, length, sym, ◌∙◌, ap, subst}
use Rattle.zp_model.specs.Area.{Area}
use Rattle.zp_model.specs.Frames.{Frames, IsFramed, with_area}
use Rattle.zp_model.specs.Runs.{give_run}
use Rattle.zp_model.proofs.RunParts.{length-with_pages}
use Rattle.zp_laws.proofs.Areas.{free-give_run}
use Rattle.zp_plain.specs.Clear.{IsClearRun}
use Rattle.zp_plain.proofs.Framed.{kept_given_run, written}
use Rattle.zp_plain.proofs.buddy.PlainBuddy.give_run.Goals as goal

pub restate_all-requires-clause-pages : goal.restate_all-requires-clause-pages
restate_all-requires-clause-pages c =
    sym c.self.invariant.pages ∙ sym (length-with_pages c.self.inside.area.free c.args.at c.args.pages)
    ∙ sym (ap length (c.marks.ensures.marks ∙ ap (λ (a : Area). a.free) c.give_run.ensures.after ∙ free-give_run c.self.inside.area c.args.at c.args.pages))

-- what the body leaves
after : (c : goal.After-restate_all) →
    (let f : Frames = record { area = c.give_run.new.self; states = c.restate_all.new.notes.items; sides = c.self.inside.sides.items } in f)
    ≡ with_area (record { area = c.self.inside.area; states = c.self.inside.notes.items; sides = c.self.inside.sides.items }) (give_run c.self.inside.area c.args.at c.args.pages)
after c = written _ _ _ _ _ _ _ c.restate_all.ensures c.marks.ensures.marks (sym c.largest.ensures) c.give_run.ensures.after

pub returns : goal.returns
returns c = after c ∙ ap (λ (f : Frames). with_area f (give_run f.area c.args.at c.args.pages)) c.self.view_is

pub invariant_of-self : goal.invariant_of-self
invariant_of-self c =
    let P : Frames → Type 0 = λ f. IsClearRun f.area.free f.sides c.args.at c.args.pages in
    subst IsFramed (sym (after c)) (kept_given_run _ c.args.at c.args.pages c.self.invariant (subst P (sym c.self.view_is) c.requires))
