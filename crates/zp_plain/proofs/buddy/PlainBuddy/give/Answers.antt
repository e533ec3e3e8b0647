use Rattle.std.proofs.Common.{◌≡◌, length, sym, ◌∙◌, ap, subst, length-set}
use Rattle.zp_model.specs.Area.{Area}
use Rattle.zp_model.specs.Frames.{Frames, given, IsClear, IsFramed}
use Rattle.zp_model.proofs.Covers.{length-with}
use Rattle.zp_laws.proofs.Areas.{free-give}
use Rattle.zp_plain.proofs.Framed.{kept_given, written}
use Rattle.zp_plain.proofs.buddy.PlainBuddy.give.Goals as goal

pub restate_all-requires-clause-pages : goal.restate_all-requires-clause-pages
restate_all-requires-clause-pages c =
    length-set _ _ _ ∙ sym c.self.invariant.pages ∙ sym (length-with c.self.inside.area.free c.args.at c.args.order)
    ∙ sym (ap length (c.marks.ensures.marks ∙ ap (λ (a : Area). a.free) c.give.ensures.after ∙ free-give c.self.inside.area c.args.at c.args.order))

-- what the body leaves is what giving leaves
after : (c : goal.After-restate_all) →
    (let f : Frames = record { area = c.give.new.self; states = c.restate_all.new.notes.items; sides = c.self.inside.sides.items } in f)
    ≡ given (record { area = c.self.inside.area; states = c.self.inside.notes.items; sides = c.self.inside.sides.items }) c.args.at c.args.order
after c = written _ _ _ _ _ _ _ (rw c.index.ensures.same at c.restate_all.ensures) c.marks.ensures.marks (sym c.largest.ensures) c.give.ensures.after

pub returns : goal.returns
returns c = after c ∙ ap (λ f. given f c.args.at c.args.order) c.self.view_is

pub invariant_of-self : goal.invariant_of-self
invariant_of-self c =
    let P : Frames → Type 0 = λ f. IsClear f c.args.at c.args.order in
    subst IsFramed (sym (after c)) (kept_given _ c.args.at c.args.order c.self.invariant (subst P (sym c.self.view_is) c.requires))
