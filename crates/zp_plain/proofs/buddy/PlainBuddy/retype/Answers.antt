use Rattle.std.proofs.Common.{◌≡◌, length, sym, ◌∙◌, ap, subst}
use Rattle.zp_model.specs.Area.{Area}
use Rattle.zp_model.specs.Frames.{Frames, IsClear, IsFramed, with_area}
use Rattle.zp_model.specs.Take.{retype}
use Rattle.zp_laws.proofs.Areas.{free-retype}
use Rattle.zp_laws.proofs.Areas.{clear_retyped}
use Rattle.zp_plain.proofs.Framed.{kept_retyped, written}
use Rattle.zp_plain.proofs.buddy.PlainBuddy.retype.Goals as goal

pub restate_all-requires-clause-pages : goal.restate_all-requires-clause-pages
restate_all-requires-clause-pages c =
    sym c.self.invariant.pages
    ∙ sym (ap length (c.marks.ensures.marks ∙ ap (λ (a : Area). a.free) c.retype.ensures ∙ free-retype c.self.inside.area c.args.pageblock c.args.kind))

-- what the body leaves
after : (c : goal.After-restate_all) →
    (let f : Frames = record { area = c.retype.new.self; states = c.restate_all.new.notes.items; sides = c.self.inside.sides.items } in f)
    ≡ with_area (record { area = c.self.inside.area; states = c.self.inside.notes.items; sides = c.self.inside.sides.items })
    (retype c.self.inside.area c.args.pageblock c.args.kind)
after c = written _ _ _ _ _ _ _ c.restate_all.ensures c.marks.ensures.marks (sym c.largest.ensures) c.retype.ensures

pub returns-clause-after : goal.returns-clause-after
returns-clause-after c = after c ∙ ap (λ (f : Frames). with_area f (retype f.area c.args.pageblock c.args.kind)) c.self.view_is

pub invariant_of-self : goal.invariant_of-self
invariant_of-self c = subst IsFramed (sym (after c)) (kept_retyped _ c.args.pageblock c.args.kind c.self.invariant)

pub returns-clause-kept : goal.returns-clause-kept
returns-clause-kept c h k x =
    let P : Frames → Type 0 = λ f. IsClear f h k in
    subst P (sym (after c)) (clear_retyped _ c.args.pageblock c.args.kind h k (subst P (sym c.self.view_is) x))
