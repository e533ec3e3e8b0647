use Rattle.std.proofs.Common.{◌≡◌, length, refl, sym, ◌∙◌, ap, subst}
use Rattle.zp_model.specs.Area.{Area}
use Rattle.zp_model.specs.Frames.{Frames, IsClear, IsFramed, with_area}
use Rattle.zp_model.specs.Take.{leave, take_low_after}
use Rattle.zp_model.proofs.Covers.{length-without}
use Rattle.zp_laws.proofs.Areas.{free-leave, largest-leave, kinds-leave}
use Rattle.zp_laws.proofs.Choosing.{take_low_found}
use Rattle.zp_plain.proofs.Framed.{IsWithout, left_without, restated_same, written}
use Rattle.zp_plain.proofs.Looking.{after_none, after_some}
use Rattle.zp_plain.proofs.buddy.PlainBuddy.take_low.Goals as goal

pub invariant_of-self : goal.invariant_of-self
invariant_of-self c =
    let P : Area → Type 0 = λ a. IsFramed (record { area = a; states = c.self.inside.notes.items; sides = c.self.inside.sides.items }) in
    subst P (sym (after_none _ _ _ c.in_err-head.ensures.answer c.in_err-head.ensures.after)) c.self.invariant

pub returns-in_err-head-clause-after : goal.returns-in_err-head-clause-after
returns-in_err-head-clause-after c =
    let f : Frames = record { area = c.self.inside.area; states = c.self.inside.notes.items; sides = c.self.inside.sides.items } in
    ap (λ (a : Area). let g : Frames = record f { area = a } in g) (after_none _ _ _ c.in_err-head.ensures.answer c.in_err-head.ensures.after)
    ∙ restated_same f c.self.invariant
    ∙ ap (λ (a : Area). with_area f a) (sym (after_none f.area _ c.args.order c.in_err-head.ensures.answer refl))
    ∙ ap (λ (g : Frames). with_area g (take_low_after g.area c.args.order)) c.self.view_is

pub returns-in_err-head-clause-kept : goal.returns-in_err-head-clause-kept
returns-in_err-head-clause-kept c h k x =
    let P : Frames → Type 0 = λ f. IsClear f h k in
    let f : Frames = record { area = c.self.inside.area; states = c.self.inside.notes.items; sides = c.self.inside.sides.items } in
    let same = ap (λ (a : Area). let g : Frames = record f { area = a } in g) (after_none _ _ _ c.in_err-head.ensures.answer c.in_err-head.ensures.after) ∙ c.self.view_is in
    subst P (sym same) x

pub restate_all-requires-clause-pages : goal.restate_all-requires-clause-pages
restate_all-requires-clause-pages c =
    let e : c.take_low.new.self ≡ _ = after_some _ _ _ _ c.in_ok-head.ensures.answer c.in_ok-head.ensures.after in
    sym c.self.invariant.pages ∙ sym (length-without c.self.inside.area.free c.in_ok-head.head c.args.order)
    ∙ sym (ap length (c.marks.ensures.marks ∙ ap (λ (b : Area). b.free) e ∙ free-leave c.self.inside.area c.in_ok-head.head c.args.order))

-- what the body leaves
after : (c : goal.After-restate_all) →
    (let f : Frames = record { area = c.take_low.new.self; states = c.restate_all.new.notes.items; sides = c.self.inside.sides.items } in f)
    ≡ with_area (record { area = c.self.inside.area; states = c.self.inside.notes.items; sides = c.self.inside.sides.items })
    (leave c.self.inside.area c.in_ok-head.head c.args.order)
after c = written _ _ _ _ _ _ _ c.restate_all.ensures c.marks.ensures.marks (sym c.largest.ensures) (after_some _ _ _ _ c.in_ok-head.ensures.answer c.in_ok-head.ensures.after)

without : (c : goal.After-restate_all) →
    IsWithout (record { area = c.self.inside.area; states = c.self.inside.notes.items; sides = c.self.inside.sides.items })
    (record { area = c.take_low.new.self; states = c.restate_all.new.notes.items; sides = c.self.inside.sides.items }) c.in_ok-head.head c.args.order
without c =
    let a : Area = c.self.inside.area in
    let h = c.in_ok-head.head in
    left_without _ _ _ _ _ c.self.invariant (take_low_found a c.args.order h (sym c.in_ok-head.ensures.answer)) (largest-leave a h c.args.order) (free-leave a h c.args.order) (ap length (kinds-leave a h c.args.order)) (after c)

pub invariant_of-self-2 : goal.invariant_of-self-2
invariant_of-self-2 c = (without c).framed

pub returns-clause-clear : goal.returns-clause-clear
returns-clause-clear c = (without c).clear

pub returns-clause-kept : goal.returns-clause-kept
returns-clause-kept c h k x = let P : Frames → Type 0 = λ f. IsClear f h k in (without c).kept h k (subst P (sym c.self.view_is) x)

pub returns-clause-head : goal.returns-clause-head
returns-clause-head c = (without c).head
