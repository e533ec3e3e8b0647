use Rattle.std.proofs.Common.{ℕ, ◌≡◌, length, arith, sym, ◌∙◌, ap, subst, Option, Some, None}
use Rattle.std.specs.Option.{option_map}
use Rattle.std.proofs.lemmas.Nat.{pow_pos}
use Rattle.zp_model.specs.declared.migrate_type.MigrateType.{MigrateType}
use Rattle.zp_model.specs.Area.{Area}
use Rattle.zp_model.specs.Choose.{Chosen, choose}
use Rattle.zp_model.specs.Frames.{Frames, IsClear, with_area}
use Rattle.zp_model.specs.Take.{taken, take_answer, take_after}
use Rattle.zp_model.proofs.Covers.{length-without}
use Rattle.zp_laws.proofs.Areas.{free-taken, largest-taken, kinds-taken}
use Rattle.zp_laws.proofs.Choosing.{choose_found, found_block}
use Rattle.zp_plain.specs.Chosen.{as_chosen}
use Rattle.zp_plain.proofs.Framed.{IsWithout, left_without, restated_same, written}
use Rattle.zp_plain.proofs.buddy.PlainBuddy.take.Goals as goal

taken_by : (a : Area) (k : ℕ) (t : MigrateType) (o : Option Chosen) → o ≡ choose a k t → (option_map (λ (x : Chosen). x.head) o ≡ take_answer a k t) × (taken a k t o ≡ take_after a k t)
unfolding take_answer take_after
taken_by a k t o e = (ap (λ q. option_map (λ (x : Chosen). x.head) q) e, ap (λ q. taken a k t q) e)

pub returns-in_err-chosen-clause-answer : goal.returns-in_err-chosen-clause-answer
returns-in_err-chosen-clause-answer c =
    c.from_residual.ensures
    ∙ (taken_by c.self.inside.area c.args.order c.args.kind None c.in_err-chosen.ensures).0
    ∙ ap (λ (f : Frames). take_answer f.area c.args.order c.args.kind) c.self.view_is

pub returns-in_err-chosen-clause-after : goal.returns-in_err-chosen-clause-after
unfolding taken
returns-in_err-chosen-clause-after c =
    let f : Frames = record { area = c.self.inside.area; states = c.self.inside.notes.items; sides = c.self.inside.sides.items } in
    let e : taken f.area c.args.order c.args.kind None ≡ take_after f.area c.args.order c.args.kind =
    (taken_by c.self.inside.area c.args.order c.args.kind None c.in_err-chosen.ensures).1 in
    sym c.self.view_is ∙ restated_same f c.self.invariant ∙ ap (λ a. with_area f a) e
    ∙ ap (λ (g : Frames). with_area g (take_after g.area c.args.order c.args.kind)) c.self.view_is

pub take_chosen-requires : goal.take_chosen-requires
take_chosen-requires c =
    let e : choose c.self.inside.area c.args.order c.args.kind ≡ Some (as_chosen c.in_ok-chosen.chosen) = sym c.in_ok-chosen.ensures in
    let b = found_block _ _ _ _ (choose_found c.self.inside.area c.args.order c.args.kind (as_chosen c.in_ok-chosen.chosen) c.marks-marks.ensures.sound.lists e) in
    omega (arith, b.inside, pow_pos c.args.order)

pub restate_all-requires-clause-pages : goal.restate_all-requires-clause-pages
restate_all-requires-clause-pages c =
    let x : Chosen = as_chosen c.in_ok-chosen.chosen in
    sym c.self.invariant.pages ∙ sym (length-without c.self.inside.area.free x.head c.args.order)
    ∙ sym (ap length (c.marks.ensures.marks ∙ ap (λ (a : Area). a.free) c.take_chosen.ensures ∙ free-taken c.self.inside.area c.args.order c.args.kind x))

-- what the body leaves is what taking the chosen block leaves
after : (c : goal.After-restate_all) →
    (let f : Frames = record { area = c.take_chosen.new.self; states = c.restate_all.new.notes.items; sides = c.self.inside.sides.items } in f)
    ≡ with_area (record { area = c.self.inside.area; states = c.self.inside.notes.items; sides = c.self.inside.sides.items })
    (taken c.self.inside.area c.args.order c.args.kind (Some (as_chosen c.in_ok-chosen.chosen)))
after c = written _ _ _ _ _ _ _ c.restate_all.ensures c.marks.ensures.marks (sym c.largest.ensures) c.take_chosen.ensures

pub returns-clause-answer : goal.returns-clause-answer
returns-clause-answer c =
    (taken_by c.self.inside.area c.args.order c.args.kind (Some (as_chosen c.in_ok-chosen.chosen)) c.in_ok-chosen.ensures).0
    ∙ ap (λ (f : Frames). take_answer f.area c.args.order c.args.kind) c.self.view_is

pub returns-clause-after : goal.returns-clause-after
returns-clause-after c =
    let f : Frames = record { area = c.self.inside.area; states = c.self.inside.notes.items; sides = c.self.inside.sides.items } in
    after c
    ∙ ap (λ a. with_area f a)
    (taken_by c.self.inside.area c.args.order c.args.kind (Some (as_chosen c.in_ok-chosen.chosen)) c.in_ok-chosen.ensures).1
    ∙ ap (λ (g : Frames). with_area g (take_after g.area c.args.order c.args.kind)) c.self.view_is

left : (c : goal.After-restate_all) →
    IsWithout (record { area = c.self.inside.area; states = c.self.inside.notes.items; sides = c.self.inside.sides.items })
    (record { area = c.take_chosen.new.self; states = c.restate_all.new.notes.items; sides = c.self.inside.sides.items }) c.in_ok-chosen.chosen.head c.args.order
left c =
    let x : Chosen = as_chosen c.in_ok-chosen.chosen in
    let a : Area = c.self.inside.area in
    left_without _ _ _ _ _ c.self.invariant (choose_found a c.args.order c.args.kind x c.marks-marks.ensures.sound.lists (sym c.in_ok-chosen.ensures)) (largest-taken a c.args.order c.args.kind x) (free-taken a c.args.order c.args.kind x)
    (kinds-taken a c.args.order c.args.kind x) (after c)

pub invariant_of-self : goal.invariant_of-self
invariant_of-self c = (left c).framed

pub returns-clause-clear : goal.returns-clause-clear
returns-clause-clear c = (left c).clear

pub returns-clause-kept : goal.returns-clause-kept
returns-clause-kept c h k x = let P : Frames → Type 0 = λ f. IsClear f h k in (left c).kept h k (subst P (sym c.self.view_is) x)

pub returns-clause-head : goal.returns-clause-head
returns-clause-head c = (left c).head
