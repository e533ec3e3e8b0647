use Rattle.std.proofs.Common.{ℕ, ◌≡◌, ◌<◌, false, length, sym, ◌∙◌, ap, subst, set}
use Rattle.zp_model.specs.Block.{has}
use Rattle.zp_model.specs.Frames.{Frames, IsClear, IsFramed}
use Rattle.zp_plain.proofs.Framed.{kept_held}
use Rattle.zp_plain.proofs.buddy.PlainBuddy.hold.Goals as goal

pub invariant_of-self : goal.invariant_of-self
invariant_of-self c =
    let u : has c.self.inside.area.free c.args.at ≡ false = ap (λ (f : Frames). has f.area.free c.args.at) c.self.view_is ∙ c.requires.used in
    let P : Frames → Type 0 = λ f. c.args.at < length f.states in
    let Q : ℕ → Type 0 = λ i. IsFramed (record { area = c.self.inside.area; states = set c.self.inside.notes.items i c.args.state; sides = c.self.inside.sides.items }) in
    subst Q (sym c.index.ensures.same) (kept_held _ c.args.at c.args.state c.self.invariant (subst P (sym c.self.view_is) c.requires.page) u c.requires.note)

pub returns-clause-kept : goal.returns-clause-kept
returns-clause-kept c h k x =
    let P : Frames → Type 0 = λ f. IsClear f h k in
    let y : IsClear (record { area = c.self.inside.area; states = c.self.inside.notes.items; sides = c.self.inside.sides.items }) h k = subst P (sym c.self.view_is) x in
    record { block = y.block; free = y.free; aside = y.aside }
