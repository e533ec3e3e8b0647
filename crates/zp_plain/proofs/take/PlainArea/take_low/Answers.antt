use Rattle.std.proofs.Common.{ℕ, List, Bool, sym, ap, ◌∙◌}
use Rattle.zp_model.specs.declared.pageblock_type.PageblockType.{PageblockType}
use Rattle.zp_model.specs.Area.{Area}
use Rattle.zp_model.specs.Take.{leave, take_low_answer, take_low_after}
use Rattle.zp_plain.proofs.Looking.{low_none, low_some}
use Rattle.zp_plain.proofs.take.PlainArea.take_low.Goals as goal

abbrev inside : ℕ → List Bool → List PageblockType → List (List ℕ) → Area
inside m free kinds lists = record { largest = m; free = free; kinds = kinds; lists = lists }

pub returns-in_err-head-clause-answer : goal.returns-in_err-head-clause-answer
returns-in_err-head-clause-answer c =
    let a = inside c.self.inside.largest c.self.inside.free.items c.self.inside.kinds.items c.self.inside.lists.items in
    c.from_residual.ensures ∙ (low_none a c.args.order (rw (c.deref.ensures.value, c.deref-2.ensures.value) at (sym c.in_err-head.ensures))).0 ∙ ap (λ (q : Area). take_low_answer q c.args.order) c.self.view_is

pub returns-in_err-head-clause-after : goal.returns-in_err-head-clause-after
returns-in_err-head-clause-after c =
    let a = inside c.self.inside.largest c.self.inside.free.items c.self.inside.kinds.items c.self.inside.lists.items in
    sym c.self.view_is ∙ (low_none a c.args.order (rw (c.deref.ensures.value, c.deref-2.ensures.value) at (sym c.in_err-head.ensures))).1 ∙ ap (λ (q : Area). take_low_after q c.args.order) c.self.view_is

pub returns-clause-answer : goal.returns-clause-answer
returns-clause-answer c =
    let a = inside c.self.inside.largest c.self.inside.free.items c.self.inside.kinds.items c.self.inside.lists.items in
    (low_some a c.args.order (c.in_ok-head.head, c.in_ok-head.field-0-1) (rw (c.deref.ensures.value, c.deref-2.ensures.value) at (sym c.in_ok-head.ensures))).0 ∙ ap (λ (q : Area). take_low_answer q c.args.order) c.self.view_is

pub returns-clause-after : goal.returns-clause-after
returns-clause-after c =
    let a = inside c.self.inside.largest c.self.inside.free.items c.self.inside.kinds.items c.self.inside.lists.items in
    c.leave.ensures ∙ ap (λ (q : Area). leave q c.in_ok-head.head c.args.order) (sym c.self.view_is)
    ∙ (low_some a c.args.order (c.in_ok-head.head, c.in_ok-head.field-0-1) (rw (c.deref.ensures.value, c.deref-2.ensures.value) at (sym c.in_ok-head.ensures))).1 ∙ ap (λ (q : Area). take_low_after q c.args.order) c.self.view_is
