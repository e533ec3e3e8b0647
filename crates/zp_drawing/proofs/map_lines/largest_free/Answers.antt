use Rattle.std.proofs.Common.{◌≡◌, ◌+◌, [], ◌∷◌, ◌++◌, take, subst, List, IfNone, IfSome}
use Rattle.std.proofs.lemmas.List.{take_more, take_all}
use Rattle.zp_view.specs.declared.page_state.PageState.{PageState}
use Rattle.zp_view.specs.declared.page_state.PageState.TheVariants.{Free}
use Rattle.zp_drawing.specs.Maps.{HasNoFree, IsLargestFree}
use Rattle.zp_drawing.proofs.FreeBlocks.{IsTold-used, IsTold-free}
use Rattle.zp_drawing.proofs.map_lines.largest_free.Goals as goal
use Rattle.zp_drawing.proofs.map_lines.largest_free.Goals.{in-Free, in_default}

pub pages-preserved : goal.pages-preserved
pages-preserved c =
    let item = c.state-item.is in
    let before : List PageState = take c.pages.state-index c.args.row.now in
    let after : List PageState = take (c.pages.state-index + 1) c.args.row.now in
    let more = take_more c.args.row.now c.pages.state-index c.state-item.result c.pages-test.true in
    elim c.match-state.branch [
      | in-Free w ↦
          let is : after ≡ before ++ Free w.in-Free.order ∷ [] = cc (more, item, w.in-Free.is) in
          let told = IsTold-free before c.pages.largest w.in-Free.order c.pages.invariant in
          rw (is, w.largest-is, w.larger.ensures) told
      | in_default w ↦
          let is : after ≡ before ++ c.state-item.result ∷ [] = cc (more, item) in
          let told = IsTold-used before c.state-item.result c.pages.largest w.in_default.not-Free c.pages.invariant in
          rw (is, w.largest-is) told
    ]

pub returns-clause-none : goal.returns-clause-none
returns-clause-none c =
    let P : List PageState → Type 0 = λ row. IfNone c.pages.largest (HasNoFree row) in
    subst P (take_all c.pages.state-index c.args.row.now c.pages-test.false) c.pages.invariant.none

pub returns-clause-largest : goal.returns-clause-largest
returns-clause-largest c =
    let P : List PageState → Type 0 = λ row. IfSome c.pages.largest (IsLargestFree row) in
    subst P (take_all c.pages.state-index c.args.row.now c.pages-test.false) c.pages.invariant.some
