use Rattle.std.proofs.Common.{ℕ, ◌-◌, ◌/◌, ◌%◌, ◌≡◌, ◌<◌, ◌∙◌, subst, sym, ap, arith, slice_index}
use Rattle.zp_tree.specs.declared.constants.TheConstants.{PLACES, WORD_LEVELS, GROUP_PAGES}
use Rattle.zp_tree.specs.Words.{Has}
use Rattle.zp_tree.specs.Marks.{HasHigh}
use Rattle.zp_tree.proofs.GroupBlocks.{high_of, high_has}
use Rattle.zp_tree.proofs.groups.first_high.Goals.{After-read}
use Rattle.zp_tree.proofs.groups.first_high.Goals as goal

read : (c : After-read) → c.read.result ≡ slice_index c.args.high.now c.args.group
read c = c.read.ensures.node 0

here : (c : After-read) (i o : ℕ) → HasHigh c.args.high.now i o → i / GROUP_PAGES ≡ c.args.group → Has c.read.result (i / PLACES % PLACES) (o - WORD_LEVELS)
here c i o h e = let P : ℕ → Type 0 = λ w. Has w (i / PLACES % PLACES) (o - WORD_LEVELS) in subst P (ap (slice_index c.args.high.now) e ∙ sym (read c)) (high_has c.args.high.now i o h)

pub returns-in_err-place-clause-first : goal.returns-in_err-place-clause-first
returns-in_err-place-clause-first c =
    let w = (goal.at.returns-in_err-place-clause-first c).After-read in
    let f = c.in_err-place.ensures in
    let none : (i o : ℕ) → HasHigh c.args.high.now i o → i / GROUP_PAGES ≡ c.args.group → o < c.args.order = λ i o y e. omega (arith, y.order, f (i / PLACES % PLACES) (o - WORD_LEVELS) (here w i o y e), c.max-least.ensures, c.number-2.ensures.same) in
    rw c.from_residual.ensures none

pub returns-clause-first : goal.returns-clause-first
returns-clause-first c =
    let w = (goal.at.returns-clause-first c).After-read in
    let f = c.in_ok-place.ensures in
    let P : ℕ → Type 0 = λ v. Has v c.in_ok-place.place c.in_ok-place.level in
    let h = high_of c.args.high.now c.args.group c.in_ok-place.place c.in_ok-place.level c.at-at.result c.in_ok-new.field-0 c.requires.group (subst P (read w) f.0) c.at-at.ensures c.in_ok-new.ensures.some in (
      h.0,
      h.1,
      omega (arith, f.1, c.max-least.ensures, c.number-2.ensures.same, c.in_ok-new.ensures.some),
      λ i o y e before.
          omega (arith, y.order, f.2 (i / PLACES % PLACES) (o - WORD_LEVELS) (here w i o y e) (omega (arith, c.at-at.ensures, e, before)), c.max-least.ensures, c.number-2.ensures.same),
    )
