use Rattle.std.proofs.lemmas.Grind.{common_steps}
use Rattle.std.proofs.Common.{ℕ, ◌≡◌, arith, length, subst, ap, sym, ◌∙◌}
use Rattle.std.specs.List.{IsFirstMaxByKey}
use Rattle.std.proofs.lemmas.List.Sums.{best_keeps, best_takes}
use Rattle.zp_drawing.specs.Kinds.{kind_of}
use Rattle.zp_drawing.specs.Glyphs.{weight_of}
use Rattle.zp_drawing.proofs.FirstMost.{shown_kind-first_most}
use Rattle.zp_drawing.proofs.glyphs.shown_kind.Goals as goal
use Rattle.zp_drawing.proofs.glyphs.shown_kind.Goals.{then-weight, else-weight}

pub pages-preserved : goal.pages-preserved
pages-preserved c =
    elim c.if-weight.branch [
      | then-weight w ↦
          rw w.best-is
          (best_takes (weight_of c.args.states.now) c.args.states.now c.pages.place c.pages.best c.pages.invariant
          (λ d. omega (arith, c.weight.ensures d, c.weight-in-pages.ensures d)))
      | else-weight w ↦
          rw w.best-is
          (best_keeps (weight_of c.args.states.now) c.args.states.now c.pages.place c.pages.best c.pages.invariant
          (λ d. omega (arith, c.weight.ensures d, c.weight-in-pages.ensures d)))
    ]

pub returns : goal.returns
returns c =
    let end : c.pages.place ≡ length c.args.states.now = grind (arith, common_steps) in
    let P : ℕ → Type 0 = λ n. IsFirstMaxByKey (weight_of c.args.states.now) c.args.states.now n c.pages.best in
    let most : P (length c.args.states.now) = subst P end c.pages.invariant in
    let shown = shown_kind-first_most c.args.states.now c.pages.best c.index-states-best.result most.0 most in
    c.of.ensures.kind ∙ ap kind_of c.index-states-best.is ∙ sym shown
