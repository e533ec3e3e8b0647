use Rattle.std.proofs.Common.{◌≡◌, ℕ, add-one, below_more, Some, sym, ◌∙◌, ap, refl, arith}
use Rattle.std.proofs.lemmas.Bool.{eqb-false, eqb-true}
use Rattle.std.proofs.lemmas.Option.{slice_get_within}
use Rattle.zp_model.specs.Rows.{list_at}
use Rattle.zp_links.specs.Linked.{At}
use Rattle.zp_links.proofs.Places.{any_at, stands_at}
use Rattle.zp_links.proofs.Writes.{linked_in, read_ends}
use Rattle.zp_links.proofs.lists.Lists.is_on.Goals as goal

pub loop-place-preserved : goal.loop-place-preserved
loop-place-preserved c =
    let w = c.args.self.now in
    let at : At w.lists c.args.list c.loop-place._place c.in-Some.page = sym c.loop-place.invariant.0 ∙ c.in-Some.is in (
      c.page-next-in-Some.ensures ∙ c.forward.ensures ∙ rw add-one ((linked_in _ _ _ c.self.view_is c.self.invariant).after c.args.list c.loop-place._place c.in-Some.page at),
      below_more _ _ c.loop-place.invariant.1 (λ e. eqb-false c.in-Some.page c.args.at (sym c.eq.ensures ∙ c.if-eq.false) cc),
    )

pub returns : goal.returns
returns c =
    let w = c.args.self.now in
    let n = ap (λ (e : _). e.len) (read_ends w _ _ _ _ c.self.view_is c.self.invariant c.requires c.index-ends.ensures) ∙ (linked_in _ _ _ c.self.view_is c.self.invariant).count c.args.list in (
      λ t. absurd cc,
      λ o.
          let s = any_at (list_at w.lists c.args.list) c.args.at o in
          absurd (c.loop-place.invariant.1 s.0 (omega (arith, n, c.loop-place-test.false, slice_get_within _ s.0 _ s.1)) s.1),
    )

pub returns-then-eq : goal.returns-then-eq
returns-then-eq c =
    let w = c.args.self.now in
    let same : c.in-Some.page ≡ c.args.at = eqb-true c.in-Some.page c.args.at (sym c.eq.ensures ∙ c.if-eq.true) in
    (λ t. stands_at (list_at w.lists c.args.list) c.loop-place._place c.args.at (sym c.loop-place.invariant.0 ∙ c.in-Some.is ∙ ap (λ (n : ℕ). Some n) same), λ o. refl)
