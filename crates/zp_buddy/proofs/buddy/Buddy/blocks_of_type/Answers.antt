use Rattle.std.proofs.Common.{ℕ, ◌≡◌, ◌<◌, inl, inr, List, Bool, get_or, set, get_or-set_same, get_or-set_other, length-set, arith, sym, ◌∙◌}
use Rattle.std.proofs.lemmas.Bool.{cases_lt, cases_eq, eqb-true}
use Rattle.std.proofs.lemmas.List.FromFn.{fill_by_all}
use Rattle.zp_model.specs.BlockSet.{cover}
use Rattle.zp_model.specs.Info.{blocks_of_type}
use Rattle.zp_area.specs.Blocks.{block_set}
use Rattle.zp_buddy.proofs.CountedByType.{count_typed, count_typed_above}
use Rattle.zp_buddy.proofs.buddy.Buddy.blocks_of_type.Goals as goal

pub returns : goal.returns
returns c =
    let i = c.orders.invariant in
    let a = c.self.inside.area in
    let m = c.self.inside.area.largest in
    let u : List Bool = cover (block_set a) in
    let n : ℕ = c.count_of_type.result in
    let last : c.orders.order ≡ c.self.inside.area.largest = eqb-true _ _ (sym c.eq.ensures ∙ c.if-eq.true) ∙ c.order.ensures ∙ c.largest.ensures in
    let at : c.index.result ≡ c.orders.order = c.index.ensures.same in
    let each : (j : ℕ) → j < 11 → get_or (set c.orders.blocks c.orders.order n) j 0 ≡ blocks_of_type m u a.kinds c.args.kind j = λ j below.
    elim (cases_eq j c.orders.order) [
      | inl same ↦ rw same (get_or-set_same c.orders.blocks c.orders.order n 0 (omega (arith, i.orders)) ∙ c.count_of_type.ensures ∙ count_typed m a c.args.kind c.orders.order c.self.invariant.sound i.upto)
      | inr ne ↦ get_or-set_other c.orders.blocks c.orders.order j n 0 ne ∙ elim (cases_lt j c.orders.order) [
        | inl before ↦ i.counted j before ∙ count_typed m a c.args.kind j c.self.invariant.sound (omega (arith, i.upto))
        | inr past ↦ i.above j past ∙ sym (count_typed_above m a c.args.kind j (omega arith))
      ]
    ] in
    let e = fill_by_all (blocks_of_type m u a.kinds c.args.kind) (set c.orders.blocks c.orders.order n) 11 0 (length-set _ _ _ ∙ i.orders) each in
    rw (← c.self.view_is, at) e
