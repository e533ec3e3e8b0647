use Rattle.std.proofs.Common.{◌+◌, ◌-◌, ◌≡◌, ◌<◌, ◌∙◌, inl, inr, ap, sym, refl, arith, length}
use Rattle.std.proofs.Math.ListN.{get_or-map}
use Rattle.std.proofs.lemmas.Bool.{cases_lt}
use Rattle.zp_model.specs.declared.state.State.TheVariants.{Tail}
use Rattle.zp_model.specs.Block.{head}
use Rattle.zp_model.specs.Rows.{state_at}
use Rattle.zp_model.specs.Runs.{block_of}
use Rattle.zp_model.specs.Zone.{holds, is_of}
use Rattle.zp_model.proofs.FirstFound.{first_none}
use Rattle.zp_model.proofs.Heads.{head_le}
use Rattle.zp_zone.specs.Kept.{holding_of, plain_of}
use Rattle.zp_zone.proofs.untied_zone.UntiedZone.lent_order.Goals.{After-is_out_to}
use Rattle.zp_zone.proofs.untied_zone.UntiedZone.lent_order.Goals as goal

pub holding-requires : goal.holding-requires
holding-requires c =
    let inside : c.args.at < length c.self.inside.buddy.area.free = rw (← c.self.view_is) at c.requires in
    omega (arith, c.head.ensures, head_le c.args.at c.at-order.result, c.pages-pages.ensures.framed.pages)

-- whether the block of this order is out to the worker
seen : (c : After-is_out_to) → c.is_out_to.result ≡ holds (plain_of c.self.inside.buddy c.self.inside.base c.self.inside.min) c.args.worker (head c.args.at c.at-order.result) c.at-order.result
seen c =
    c.is_out_to.ensures
    ∙ ap (λ s. is_of c.args.worker c.at-order.result (holding_of s)) (c.holding.ensures ∙ ap (state_at c.self.inside.buddy.states) c.head.ensures)
    ∙ ap (is_of c.args.worker c.at-order.result) (sym (get_or-map holding_of c.self.inside.buddy.states (head c.args.at c.at-order.result) Tail))

pub returns-then-is_out_to-clause-some : goal.returns-then-is_out_to-clause-some
returns-then-is_out_to-clause-some c =
    rw (← c.self.view_is) (sym (seen (goal.at.returns-then-is_out_to-clause-some c).After-is_out_to) ∙ c.if-is_out_to.true)

pub orders-preserved : goal.orders-preserved
orders-preserved c =
    let i = c.orders.invariant in
    let now = seen (goal.at.orders-preserved c).After-is_out_to in
    record {
      most = omega arith;
      none = λ k lt. elim (cases_lt k c.orders.number) [
        | inl before ↦ i.none k before
        | inr last ↦
            let same : k ≡ c.at-order.result = omega arith in
            rw same (sym now ∙ c.if-is_out_to.false)
      ];
    }

pub returns-clause-none : goal.returns-clause-none
returns-clause-none c =
    rw (← c.self.view_is) (first_none (λ k. block_of (plain_of c.self.inside.buddy c.self.inside.base c.self.inside.min) c.args.worker (head c.args.at k) k) 0 (c.self.inside.buddy.area.largest + 1 - 0) (λ k lo hi.
    rw (c.orders.invariant.none k (omega arith)) refl))
