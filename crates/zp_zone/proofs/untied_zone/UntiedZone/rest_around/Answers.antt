use Rattle.std.proofs.Common.{◌^◌, ◌≡◌, inl, inr, arith, refl}
use Rattle.std.proofs.lemmas.Bool.{cases_lt}
use Rattle.zp_model.specs.Block.{head}
use Rattle.zp_model.proofs.Heads.{head_le, lt_head}
use Rattle.zp_zone.proofs.LowestRuns.{alone_passed}
use Rattle.zp_zone.proofs.untied_zone.UntiedZone.rest_around.Goals as goal

pub orders-init : goal.orders-init
orders-init c = record {
  most = omega arith;
  none = λ k lt j e.
      let zero : k ≡ 0 = omega arith in
      let one : 2 ^ 0 ≡ 1 = refl in
      let same : head c.args.at k ≡ c.args.at = rw zero (omega (arith, lt_head c.args.at 0, head_le c.args.at 0, one)) in
      absurd (c.requires.tail j (rw same at e));
}

pub rest_of-requires-clause-before : goal.rest_of-requires-clause-before
rest_of-requires-clause-before c = omega (arith, c.head.ensures, head_le c.args.at c.at-order.result)

pub orders-preserved : goal.orders-preserved
orders-preserved c =
    let i = c.orders.invariant in
    record {
      most = omega arith;
      none = λ k lt j e. elim (cases_lt k c.orders.number) [
        | inl before ↦ i.none k before j e
        | inr last ↦
            let same : k ≡ c.at-order.result = omega arith in
            rw same (omega (arith, c.head.ensures, c.in_default.ensures.none j (rw c.head.ensures (rw same at e))))
      ];
    }

pub returns : goal.returns
returns c =
    alone_passed c.args.self.now.plain c.args.at c.requires.inside (λ k few j e. c.orders.invariant.none k (omega (arith, few, c.number-largest.ensures.same, c.largest.ensures)) j e)
