use Rattle.std.proofs.Common.{◌≡◌, inl, inr, arith}
use Rattle.std.proofs.lemmas.Bool.{both_ways, cases_lt, false≢true}
use Rattle.zp_model.specs.Block.{head}
use Rattle.zp_area.proofs.NotedBlocks.{starts-to}
use Rattle.zp_buddy.proofs.clear.is_in_larger.Goals as goal

pub orders-preserved : goal.orders-preserved
orders-preserved c =
    let i = c.orders.invariant in
    record {
      from = omega arith;
      none = λ k lt le st. elim (cases_lt c.orders.larger k) [
        | inl last ↦
            let same : k ≡ c.higher-larger.result = omega arith in
            both_ways _ c.if-is_free.false (c.is_free.ensures.1 (rw c.head.ensures (rw same at (starts-to c.args.area.now.rows.states (head c.args.at k) k st))))
        | inr before ↦ i.none k lt before st
      ];
    }

pub returns : goal.returns
returns c =
    (λ e. absurd (false≢true e), λ w. absurd (c.orders.invariant.none w.0 w.1 (omega (arith, w.2)) w.3))
