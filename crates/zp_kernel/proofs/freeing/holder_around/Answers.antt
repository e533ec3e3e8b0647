use Rattle.std.proofs.Common.{◌≡◌, ◌-◌, ◌+◌, ◌∙◌, sym, ap, suc, arith}
use Rattle.std.specs.List.{range_with_len}
use Rattle.zp_kernel.specs.Frames.{holder_among, or_else}
use Rattle.zp_kernel.proofs.Around.{among_next, around_all, run_is}
use Rattle.zp_kernel.proofs.freeing.holder_around.Goals as goal

pub orders-init : goal.orders-init
orders-init c = record { within = omega arith; left = around_all c.args.frames.now c.args.frame }

pub returns-in-Some-clause-around : goal.returns-in-Some-clause-around
returns-in-Some-clause-around c =
    let more : 11 - c.orders.order ≡ suc (10 - c.orders.order) = omega arith in
    sym
    (c.orders.invariant.left
    ∙ among_next c.args.frames.now c.args.frame c.orders.order _ (10 - c.orders.order) _ c.reaching.result more (run_is c.orders.order (omega arith)) c.reaching.ensures.reaching
    ∙ ap (λ o. or_else o (holder_among c.args.frames.now c.args.frame (range_with_len (c.orders.order + 1) (10 - c.orders.order)))) c.in-Some.is)

pub orders-preserved : goal.orders-preserved
orders-preserved c =
    let more : 11 - c.orders.order ≡ suc (10 - c.orders.order) = omega arith in
    let rest : 10 - c.orders.order ≡ 11 - (c.orders.order + 1) = omega arith in
    record {
      within = omega arith;
      left =
          c.orders.invariant.left
          ∙ among_next c.args.frames.now c.args.frame c.orders.order _ (10 - c.orders.order) _ c.reaching.result more (run_is c.orders.order (omega arith)) c.reaching.ensures.reaching
          ∙ ap (λ o. or_else o (holder_among c.args.frames.now c.args.frame (range_with_len (c.orders.order + 1) (10 - c.orders.order)))) c.in_default.is
          ∙ ap (λ n. holder_among c.args.frames.now c.args.frame (range_with_len (c.orders.order + 1) n)) rest;
    }

pub returns-clause-around : goal.returns-clause-around
returns-clause-around c =
    let end : 11 - c.orders.order ≡ 0 = omega arith in
    sym (c.orders.invariant.left ∙ ap (λ n. holder_among c.args.frames.now c.args.frame (range_with_len c.orders.order n)) end)
