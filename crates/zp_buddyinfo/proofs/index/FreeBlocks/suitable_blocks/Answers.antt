use Rattle.std.proofs.Common.{◌≡◌, ◌*◌, ◌^◌, length, arith, sym, ap, refl, ◌∙◌}
use Rattle.zp_buddyinfo.specs.Figures.{suitable_blocks, free_pages}
use Rattle.zp_buddyinfo.proofs.Made.{one_more, one_more-le, suitable_none, suitable_pages}
use Rattle.zp_buddyinfo.proofs.index.FreeBlocks.suitable_blocks.Goals as goal

pub loop-next-init : goal.loop-next-init
loop-next-init c = record {
  above = omega (arith, ap length (c.as_slice-blocks.ensures.value ∙ c.self.view_is));
  inside = omega arith;
  suitable = sym (suitable_none c.as_slice-blocks.result.now _ refl);
}

pub overflow_mul-suitable : goal.overflow_mul-suitable
overflow_mul-suitable c =
    omega (arith, ap free_pages c.as_slice-blocks.ensures.value, c.self.invariant.pages, one_more-le c.as_slice-blocks.result.now c.loop-next.next c.loop-next.suitable (omega arith) c.loop-next.invariant.inside c.loop-next.invariant.suitable)

pub overflow_add-suitable : goal.overflow_add-suitable
overflow_add-suitable c =
    omega (arith, ap free_pages c.as_slice-blocks.ensures.value, c.self.invariant.pages, one_more-le c.as_slice-blocks.result.now c.loop-next.next c.loop-next.suitable (omega arith) c.loop-next.invariant.inside c.loop-next.invariant.suitable)

pub loop-next-preserved : goal.loop-next-preserved
loop-next-preserved c = record {
  above = omega arith;
  inside = omega arith;
  suitable = one_more c.as_slice-blocks.result.now c.loop-next.next c.loop-next.suitable (omega arith) c.loop-next.invariant.inside c.loop-next.invariant.suitable;
}

pub returns-clause-blocks : goal.returns-clause-blocks
returns-clause-blocks c =
    let there : c.loop-next.next ≡ c.args.order = omega (arith, c.loop-next.invariant.above) in
    c.loop-next.invariant.suitable ∙ ap (suitable_blocks c.as_slice-blocks.result.now) there ∙ ap (λ blocks. suitable_blocks blocks c.args.order) (c.as_slice-blocks.ensures.value ∙ c.self.view_is)

pub returns-clause-within : goal.returns-clause-within
returns-clause-within c =
    let is : c.loop-next.suitable ≡ suitable_blocks c.args.self.now c.args.order = returns-clause-blocks c in
    omega (arith, ap (λ m. m * 2 ^ c.args.order) is, suitable_pages c.args.self.now c.args.order c.requires)
