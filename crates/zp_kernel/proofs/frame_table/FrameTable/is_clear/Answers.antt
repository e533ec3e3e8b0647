use Rattle.std.proofs.Common.{◌<◌, ◌∙◌, arith, refl, sym}
use Rattle.zp_model.specs.declared.constants.TheConstants.{LARGEST_ORDER}
use Rattle.zp_model.specs.Runs.{fitting_order}
use Rattle.zp_kernel.proofs.Splitting.{clear_goes, first_size}
use Rattle.zp_kernel.proofs.frame_table.FrameTable.is_clear.Goals as goal

pub pieces-preserved : goal.pieces-preserved
pieces-preserved c =
    let some : 0 < c.pieces.left = omega (arith, c.pieces-test.true) in
    rw (c.pages-looked_at.ensures.pages, c.first_order.ensures) (record {
      upto = omega (arith, first_size c.pieces.next c.pieces.left some, c.pieces.invariant.upto);
      clear =
          clear_goes c.args.self.now c.args.frame c.pieces.next c.pieces.left (fitting_order LARGEST_ORDER c.pieces.next c.pieces.left) c.frame_behind.result c.get.result some refl
          c.frame_behind.ensures c.get.ensures (sym c.is_some.ensures ∙ c.if-is_some.false)
          ∙ c.pieces.invariant.clear;
    })
