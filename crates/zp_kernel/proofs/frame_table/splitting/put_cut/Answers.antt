use Rattle.std.proofs.Common.{◌≤◌, ◌<◌, ◌∙◌, ◌^◌, arith}
use Rattle.zp_kernel.proofs.Splitting.{cut_goes, first_size, length_goes}
use Rattle.zp_kernel.proofs.frame_table.splitting.put_cut.Goals.{After-first_order-order}
use Rattle.zp_kernel.proofs.frame_table.splitting.put_cut.Goals as goal

-- the block has no page past those that are left
size : (c : After-first_order-order) → 2 ^ c.first_order-order.result ≤ c.pieces.left
size c = rw c.first_order-order.ensures (first_size c.pieces.next c.pieces.left (omega (arith, c.pieces-test.true)))

pub put-requires : goal.put-requires
put-requires c = omega (arith, c.pieces.invariant.places, length_goes c.pieces.next c.pieces.left c.first_order-order.result (omega (arith, c.pieces-test.true)) c.first_order-order.ensures)

pub overflow_sub-left : goal.overflow_sub-left
overflow_sub-left c = omega (arith, size (goal.at.overflow_sub-left c).After-first_order-order, c.pages-held_pages.ensures.pages)

pub pieces-preserved : goal.pieces-preserved
pieces-preserved c =
    let small = size (goal.at.pieces-preserved c).After-first_order-order in
    let some : 0 < c.pieces.left = omega (arith, c.pieces-test.true) in
    let fewer = length_goes c.pieces.next c.pieces.left c.first_order-order.result some c.first_order-order.ensures in
    rw c.pages-held_pages.ensures.pages (record {
      upto = omega (arith, small, c.pieces.invariant.upto);
      after =
          cut_goes c.args.frame c.args.held.now c.pieces.next c.pieces.left c.first_order-order.result c.frame_behind.result c.piece.result _ _ some
          c.first_order-order.ensures c.frame_behind.ensures c.piece.ensures c.put.ensures.after
          ∙ c.pieces.invariant.after;
      places = omega (arith, fewer, c.pieces.invariant.places, c.put.ensures.room);
      room = omega (arith, fewer, c.pieces.invariant.room, c.put.ensures.room);
    })
