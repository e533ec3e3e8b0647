use Rattle.std.proofs.Common.{refl}
use Rattle.zp_model.specs.declared.request.Request.{Request}
use Rattle.zp_model.specs.declared.request.Reply.{Reply}
use Rattle.zp_gate.proofs.Keeping.{block_freed, still_one, still_tied}
use Rattle.zp_gate.proofs.gated_zone.GatedZone.free_many.Goals as goal

pub loop-count-init : goal.loop-count-init
loop-count-init c = record { tied = c.requires.board; one = c.requires.share; made = (refl, refl) }

pub loop-count-preserved : goal.loop-count-preserved
loop-count-preserved c =
    let kept = c.loop-count.invariant in
    let page = c.new.result in
    let order = c.at-order.result in
    record {
      tied = still_tied c.args.board.now (Request.Free page order) Reply.Freed c.loop-count.self c.free.new.self c.loop-count.share c.free.new.share kept.tied c.in-Ok.ensures;
      one = still_one (Request.Free page order) Reply.Freed c.loop-count.self c.free.new.self c.loop-count.share c.free.new.share kept.one c.in-Ok.ensures;
      made = block_freed c.args.pages.now c.args.orders.now c.loop-count.count page order c.args.self.now c.loop-count.self c.free.new.self c.args.share.now c.loop-count.share c.free.new.share c.new.ensures c.at-order.ensures kept.made
          c.in-Ok.ensures;
    }
