use Rattle.std.proofs.Common.{ℕ, ◌<◌, length, refl, sym, subst, arith}
use Rattle.zp_model.specs.declared.request.Request.{Request}
use Rattle.zp_model.specs.declared.request.Reply.{Reply}
use Rattle.zp_gate.specs.GatedZones.{IsSectionOf}
use Rattle.zp_gate.proofs.Keeping.{one_written, page_got, still_one, still_tied}
use Rattle.zp_gate.proofs.gated_zone.GatedZone.alloc_many.Goals as goal

pub loop-count-init : goal.loop-count-init
loop-count-init c = record { tied = c.requires.board; one = c.requires.share; made = (refl, refl); written = (refl, λ i any. refl) }

pub loop-count-preserved : goal.loop-count-preserved
loop-count-preserved c =
    let kept = c.loop-count.invariant in
    let n = c.loop-count.count in
    let pages = c.loop-count.pages in
    let page = c.number.result in
    let r = Request.Alloc c.args.order c.args.kind c.args.mark in
    let lt : n < length pages = omega (arith, c.loop-count-test.true, kept.written.0) in
    let section : IsSectionOf r (Reply.Page page) c.loop-count.self c.alloc.new.self c.loop-count.share c.alloc.new.share =
    subst (λ (k : ℕ). IsSectionOf r (Reply.Page k) c.loop-count.self c.alloc.new.self c.loop-count.share c.alloc.new.share) (sym c.number.ensures.same) c.in-Ok.ensures in
    record {
      tied = still_tied c.args.board.now r (Reply.Page page) c.loop-count.self c.alloc.new.self c.loop-count.share c.alloc.new.share kept.tied section;
      one = still_one r (Reply.Page page) c.loop-count.self c.alloc.new.self c.loop-count.share c.alloc.new.share kept.one section;
      made = page_got r n page pages c.args.self.now c.loop-count.self c.alloc.new.self c.args.share.now c.loop-count.share c.alloc.new.share lt kept.made section;
      written = one_written n page c.args.pages.now pages kept.written;
    }
