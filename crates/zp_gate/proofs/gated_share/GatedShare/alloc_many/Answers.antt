use Rattle.std.proofs.Common.{inr, length, rules}
use Rattle.std.specs.Arc.{arc_value}
use Rattle.zp_model.specs.declared.request.Request.{Request}
use Rattle.zp_gate.specs.GatedZones.{each_is, page_of}
use Rattle.zp_gate.specs.GatedRows.{lock_key}
use Rattle.zp_gate.proofs.Keeping.{many_stay}
use Rattle.zp_gate.proofs.gated_share.GatedShare.alloc_many.Goals as goal

-- many sections were made of what was found there
pub leave-requires : goal.leave-requires
leave-requires c =
    let many = c.alloc_many-granted in (
      search rules,
      (
        c.slot_mut-zone.result.now,
        many.new.self,
        search rules,
        search rules,
        search rules,
        inr (inr (inr (each_is (Request.Alloc c.args.order c.args.kind c.args.mark), page_of many.new.pages, length c.args.pages.now, many.result, c.self.inside.share, many.new.share, many.ensures.made))),
      ),
    )

-- the share is one of the same zone still
pub invariant_of-self : goal.invariant_of-self
invariant_of-self c =
    let many = c.alloc_many-granted in
    many_stay (lock_key (arc_value c.self.inside.lock)).zone (each_is (Request.Alloc c.args.order c.args.kind c.args.mark)) (page_of many.new.pages) (length c.args.pages.now) many.result c.slot_mut-zone.result.now many.new.self c.self.inside.share
    many.new.share c.self.invariant many.ensures.made
