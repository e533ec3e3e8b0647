use Rattle.std.proofs.Common.{inr, length, rules}
use Rattle.std.specs.Arc.{arc_value}
use Rattle.zp_gate.specs.GatedZones.{free_of, freed_of}
use Rattle.zp_gate.specs.GatedRows.{lock_key}
use Rattle.zp_gate.proofs.Keeping.{many_stay}
use Rattle.zp_gate.proofs.gated_share.GatedShare.free_many.Goals as goal

-- many sections were made of what was found there
pub leave-requires : goal.leave-requires
leave-requires c =
    let many = c.free_many-granted in (
      search rules,
      (
        c.slot_mut-zone.result.now,
        many.new.self,
        search rules,
        search rules,
        search rules,
        inr (inr (inr (free_of c.args.pages.now c.args.orders.now, freed_of, length c.args.pages.now, many.result, c.self.inside.share, many.new.share, many.ensures))),
      ),
    )

-- the share is one of the same zone still
pub invariant_of-self : goal.invariant_of-self
invariant_of-self c =
    let many = c.free_many-granted in
    many_stay (lock_key (arc_value c.self.inside.lock)).zone (free_of c.args.pages.now c.args.orders.now) freed_of (length c.args.pages.now) many.result c.slot_mut-zone.result.now many.new.self c.self.inside.share many.new.share c.self.invariant
    many.ensures
