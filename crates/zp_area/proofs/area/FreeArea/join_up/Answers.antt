use Rattle.zp_area.specs.Chains.{IsJoinable}
use Rattle.zp_area.specs.KeptSets.{set_of}
use Rattle.zp_area.proofs.area.FreeArea.join_up.Goals as goal

pub returns-else-has_free_buddy : goal.returns-else-has_free_buddy
returns-else-has_free_buddy c = (
  0,
  (
    c.add.ensures.after,
    λ e d y.
        let z : IsJoinable c.self.inside.blocks.largest (set_of c.self.inside.blocks) c.args.at c.args.order e d = rw (← c.self.view_is) at y in
        c.has_free_buddy.ensures.none c.if-has_free_buddy.false z.order e d z.buddy z.free,
  ),
)
