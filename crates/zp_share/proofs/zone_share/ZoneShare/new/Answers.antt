use Rattle.std.proofs.Common.{[], ◌∷◌}
use Rattle.zp_share.specs.declared.zone_share.ZoneShare.TheInside.{Inside}
use Rattle.zp_share.proofs.Closing.{opening_whole}
use Rattle.zp_share.proofs.zone_share.ZoneShare.new.Goals as goal

pub invariant_of-result : goal.invariant_of-result
invariant_of-result c =
    let o : Inside = record { seat = c.args.seat; uses = c.in-Ok.uses; cached = c.new-2.result ∷ c.new-3.result ∷ c.new-4.result ∷ []; sections = c.new-5.result } in
    opening_whole o c.base.result c.pages.result c.requires c.in-Ok.ensures c.base.ensures c.pages.ensures
    (λ i. c.new-2.ensures i ∷ c.new-3.ensures i ∷ c.new-4.ensures i ∷ []) c.new-5.ensures
