use Rattle.zp_share.specs.ZoneShares.{use_in}
use Rattle.zp_share.proofs.Closing.{share_of, put_whole}
use Rattle.zp_share.proofs.OneUse.{lent_use}
use Rattle.zp_share.proofs.zone_share.ZoneShare.put_lent.Goals as goal

pub invariant_of-self : goal.invariant_of-self
invariant_of-self c =
    put_whole c.self.inside c.set.new.self c.args.kind c.number.result c.args.page c.index-self-number.result c.push_front.new.self c.self.invariant c.number.ensures.number
    (lent_use (use_in (share_of c.self.inside) c.args.page) 0 c.args.kind (rw (← c.self.view_is) at c.requires.lent)) c.push_front.ensures c.set.ensures
