use Rattle.std.proofs.Common.{◌<◌, ap, arith, length}
use Rattle.zp_model.specs.declared.constants.TheConstants.{MAX_ZONES}
use Rattle.zp_share.specs.Shares.{ShareState}
use Rattle.zp_share.proofs.Asking.{set_whole}
use Rattle.zp_share.proofs.share.Share.drain.Goals as goal

pub invariant_of-self : goal.invariant_of-self
invariant_of-self c =
    let there : c.args.place < length c.self.inside.zones.items = omega (arith, c.requires.place, ap (λ (s : ShareState). length s.zones) c.self.view_is) in
    set_whole c.self.inside.zones.items c.args.place MAX_ZONES c.self.inside.worker c.self.inside.lists.high_len c.index_mut.result.now c.drain.new.self c.self.invariant c.index_mut.ensures.value there
    c.drain.ensures.section.same.worker
    (c.drain.ensures.lists c.self.inside.lists.high_len)
