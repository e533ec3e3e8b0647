use Rattle.std.proofs.Common.{◌≡◌, ◌<◌, ap, arith, length}
use Rattle.zp_model.specs.Zone.{workers_of}
use Rattle.zp_model.specs.declared.constants.TheConstants.{MAX_ZONES}
use Rattle.zp_share.specs.Shares.{ShareState, share_at}
use Rattle.zp_share.proofs.Asking.{few, set_whole}
use Rattle.zp_share.proofs.share.Share.section.Goals as goal

-- a batch is less than a list may have
pub invariant_of-self : goal.invariant_of-self
invariant_of-self c =
    let there : c.args.place < length c.self.inside.zones.items = omega (arith, c.requires.place, ap (λ (s : ShareState). length s.zones) c.self.view_is) in
    let same : c.self.inside.lists.batch ≡ c.args.self.now.batch = ap (λ (s : ShareState). s.batch) c.self.view_is in
    set_whole c.self.inside.zones.items c.args.place MAX_ZONES c.self.inside.worker c.self.inside.lists.high_len c.index_mut.result.now c.section.new.self c.self.invariant c.index_mut.ensures.value there
    c.section.ensures.section.same.worker
    (c.section.ensures.lists c.self.inside.lists.high_len
    (few (workers_of c.args.zone.now.plain) c.args.self.now.batch _ c.args.request.now (share_at c.args.self.now c.args.place) (λ some. omega (arith, c.self.inside.lists.settings.room, some, same)) c.requires.may))
