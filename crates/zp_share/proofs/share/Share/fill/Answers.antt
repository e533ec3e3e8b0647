use Rattle.std.proofs.Common.{◌≡◌, ◌<◌, ap, arith, length}
use Rattle.zp_model.specs.Zone.{workers_of}
use Rattle.zp_model.specs.declared.constants.TheConstants.{MAX_ZONES}
use Rattle.zp_model.specs.declared.request.Request.{Request}
use Rattle.zp_model.specs.declared.request.Request.TheVariants as request
use Rattle.zp_share.specs.Sections.{IsAsked}
use Rattle.zp_share.specs.Shares.{ShareState, share_at}
use Rattle.zp_share.specs.ZoneShares.{IsSameSeat}
use Rattle.zp_share.proofs.Asking.{few, set_whole}
use Rattle.zp_share.proofs.Refilled.{refilled_anyhow, refilled_so}
use Rattle.zp_share.proofs.share.Share.fill.Goals as goal

-- a batch is less than a list may have
pub invariant_of-self : goal.invariant_of-self
invariant_of-self c =
    let there : c.args.place < length c.self.inside.zones.items = omega (arith, c.requires.place, ap (λ (s : ShareState). length s.zones) c.self.view_is) in
    let same : c.self.inside.lists.batch ≡ c.args.self.now.batch = ap (λ (s : ShareState). s.batch) c.self.view_is in
    let r : Request = request.Refill c.args.kind c.args.mark c.batch-batch.result in
    let seat : IsSameSeat c.index_mut.result.now c.fill.new.self =
    refilled_anyhow (IsSameSeat c.index_mut.result.now c.fill.new.self) c.fill.result
    (refilled_so (λ q. IsAsked r q c.args.zone.now c.fill.new.zone c.index_mut.result.now c.fill.new.self) (λ q. IsSameSeat c.index_mut.result.now c.fill.new.self) c.fill.result
    (λ q asked. asked.same) c.fill.ensures.section) in
    set_whole c.self.inside.zones.items c.args.place MAX_ZONES c.self.inside.worker c.self.inside.lists.high_len c.index_mut.result.now c.fill.new.self c.self.invariant c.index_mut.ensures.value there
    seat.worker
    (c.fill.ensures.lists c.self.inside.lists.high_len
    (few (workers_of c.args.zone.now.plain) c.args.self.now.batch _ r (share_at c.args.self.now c.args.place) (λ some. omega (arith, c.self.inside.lists.settings.room, some, same))
    (c.requires.empty, omega (arith, c.requires.some, c.batch-batch.ensures.same), omega (arith, c.batch-batch.ensures.same))))
