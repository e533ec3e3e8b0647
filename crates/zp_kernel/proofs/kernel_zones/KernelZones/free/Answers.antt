use Rattle.std.proofs.Common.{◌<◌, refl, length, map, arith}
use Rattle.zp_share.specs.Commands.{World, free_in}
use Rattle.zp_share.specs.Shares.{named_zone}
use Rattle.zp_kernel.specs.Crews.{share_of}
use Rattle.zp_kernel.proofs.Crews.{IsTurn, done_after, has_share, same_after, crew_after, shares-length}
use Rattle.zp_kernel.proofs.kernel_zones.KernelZones.free.Goals as goal

turn : (c : goal.After-self-1) →
    IsTurn c.self.inside.zones c.free.new.zones c.self.inside.shares.items c.from.result c.args.worker c.index_mut-share.result.now c.index_mut-share.result.now c.free.new.share c.args.self.now
turn c =
    let is : c.args.lent.now.zone < length (share_of c.args.self.now c.args.worker).zones = c.has_place.ensures.0 c.if-not-has_place.false in
    let there = has_share c.args.self.now c.args.worker c.args.lent.now.zone is in
    record {
      view = c.self.view_is;
      some = c.self.invariant.0;
      are = c.self.invariant.1;
      place = omega (arith, c.from.ensures, c.number.ensures.same);
      there = omega (arith, c.from.ensures, c.number.ensures.same, there, shares-length c.self.inside.zones c.self.inside.shares.items c.args.self.now c.self.view_is);
      share = c.index_mut-share.ensures.value;
      keys = c.free.ensures.keys;
      fits = c.free.ensures.fits;
      worker = c.free.ensures.same.worker;
    }

pub invariant_of-self : goal.invariant_of-self
invariant_of-self c = crew_after _ _ _ _ _ _ _ _ _ (turn c)

pub returns-clause-done : goal.returns-clause-done
returns-clause-done c =
    done_after _ _ _ _ _ _ _ _ _ (λ (v : World). free_in v c.args.lent.now.zone c.args.lent.now.page c.args.lent.now.order) _ (turn c)
    (c.free.ensures.told (map named_zone c.self.inside.zones) refl)

pub returns-clause-same : goal.returns-clause-same
returns-clause-same c = same_after _ _ _ _ _ _ _ _ _ (turn c)
