use Rattle.std.proofs.Common.{refl, map, arith}
use Rattle.zp_share.specs.Shares.{named_zone}
use Rattle.zp_share.specs.Commands.{alloc_down}
use Rattle.zp_model.specs.declared.mark.Mark.TheVariants.{Min}
use Rattle.zp_kernel.proofs.Crews.{IsTurn, done_after, same_after, crew_after, shares-length}
use Rattle.zp_kernel.proofs.kernel_zones.KernelZones.alloc.Goals as goal

turn : (c : goal.After-self-1) →
    IsTurn c.self.inside.zones c.alloc.new.zones c.self.inside.shares.items c.from.result c.args.worker c.index_mut-share.result.now c.index_mut-share.result.now c.alloc.new.share c.args.self.now
turn c = record {
  view = c.self.view_is;
  some = c.self.invariant.0;
  are = c.self.invariant.1;
  place = omega (arith, c.from.ensures, c.number.ensures.same);
  there = omega (arith, c.from.ensures, c.number.ensures.same, c.requires.worker, shares-length c.self.inside.zones c.self.inside.shares.items c.args.self.now c.self.view_is);
  share = c.index_mut-share.ensures.value;
  keys = c.alloc.ensures.keys;
  fits = c.alloc.ensures.fits;
  worker = c.alloc.ensures.same.worker;
}

pub invariant_of-self : goal.invariant_of-self
invariant_of-self c = crew_after _ _ _ _ _ _ _ _ _ (turn c)

pub returns-clause-done : goal.returns-clause-done
returns-clause-done c = done_after _ _ _ _ _ _ _ _ _ (alloc_down c.args.order c.args.kind Min c.args.zone) _ (turn c) (c.alloc.ensures.told (map named_zone c.self.inside.zones) refl)

pub returns-clause-same : goal.returns-clause-same
returns-clause-same c = same_after _ _ _ _ _ _ _ _ _ (turn c)
