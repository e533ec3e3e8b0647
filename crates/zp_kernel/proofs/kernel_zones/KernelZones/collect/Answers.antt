use Rattle.std.proofs.Common.{refl, map, arith}
use Rattle.zp_model.specs.declared.request.Request.TheVariants as request
use Rattle.zp_zone.specs.NamedZone.{block_reply}
use Rattle.zp_share.specs.Commands.{World, section, told_as}
use Rattle.zp_share.specs.Shares.{named_zone}
use Rattle.zp_kernel.specs.Crews.{block_answer}
use Rattle.zp_kernel.proofs.Crews.{IsTurn, collected_words, done_after, noted_worker, same_after, crew_after, shares-length, told}
use Rattle.zp_kernel.proofs.kernel_zones.KernelZones.collect.Goals as goal

turn : (c : goal.After-self-1) →
    IsTurn c.self.inside.zones c.collect.new.self c.self.inside.shares.items c.from.result c.args.worker c.index_mut-share.result.now c.index_mut-share.result.now c.collect.new.share c.args.self.now
turn c = record {
  view = c.self.view_is;
  some = c.self.invariant.0;
  are = c.self.invariant.1;
  place = omega (arith, c.from.ensures, c.number.ensures.same);
  there = omega (arith, c.from.ensures, c.number.ensures.same, c.requires.worker, shares-length c.self.inside.zones c.self.inside.shares.items c.args.self.now c.self.view_is);
  share = c.index_mut-share.ensures.value;
  keys = c.collect.ensures.asked.keys;
  fits = c.collect.ensures.asked.fits;
  worker = noted_worker _ _ c.args.zone request.Collect (block_reply c.collect.result) c.collect.ensures.asked.share;
}

pub invariant_of-self : goal.invariant_of-self
invariant_of-self c = crew_after _ _ _ _ _ _ _ _ _ (turn c)

pub returns-clause-done : goal.returns-clause-done
returns-clause-done c =
    done_after _ _ _ _ _ _ _ _ _ (λ (v : World). told_as block_answer (section v c.args.zone request.Collect)) _ (turn c)
    (told block_answer _ _ _ _ _ (collected_words c.collect.result) (c.collect.ensures.asked.told (map named_zone c.self.inside.zones) refl))

pub returns-clause-same : goal.returns-clause-same
returns-clause-same c = same_after _ _ _ _ _ _ _ _ _ (turn c)
