use Rattle.std.proofs.Common.{◌<◌, inl, inr, refl, length, map, arith}
use Rattle.std.proofs.lemmas.Bool.{both_ways, cases_lt}
use Rattle.zp_model.specs.declared.request.Request.TheVariants as request
use Rattle.zp_model.specs.declared.request.Reply.TheVariants as reply
use Rattle.zp_share.specs.Commands.{World, done_answer, section, told_as}
use Rattle.zp_share.specs.Sections.{done_reply}
use Rattle.zp_share.specs.Shares.{named_zone}
use Rattle.zp_kernel.specs.Crews.{share_of}
use Rattle.zp_kernel.proofs.Crews.{IsTurn, crew_after, done_after, has_share, none_lent, posted_words, run_worker, same_after, shares-length, told}
use Rattle.zp_kernel.proofs.kernel_zones.KernelZones.free_run.Goals as goal

turn : (c : goal.After-self-1) →
    IsTurn c.self.inside.zones c.free_run.new.self c.self.inside.shares.items c.from.result c.args.worker c.index_mut-share.result.now c.index_mut-share.result.now c.free_run.new.share c.args.self.now
turn c =
    let is : c.args.zone < length (share_of c.args.self.now c.args.worker).zones = c.has_place.ensures.0 c.if-not-has_place.false in
    let there = has_share c.args.self.now c.args.worker c.args.zone is in
    record {
      view = c.self.view_is;
      some = c.self.invariant.0;
      are = c.self.invariant.1;
      place = omega (arith, c.from.ensures, c.number.ensures.same);
      there = omega (arith, c.from.ensures, c.number.ensures.same, there, shares-length c.self.inside.zones c.self.inside.shares.items c.args.self.now c.self.view_is);
      share = c.index_mut-share.ensures.value;
      keys = c.free_run.ensures.asked.keys;
      fits = c.free_run.ensures.asked.fits;
      worker = run_worker _ _ _ c.args.zone c.args.page c.args.pages (done_reply reply.Freed c.free_run.result) c.free_run.ensures.asked.share;
    }

pub returns-then-not-has_place-clause-done : goal.returns-then-not-has_place-clause-done
returns-then-not-has_place-clause-done c =
    none_lent c.args.self.now c.args.worker c.args.zone c.args.page c.args.pages (elim (cases_lt c.args.zone (length (share_of c.args.self.now c.args.worker).zones)) [
      | inl less ↦ absurd (both_ways _ c.if-not-has_place.true (c.has_place.ensures.1 less))
      | inr past ↦ past
    ])

pub invariant_of-self : goal.invariant_of-self
invariant_of-self c = crew_after _ _ _ _ _ _ _ _ _ (turn c)

pub returns-clause-done : goal.returns-clause-done
returns-clause-done c =
    done_after _ _ _ _ _ _ _ _ _
    (λ (v : World). told_as done_answer (section v c.args.zone (request.FreeRun c.args.page c.args.pages))) _ (turn c)
    (told done_answer _ _ _ _ _ (posted_words reply.Freed c.free_run.result refl) (c.free_run.ensures.asked.told (map named_zone c.self.inside.zones) refl))

pub returns-clause-same : goal.returns-clause-same
returns-clause-same c = same_after _ _ _ _ _ _ _ _ _ (turn c)
