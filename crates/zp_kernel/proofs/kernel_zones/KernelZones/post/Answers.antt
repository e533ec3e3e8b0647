use Rattle.std.proofs.Common.{◌≡◌, ◌<◌, refl, length, map, arith}
use Rattle.zp_model.specs.declared.request.Request.TheVariants as request
use Rattle.zp_model.specs.declared.request.Reply.TheVariants as reply
use Rattle.zp_share.specs.Commands.{World, done_answer, section, told_as}
use Rattle.zp_share.specs.Sections.{done_reply}
use Rattle.zp_share.specs.Shares.{named_zone}
use Rattle.zp_kernel.specs.Crews.{share_of}
use Rattle.zp_share.proofs.Crews.{worker_there}
use Rattle.zp_kernel.proofs.Crews.{IsTurn, done_after, has_share, noted_worker, on_ok, posted_words, row_place, crew_after, shares-length, told, zones-length}
use Rattle.zp_kernel.proofs.kernel_zones.KernelZones.post.Goals as goal

pub post-requires-clause-to : goal.post-requires-clause-to
post-requires-clause-to c =
    let is : c.args.lent.now.zone < length (share_of c.args.self.now c.args.worker).zones = c.has_place.ensures.0 c.if-not-has_place.false in
    let there : c.args.worker < length c.args.self.now.shares = has_share c.args.self.now c.args.worker c.args.lent.now.zone is in
    let many = shares-length c.self.inside.zones c.self.inside.shares.items c.args.self.now c.self.view_is in
    let place : c.from.result ≡ c.args.worker = omega (arith, c.from.ensures, c.number.ensures.same) in
    let lt : c.from.result < length c.self.inside.shares.items = omega (arith, place, there, many) in
    worker_there c.self.inside.zones c.self.inside.shares.items c.args.lent.now.zone c.args.to c.self.invariant.1
    (row_place c.self.inside.zones c.self.inside.shares.items c.from.result c.args.worker c.args.lent.now.zone c.index_mut-share.result.now c.index_mut-share.result.now c.args.self.now
    c.self.view_is c.self.invariant.1 place lt c.index_mut-share.ensures.value is)
    (omega (arith, many, c.requires))

turn : (c : goal.After-self-1) →
    IsTurn c.self.inside.zones c.post.new.self c.self.inside.shares.items c.from.result c.args.worker c.index_mut-share.result.now c.index_mut-share.result.now c.post.new.share c.args.self.now
turn c =
    let is : c.args.lent.now.zone < length (share_of c.args.self.now c.args.worker).zones = c.has_place.ensures.0 c.if-not-has_place.false in
    let there = has_share c.args.self.now c.args.worker c.args.lent.now.zone is in
    record {
      view = c.self.view_is;
      some = c.self.invariant.0;
      are = c.self.invariant.1;
      place = omega (arith, c.from.ensures, c.number.ensures.same);
      there = omega (arith, c.from.ensures, c.number.ensures.same, there, shares-length c.self.inside.zones c.self.inside.shares.items c.args.self.now c.self.view_is);
      share = c.index_mut-share.ensures.value;
      keys = c.post.ensures.asked.keys;
      fits = c.post.ensures.asked.fits;
      worker = noted_worker _ _ c.args.lent.now.zone (request.Post c.args.lent.now.page c.args.lent.now.order c.args.to) (done_reply reply.Posted c.post.result) c.post.ensures.asked.share;
    }

pub invariant_of-self : goal.invariant_of-self
invariant_of-self c = crew_after _ _ _ _ _ _ _ _ _ (turn c)

pub returns-clause-done : goal.returns-clause-done
returns-clause-done c =
    done_after _ _ _ _ _ _ _ _ _
    (λ (v : World). told_as done_answer (section v c.args.lent.now.zone (request.Post c.args.lent.now.page c.args.lent.now.order c.args.to))) _ (turn c)
    (told done_answer _ _ _ _ _ (posted_words reply.Posted c.post.result refl) (c.post.ensures.asked.told (map named_zone c.self.inside.zones) refl))

pub returns-clause-place : goal.returns-clause-place
returns-clause-place c =
    let x = turn c in
    let is : c.args.lent.now.zone < length (share_of c.args.self.now c.args.worker).zones = c.has_place.ensures.0 c.if-not-has_place.false in
    on_ok _ c.post.result
    (omega (
      arith,
      row_place c.self.inside.zones c.self.inside.shares.items c.from.result c.args.worker c.args.lent.now.zone c.index_mut-share.result.now c.index_mut-share.result.now c.args.self.now
          c.self.view_is c.self.invariant.1 x.place x.there c.index_mut-share.ensures.value is,
      zones-length c.self.inside.zones c.self.inside.shares.items c.args.self.now c.self.view_is,
    ))
