use Rattle.std.proofs.Common.{ap, arith, length, subst, ◌≡◌, ◌≤◌, ◌∙◌, sym}
use Rattle.std.proofs.lemmas.List.{length-map}
use Rattle.zp_model.specs.declared.constants.TheConstants.{TRACE_ZONES}
use Rattle.zp_share.specs.declared.commands.Lent.{Lent}
use Rattle.zp_model.specs.declared.request.Request.TheVariants as request
use Rattle.zp_zone.specs.NamedZone.{block_reply, isolate_reply, release_reply}
use Rattle.zp_share.proofs.Covering.{covers_one}
use Rattle.zp_share.specs.Shares.{ZoneKey}
use Rattle.zp_share.specs.ZoneShares.{ZoneShareState}
use Rattle.zp_office.specs.Desks.{IsCommandFor}
use Rattle.zp_office.proofs.CarriedOut.{kept-set}
use Rattle.zp_office.proofs.carrying_out.carry_out.Goals as goal

-- the share is of as many zones as the row has keys
pub counts_in-requires-clause-few : goal.counts_in-requires-clause-few
counts_in-requires-clause-few g c =
    let keys = g.Z.Zones.keys c.args.zones.now in
    let zones = c.args.share.now.zones in
    let few : length keys ≤ TRACE_ZONES = subst (IsCommandFor keys) c.in-Info.is c.requires.command in
    let same : length zones ≡ length keys =
    sym (length-map zones (λ (z : ZoneShareState). z.seat.tie)) ∙ ap length c.requires.fits ∙ length-map keys (λ (k : ZoneKey). k.tie) in
    omega (arith, few, same)

pub returns-in-Ok-alloc_low-clause-kept : goal.returns-in-Ok-alloc_low-clause-kept
returns-in-Ok-alloc_low-clause-kept g c =
    kept-set (g.Z.Zones.keys c.args.zones.now) c.args.share.now c.args.slots.now c.in-Low.slot c.in-Low.zone c.lent_of.result c.requires.fits
    (subst (IsCommandFor (g.Z.Zones.keys c.args.zones.now)) c.in-Low.is c.requires.command) (ap (λ (l : Lent). l.zone) c.lent_of.ensures) c.requires.kept

pub returns-in-Ok-collect-clause-kept : goal.returns-in-Ok-collect-clause-kept
returns-in-Ok-collect-clause-kept g c =
    kept-set (g.Z.Zones.keys c.args.zones.now) c.args.share.now c.args.slots.now c.in-Collect.slot c.in-Collect.zone c.lent_of-in-Ok-collect.result c.requires.fits
    (subst (IsCommandFor (g.Z.Zones.keys c.args.zones.now)) c.in-Collect.is c.requires.command) (ap (λ (l : Lent). l.zone) c.lent_of-in-Ok-collect.ensures) c.requires.kept

pub returns-in-Ok-alloc_low-clause-read : goal.returns-in-Ok-alloc_low-clause-read
returns-in-Ok-alloc_low-clause-read g c =
    covers_one (g.Z.Zones.covers c.args.zones.now) (g.Z.Zones.covers c.alloc_low.new.self) c.in-Low.zone (request.AllocLow c.in-Low.order) (block_reply c.alloc_low.result) c.args.share.now c.alloc_low.new.share c.alloc_low.ensures.asked.share
    (g.met.Z.Zones.covers_own _ _ _ _ _ c.alloc_low.ensures.read) (g.met.Z.Zones.covers_still _ _ _ _ _ c.alloc_low.ensures.read)

pub returns-in-Err-alloc_low-clause-read : goal.returns-in-Err-alloc_low-clause-read
returns-in-Err-alloc_low-clause-read g c =
    covers_one (g.Z.Zones.covers c.args.zones.now) (g.Z.Zones.covers c.alloc_low.new.self) c.in-Low.zone (request.AllocLow c.in-Low.order) (block_reply c.alloc_low.result) c.args.share.now c.alloc_low.new.share c.alloc_low.ensures.asked.share
    (g.met.Z.Zones.covers_own _ _ _ _ _ c.alloc_low.ensures.read) (g.met.Z.Zones.covers_still _ _ _ _ _ c.alloc_low.ensures.read)

pub returns-in-Ok-collect-clause-read : goal.returns-in-Ok-collect-clause-read
returns-in-Ok-collect-clause-read g c =
    covers_one (g.Z.Zones.covers c.args.zones.now) (g.Z.Zones.covers c.collect.new.self) c.in-Collect.zone request.Collect (block_reply c.collect.result) c.args.share.now c.collect.new.share c.collect.ensures.asked.share
    (g.met.Z.Zones.covers_own _ _ _ _ _ c.collect.ensures.read) (g.met.Z.Zones.covers_still _ _ _ _ _ c.collect.ensures.read)

pub returns-in-Err-collect-clause-read : goal.returns-in-Err-collect-clause-read
returns-in-Err-collect-clause-read g c =
    covers_one (g.Z.Zones.covers c.args.zones.now) (g.Z.Zones.covers c.collect.new.self) c.in-Collect.zone request.Collect (block_reply c.collect.result) c.args.share.now c.collect.new.share c.collect.ensures.asked.share
    (g.met.Z.Zones.covers_own _ _ _ _ _ c.collect.ensures.read) (g.met.Z.Zones.covers_still _ _ _ _ _ c.collect.ensures.read)

pub returns-in-Ok-isolate-clause-read : goal.returns-in-Ok-isolate-clause-read
returns-in-Ok-isolate-clause-read g c =
    covers_one (g.Z.Zones.covers c.args.zones.now) (g.Z.Zones.covers c.isolate.new.self) c.in-Isolate.zone (request.Isolate c.in-Isolate.pageblock) (isolate_reply c.isolate.result) c.args.share.now c.isolate.new.share c.isolate.ensures.asked.share
    (g.met.Z.Zones.covers_own _ _ _ _ _ c.isolate.ensures.read) (g.met.Z.Zones.covers_still _ _ _ _ _ c.isolate.ensures.read)

pub returns-in-Err-isolate-clause-read : goal.returns-in-Err-isolate-clause-read
returns-in-Err-isolate-clause-read g c =
    covers_one (g.Z.Zones.covers c.args.zones.now) (g.Z.Zones.covers c.isolate.new.self) c.in-Isolate.zone (request.Isolate c.in-Isolate.pageblock) (isolate_reply c.isolate.result) c.args.share.now c.isolate.new.share c.isolate.ensures.asked.share
    (g.met.Z.Zones.covers_own _ _ _ _ _ c.isolate.ensures.read) (g.met.Z.Zones.covers_still _ _ _ _ _ c.isolate.ensures.read)

pub returns-in-Ok-release-clause-read : goal.returns-in-Ok-release-clause-read
returns-in-Ok-release-clause-read g c =
    covers_one (g.Z.Zones.covers c.args.zones.now) (g.Z.Zones.covers c.release.new.self) c.in-Release.zone (request.Release c.in-Release.pageblock c.in-Release.kind) (release_reply c.release.result) c.args.share.now c.release.new.share c.release.ensures.asked.share
    (g.met.Z.Zones.covers_own _ _ _ _ _ c.release.ensures.read) (g.met.Z.Zones.covers_still _ _ _ _ _ c.release.ensures.read)

pub returns-in-Err-release-clause-read : goal.returns-in-Err-release-clause-read
returns-in-Err-release-clause-read g c =
    covers_one (g.Z.Zones.covers c.args.zones.now) (g.Z.Zones.covers c.release.new.self) c.in-Release.zone (request.Release c.in-Release.pageblock c.in-Release.kind) (release_reply c.release.result) c.args.share.now c.release.new.share c.release.ensures.asked.share
    (g.met.Z.Zones.covers_own _ _ _ _ _ c.release.ensures.read) (g.met.Z.Zones.covers_still _ _ _ _ _ c.release.ensures.read)
