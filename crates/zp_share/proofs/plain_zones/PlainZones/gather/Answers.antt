use Rattle.std.proofs.Common.{List, All, sym, subst, ◌∙◌}
use Rattle.zp_zone.specs.Seats.{ZoneState}
use Rattle.zp_share.specs.Gathering.{IsCrewOf}
use Rattle.zp_share.proofs.plain_zones.PlainZones.gather.Goals as goal

pub gather-requires-clause-crew : goal.gather-requires-clause-crew
gather-requires-clause-crew c =
    subst (λ (zs : List ZoneState). All (IsCrewOf c.args.shares.now) zs) (sym (c.deref_mut.ensures.value ∙ c.self.view_is)) c.requires.crew
