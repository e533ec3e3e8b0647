use Rattle.std.proofs.Common.{◌∙◌, ap}
use Rattle.zp_share.specs.Shares.{share_at}
use Rattle.zp_share.specs.ZoneShares.{is_lent}
use Rattle.zp_shared.specs.OneZones.{WorkerState}
use Rattle.zp_shared.proofs.zone_worker.WorkerAt.give.Goals as goal

pub returns-clause-others : goal.returns-clause-others
returns-clause-others g c = λ i p k ne. c.free.ensures.others i p k ne ∙ ap (λ (v : WorkerState). is_lent (share_at v.share i) p k) c.self.view_is
