use Rattle.std.proofs.Common.{subst}
use Rattle.zp_shared.specs.Rows.{AreKept}
use Rattle.zp_office.proofs.workers.work_at.Goals as goal

pub returns-clause-readers : goal.returns-clause-readers
returns-clause-readers g c =
    subst (λ lent. AreKept g.J.Naming.zones g.J.Naming.boards lent c.work_since.result) c.replace-lent.ensures.value c.work_since.ensures.readers
