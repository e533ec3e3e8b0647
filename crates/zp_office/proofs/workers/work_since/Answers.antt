use Rattle.std.proofs.Common.{subst, sym}
use Rattle.zp_shared.specs.Rows.{HaveSeen, seen_by}
use Rattle.zp_shared.proofs.Readers.{seen_named}
use Rattle.zp_office.proofs.workers.work_since.Goals as goal

pub returns-clause-readers : goal.returns-clause-readers
returns-clause-readers g c =
    (c.into_readers.ensures.fit, subst (λ seen. HaveSeen seen (seen_by c.into_readers.result.items)) (sym c.requires.named) c.into_readers.ensures.seen)

pub new-view-requires : goal.new-view-requires
new-view-requires g c =
    record { row = c.requires.row; readers = c.requires.readers; seen = seen_named g.E.Earlier.seen (seen_by c.args.readers.items) c.requires.named }

pub work-requires : goal.work-requires
work-requires g c = c.requires.ready

pub returns-clause-worked : goal.returns-clause-worked
returns-clause-worked g c = c.work.ensures.worked
