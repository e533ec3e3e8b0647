use Rattle.zp_shared.specs.Rows.{seen_by}
use Rattle.zp_office.proofs.workers.work_at.Given as goal

-- what the readers had seen when they were lent
abbrev pub ghosts-work_since : goal.ghosts-work_since
ghosts-work_since g a = record { seen = seen_by a.readers.items }
