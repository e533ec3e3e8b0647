-- The numbers of the refusals.
use Rattle.std.specs.Prelude.{ℕ}
use Rattle.zp_model.specs.declared.refused.Refused.{Refused}
use Rattle.zp_model.specs.declared.refused.Refused.TheVariants.{BadName, BadBase, BadPages, BadMark, BadWorkers, Memory, BelowMark, NoBlock, NothingPosted, BadPageblock, AlreadyIsolated, NotIsolated, BadRun, NotFree, NotLent, ListFull, JournalFull, NoThread}

abbrev pub refused_number : Refused → ℕ
refused_number BadName = 1
refused_number BadBase = 2
refused_number BadPages = 3
refused_number BadMark = 4
refused_number BadWorkers = 5
refused_number Memory = 6
refused_number BelowMark = 10
refused_number NoBlock = 11
refused_number NothingPosted = 12
refused_number BadPageblock = 13
refused_number AlreadyIsolated = 14
refused_number NotIsolated = 15
refused_number BadRun = 16
refused_number NotFree = 17
refused_number NotLent = 20
refused_number ListFull = 21
refused_number JournalFull = 30
refused_number NoThread = 31
