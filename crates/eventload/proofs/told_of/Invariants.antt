use Rattle.eventload.proofs.told_of.Given as goal

-- the ledger is the one of the blank
abbrev pub ghosts-told : goal.ghosts-told
ghosts-told a = record { name = a.failures.name; parts = a.failures.parts }
