use Rattle.zoneview.proofs.events.summary_of.Given as goal

-- the ledger is the one of the blank
abbrev pub ghosts-carry_out : goal.ghosts-carry_out
ghosts-carry_out g a = record { name = a.failures.name; parts = a.failures.parts }
