use Rattle.zp_replay_tests.proofs.tests.gathered.written.Given as goal

abbrev pub ghosts-written_on-K-Ledger : goal.ghosts-written_on-K-Ledger
ghosts-written_on-K-Ledger g a = record { name = a.reads.name; parts = a.reads.parts }

abbrev pub ghosts-written_on-L-Ledger : goal.ghosts-written_on-L-Ledger
ghosts-written_on-L-Ledger g a = record { name = a.writes.name; parts = a.writes.parts }
