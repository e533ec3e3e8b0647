use Rattle.zp_replay_tests.proofs.tests.replayed.Given as goal

abbrev pub ghosts-replayed_on-K-Ledger : goal.ghosts-replayed_on-K-Ledger
ghosts-replayed_on-K-Ledger g a = record { name = a.reads.name; parts = a.reads.parts }

abbrev pub ghosts-replayed_on-L-Ledger : goal.ghosts-replayed_on-L-Ledger
ghosts-replayed_on-L-Ledger g a = record { name = a.writes.name; parts = a.writes.parts }
