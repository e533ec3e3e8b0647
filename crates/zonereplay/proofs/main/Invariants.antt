use Rattle.zonereplay.proofs.main.Given as goal

abbrev pub ghosts-replay_streams-K-Ledger : goal.ghosts-replay_streams-K-Ledger
ghosts-replay_streams-K-Ledger g a = record { name = a.reads.name; parts = a.reads.parts }

abbrev pub ghosts-replay_streams-L-Ledger : goal.ghosts-replay_streams-L-Ledger
ghosts-replay_streams-L-Ledger g a = record { name = a.writes.name; parts = a.writes.parts }
