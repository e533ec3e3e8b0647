use Rattle.zp_events_tests.proofs.reading.ended.Given as goal

abbrev pub ghosts-read_text : goal.ghosts-read_text
ghosts-read_text a = record { name = a.blank.name; parts = a.blank.parts }
