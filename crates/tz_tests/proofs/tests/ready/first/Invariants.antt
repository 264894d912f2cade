use Rattle.tz_tests.proofs.tests.ready.first.Given as goal

abbrev pub ghosts-first_by : goal.ghosts-first_by
ghosts-first_by a = record { name = a.blank.name; parts = a.blank.parts }
