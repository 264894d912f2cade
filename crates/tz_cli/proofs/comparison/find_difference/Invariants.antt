use Rattle.tz_cli.proofs.comparison.find_difference.Given as goal

abbrev pub ghosts-first_difference : goal.ghosts-first_difference
ghosts-first_difference a = record { name = a.blank.name; parts = a.blank.parts }
