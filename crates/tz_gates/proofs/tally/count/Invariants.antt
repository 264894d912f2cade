use Rattle.tz_gates.proofs.tally.count.Given as goal

abbrev pub ghosts-count_counted : goal.ghosts-count_counted
ghosts-count_counted a = record { name = a.blank.name; parts = a.blank.parts }
