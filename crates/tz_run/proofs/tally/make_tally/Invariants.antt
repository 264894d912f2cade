use Rattle.tz_run.proofs.tally.make_tally.Given as goal

abbrev pub ghosts-tally_counted : goal.ghosts-tally_counted
ghosts-tally_counted a = record { name = a.blank.name; parts = a.blank.parts }
