use Rattle.tz_excret.proofs.choice.takes_first_uncounted.Given as goal

abbrev pub ghosts-takes_counted : goal.ghosts-takes_counted
ghosts-takes_counted a = record { name = a.blank.name; parts = a.blank.parts }
