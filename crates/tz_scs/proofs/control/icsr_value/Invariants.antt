use Rattle.tz_scs.proofs.control.icsr_value.Given as goal

abbrev pub ghosts-chosen_counted : goal.ghosts-chosen_counted
ghosts-chosen_counted a = record { name = a.blank.name; parts = a.blank.parts }
