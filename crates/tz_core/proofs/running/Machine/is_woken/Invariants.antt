use Rattle.tz_core.proofs.running.Machine.is_woken.Given as goal

abbrev pub ghosts-wakes_counted : goal.ghosts-wakes_counted
ghosts-wakes_counted a = record { name = a.blank.name; parts = a.blank.parts }
