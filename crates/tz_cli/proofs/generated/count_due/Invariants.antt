use Rattle.tz_cli.proofs.generated.count_due.Given as goal

abbrev pub ghosts-due_counted : goal.ghosts-due_counted
ghosts-due_counted a = record { name = a.blank.name; parts = a.blank.parts }
