use Rattle.tz_cli.proofs.back.gone_back.Given as goal

abbrev pub ghosts-make_kept : goal.ghosts-make_kept
ghosts-make_kept a = record { name = a.blank.name; parts = a.blank.parts }
