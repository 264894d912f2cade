use Rattle.tz_excret.proofs.choices.+make_choices.Given as goal

abbrev pub decreases-make_choices : goal.decreases-make_choices
decreases-make_choices g l = l.left
