use Rattle.std.proofs.Common.{◌≡◌, ◌∷◌}
use Rattle.std.specs.Prelude.{drop}
use Rattle.tz_cli.proofs.back.undo_steps.Given as goal

abbrev pub invariant-loop-undone : goal.invariant-loop-undone
invariant-loop-undone l = l.history.now ∷ l.history.before ≡ drop l._undone (l.fn.history.now ∷ l.fn.history.before)
