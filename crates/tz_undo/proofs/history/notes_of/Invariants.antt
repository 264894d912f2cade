use Rattle.std.proofs.Common.{◌≡◌, length}
use Rattle.tz_undo.proofs.history.notes_of.Given as goal

abbrev pub invariant-loop : goal.invariant-loop
invariant-loop l = length l.notes.items ≡ l.counter
