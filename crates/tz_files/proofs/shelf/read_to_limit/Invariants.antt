use Rattle.std.proofs.Common.{◌-◌, ◌+◌, ◌≤◌}
use Rattle.tz_files.proofs.Reading.{Gained}
use Rattle.tz_files.proofs.shelf.read_to_limit.Given as goal

abbrev pub invariant-pieces : goal.invariant-pieces
invariant-pieces g l = record {
  pieces : Gained l.fn.into.items l.into.items l.gained;
  within : l.gained ≤ l.limit + 1;
}

abbrev pub decreases-pieces : goal.decreases-pieces
decreases-pieces g l = l.limit + 1 - l.gained
