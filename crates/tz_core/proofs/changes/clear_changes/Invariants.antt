use Rattle.std.proofs.Common.{◌≡◌, ◌+◌}
use Rattle.arrayvec.specs.ArrayVec.{array_vec_len}
use Rattle.tz_core.proofs.changes.clear_changes.Given as goal

-- One register less each time round.
abbrev pub invariant-loop : goal.invariant-loop
invariant-loop l = array_vec_len l.changes + l.counter ≡ l.end
