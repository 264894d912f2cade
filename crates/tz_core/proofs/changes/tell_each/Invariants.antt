use Rattle.std.proofs.Common.{◌≡◌, ◌≤◌, ◌++◌, drop}
use Rattle.arrayvec.specs.ArrayVec.{array_vec_len}
use Rattle.tz_sem.specs.Ended.{registers_changed}
use Rattle.tz_core.proofs.changes.tell_each.Given as goal

abbrev pub invariant-loop-k : goal.invariant-loop-k
invariant-loop-k l = record {
  items : l.changes.items ++ registers_changed l.k (drop l.k l.before) (drop l.k l.after) ≡ l.fn.changes.items ++ registers_changed l.from (drop l.from l.before) (drop l.from l.after);
  len : array_vec_len l.changes ≤ l.k;
}
