use Rattle.std.proofs.Common.{◌≡◌, true, drop}
use Rattle.tz_sem.specs.Ended.{registers_changed}
use Rattle.tz_core.proofs.changes.four_kept.Given as goal

abbrev pub invariant-loop-k : goal.invariant-loop-k
invariant-loop-k l = l.kept ≡ true → registers_changed l.k (drop l.k l.before) (drop l.k l.after) ≡ registers_changed l.from (drop l.from l.before) (drop l.from l.after)
