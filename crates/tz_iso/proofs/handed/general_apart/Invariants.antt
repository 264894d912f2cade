use Rattle.std.proofs.Common.{◌≡◌, ◌+◌, drop}
use Rattle.tz_iso.specs.What.{general_apart}
use Rattle.tz_iso.proofs.handed.general_apart.Given as goal

abbrev pub invariant-loop-k : goal.invariant-loop-k
invariant-loop-k l = general_apart (l.from + l.k) (drop l.k l.r) (drop l.k l.q) ≡ general_apart l.from l.r l.q
