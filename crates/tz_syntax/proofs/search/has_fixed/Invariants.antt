use Rattle.std.proofs.Common.{◌≡◌, drop}
use Rattle.tz_syntax.specs.Rows.{has_fixed, somes}
use Rattle.tz_syntax.proofs.search.has_fixed.Given as goal

abbrev pub invariant-loop-entry : goal.invariant-loop-entry
invariant-loop-entry l = has_fixed (somes (drop l.entry-index l.fixed)) l.values ≡ has_fixed (somes l.fixed) l.values
