use Rattle.std.proofs.Common.{◌≡◌, ℕ, ◌<◌, Some, false, slice_get}
use Rattle.tz_table.specs.Rows.{same_row}
use Rattle.tz_table.specs.declared.rows.Row.{Row}
use Rattle.tz_table.proofs.holds.number_of.Given as goal

-- no row so far is the one that is looked for
abbrev pub invariant-loop-number : goal.invariant-loop-number
invariant-loop-number l = (k : ℕ) (r : Row) → k < l.number → slice_get l.rows k ≡ Some r → same_row r l.row ≡ false
