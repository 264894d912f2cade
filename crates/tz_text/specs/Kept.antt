-- A code as a number.
use Rattle.std.specs.Prelude.{ℕ, ◌+◌, ◌*◌, Option, Some, None}
use Rattle.tz_table.specs.declared.units.Code.{Code}

-- the second halfword, 2 higher; 1 where there is none
abbrev pub upper_of : Option ℕ → ℕ
upper_of None = 1
upper_of (Some second) = second + 2

-- both halfwords; the number of no code is 0
abbrev pub number_of : Code → ℕ
number_of code = upper_of code.second * 65536 + code.first
