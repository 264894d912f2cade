-- Words as numbers, as UInt, SInt, ZeroExtend and SignExtend of the manual have them.
use Rattle.std.specs.Prelude.{ℕ, ◌+◌, ◌-◌, ◌%◌, ◌^◌, Bool, true, false, ◌==◌, nat_lt, if◌then◌else◌}

-- the number of one bit
abbrev pub of_bool : Bool → ℕ
of_bool true = 1
of_bool false = 0

-- bit 0 of n
abbrev pub is_odd : ℕ → Bool
is_odd n = n % 2 == 1

-- the low `width` bits of n, continued to 32 bits by copies of the highest of them
abbrev pub sign_extended : ℕ → ℕ → ℕ
sign_extended n width = if nat_lt (n % 2 ^ width) (2 ^ (width - 1)) then n % 2 ^ width else (n % 2 ^ width + (2 ^ 32 - 2 ^ width))
