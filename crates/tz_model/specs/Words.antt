-- Words of 32 bits, and the two sides.
use Rattle.std.specs.Prelude.{ℕ, ℤ, ◌%◌, ◌/◌, ◌*◌, ◌^◌, Bool, true, false}
use Rattle.std.specs.Int.{w32, cast_unsigned}
use Rattle.tz_table.specs.declared.units.Side.{Side}
use Rattle.tz_table.specs.declared.units.Side.TheVariants.{Secure, NonSecure}

-- a number as a word: what doesn't fit 32 bits is left out
abbrev pub wrap : ℕ → ℕ
wrap n = n % 2 ^ 32

-- a signed number as a word
abbrev pub word_of : ℤ → ℕ
word_of offset = cast_unsigned w32 offset

-- a number without its bit 0
abbrev pub even_of : ℕ → ℕ
even_of n = n / 2 * 2

abbrev pub is_nonsecure_side : Side → Bool
is_nonsecure_side Secure = false
is_nonsecure_side NonSecure = true
