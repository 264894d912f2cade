-- Bits of a number.
use Rattle.std.specs.Prelude.{ℕ, ◌/◌, ◌%◌, ◌^◌}

-- the bits of n from bit `low` on, `width` of them: n<low + width - 1:low> of the manual
abbrev pub bits : ℕ → ℕ → ℕ → ℕ
bits n low width = n / 2 ^ low % 2 ^ width
