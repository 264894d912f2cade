-- The values of an instruction that numbers, addresses and letters stand for.
use Rattle.std.specs.Prelude.{ℕ, zero, suc, ◌+◌, ◌-◌, ◌/◌, ◌%◌, ◌^◌, ◌==◌, nat_lt, Bool, false, ◌&&◌, if◌then◌else◌, List, [], ◌∷◌, Option, Some, None, ℤ, pos, neg_ℤ}
use Rattle.std.specs.Char.{to_ascii_lowercase}
use Rattle.std.specs.Int.{w32, cast_signed}
use Rattle.tz_bits.specs.Constants.{imm_of}

-- a number with its sign as a value, which has 32 bits
abbrev pub field_of : Bool → ℕ → Option ℤ
field_of negative n = if nat_lt n (2 ^ 31) then Some (if negative then neg_ℤ (pos n) else pos n) else None

-- a number that isn't below 0
abbrev pub whole_of : Bool → ℕ → Option ℕ
whole_of negative n = if negative && nat_lt 0 n then None else Some n

-- what twelve bits stand for is this constant
abbrev pub is_constant : ℕ → Option (ℕ × Bool) → Bool
is_constant n None = false
is_constant n (Some c) = c.0 == n

-- the least of so many numbers from k on that stand for a constant
unfoldable pub least_from : ℕ → ℕ → ℕ → Option ℕ
least_from n k zero = None
least_from n k (suc count) = if is_constant n (imm_of k false) then Some k else least_from n (k + 1) count

-- the least twelve bits that stand for a constant
unfoldable pub least_bits : ℕ → Option ℕ
least_bits n = least_from n 0 4096

-- the offset from an address to another one
abbrev pub offset_to : ℕ → ℕ → ℤ
offset_to base address = cast_signed w32 ((address + (2 ^ 32 - base)) % 2 ^ 32)

-- the same where the address is even, as that of an instruction is
abbrev pub even_offset : ℕ → ℕ → Option ℤ
even_offset base address = if address % 2 == 0 then Some (offset_to base address) else None

-- the bit that a letter behind `it` makes is 1: `t` (116) stands for bit 0 of the condition, another for its reverse
abbrev pub sets_bit : ℕ → ℕ → Bool
sets_bit condition letter = if to_ascii_lowercase letter == 116 then condition % 2 == 1 else condition % 2 == 0

-- the mask that letters make from a bit of this weight on: a bit for each, and a 1 behind them
unfoldable pub mask_from : ℕ → ℕ → List ℕ → ℕ
mask_from condition weight [] = weight
mask_from condition weight (letter ∷ letters) = (if sets_bit condition letter then weight else 0) + mask_from condition (weight / 2) letters
