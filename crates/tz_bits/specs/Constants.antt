-- T32ExpandImm_C of the manual: the constant that twelve bits stand for.
use Rattle.std.specs.Prelude.{ℕ, ◌+◌, ◌*◌, ◌/◌, ◌%◌, ◌^◌, Bool, ◌&&◌, ◌||◌, ◌==◌, nat_le, nat_lt, if◌then◌else◌, Option, Some, None}
use Rattle.tz_bits.specs.Words.{is_odd}
use Rattle.tz_bits.specs.Shifts.{rotated}

-- a byte, two copies of it at 0 and 16, at 8 and 24, four copies, or 1bbbbbbb rotated by bits 11:7
abbrev pub imm_value : ℕ → ℕ
imm_value n = let b = n % 256 in (if n / 256 == 0 then b else (if n / 256 == 1 then b * 65537 else (if n / 256 == 2 then b * 16777472 else (if n / 256 == 3 then b * 16843009 else rotated (128 + n % 128) (n / 128)))))

-- no constant: more than twelve bits, or copies of a byte that is 0 (UNPREDICTABLE)
abbrev pub imm_is_bad : ℕ → Bool
imm_is_bad n = nat_le 4096 n || ((n / 256 == 1 || n / 256 == 2 || n / 256 == 3) && (n % 256 == 0))

-- copies keep the carry, a rotation gives bit 31
abbrev pub imm_carry : ℕ → Bool → Bool
imm_carry n carry = if nat_lt n 1024 then carry else is_odd (imm_value n / 2 ^ 31)

-- the constant with its carry
abbrev pub imm_of : ℕ → Bool → Option (ℕ × Bool)
imm_of n carry = if imm_is_bad n then None else Some (imm_value n, imm_carry n carry)
