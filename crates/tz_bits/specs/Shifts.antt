-- LSL_C, LSR_C, ASR_C, ROR_C, RRX_C and Shift_C of the manual: a word, and the bit that goes out last.
use Rattle.std.specs.Prelude.{ℕ, ◌+◌, ◌-◌, ◌*◌, ◌/◌, ◌%◌, ◌^◌, Bool, ◌==◌, nat_lt, if◌then◌else◌}
use Rattle.tz_table.specs.declared.Shift.{Shift}
use Rattle.tz_table.specs.declared.Shift.TheVariants.{Lsl, Lsr, Asr, Ror, Rrx}
use Rattle.tz_bits.specs.Words.{of_bool, is_odd}

-- n zeros below the word: the low 32 bits, and bit 32
abbrev pub left : ℕ → ℕ → ℕ
left v n = v * 2 ^ n % 2 ^ 32

abbrev pub left_carry : ℕ → ℕ → Bool
left_carry v n = is_odd (v * 2 ^ n / 2 ^ 32)

-- zeros above the word: the bits from bit n on, and bit n - 1
abbrev pub right : ℕ → ℕ → ℕ
right v n = v / 2 ^ n

abbrev pub right_carry : ℕ → ℕ → Bool
right_carry v n = is_odd (v / 2 ^ (n - 1))

-- n copies of bit 31 above the word
abbrev pub signed_above : ℕ → ℕ → ℕ
signed_above v n = if nat_lt v (2 ^ 31) then v else (v + (2 ^ n - 1) * 2 ^ 32)

-- of these, the bits from bit n on, and bit n - 1
abbrev pub signed_right : ℕ → ℕ → ℕ
signed_right v n = signed_above v n / 2 ^ n

abbrev pub signed_right_carry : ℕ → ℕ → Bool
signed_right_carry v n = is_odd (signed_above v n / 2 ^ (n - 1))

-- the bits from bit n on, and those below it above them
abbrev pub rotated : ℕ → ℕ → ℕ
rotated v n = v / 2 ^ (n % 32) + v % 2 ^ (n % 32) * 2 ^ (32 - n % 32)

-- the word after a shift; RRX moves by one place and takes the carry in at bit 31
abbrev pub shifted : ℕ → Shift → ℕ → Bool → ℕ
shifted v Lsl n carry = left v n
shifted v Lsr n carry = right v n
shifted v Asr n carry = signed_right v n
shifted v Ror n carry = rotated v n
shifted v Rrx n carry = of_bool carry * 2 ^ 31 + v / 2

-- the carry after a shift by at least one place
abbrev pub carry_of : ℕ → Shift → ℕ → Bool
carry_of v Lsl n = left_carry v n
carry_of v Lsr n = right_carry v n
carry_of v Asr n = signed_right_carry v n
carry_of v Ror n = is_odd (rotated v n / 2 ^ 31)
carry_of v Rrx n = is_odd v

-- a shift by no place keeps the carry
abbrev pub carry_after : ℕ → Shift → ℕ → Bool → Bool
carry_after v kind n carry = if n == 0 then carry else carry_of v kind n
