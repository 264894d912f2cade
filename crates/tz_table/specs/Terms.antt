-- What the fields of a code stand for.
use Rattle.std.specs.Prelude.{ℕ, ◌+◌, ◌-◌, ◌*◌, ◌%◌, ◌^◌, Bool, ◌&&◌, ◌==◌, nat_lt, ℤ, pos, neg_ℤ, if◌then◌else◌}
use Rattle.tz_table.specs.Fields.{bits}
use Rattle.tz_table.specs.declared.instruction.Flags.{Flags}
use Rattle.tz_table.specs.declared.instruction.Flags.TheVariants as flags
use Rattle.tz_table.specs.declared.units.Shift.{Shift}
use Rattle.tz_table.specs.declared.units.Shift.TheVariants as shifts
use Rattle.tz_table.specs.declared.units.Size.{Size}
use Rattle.tz_table.specs.declared.units.Size.TheVariants as sizes
use Rattle.tz_table.specs.declared.instruction.Address.{Address}
use Rattle.tz_table.specs.declared.instruction.Address.TheVariants as addresses

abbrev pub is_one : ℕ → Bool
is_one n = n == 1

-- the bit S of a wide data instruction
abbrev pub flags_of : ℕ → Flags
flags_of n = if n == 1 then flags.Always else flags.Never

-- the four kinds of shift
abbrev pub shift_of : ℕ → Shift
shift_of n = if n == 0 then shifts.Lsl else (if n == 1 then shifts.Lsr else (if n == 2 then shifts.Asr else shifts.Ror))

-- kind and amount of DecodeImmShift: a right shift by 0 is by 32, a rotation by 0 is RRX by 1
abbrev pub imm_shift_of : ℕ → ℕ → Shift
imm_shift_of kind n = if kind == 3 && n == 0 then shifts.Rrx else shift_of kind

abbrev pub imm_amount_of : ℕ → ℕ → ℕ
imm_amount_of kind n = if n == 0 then (if kind == 0 then 0 else (if kind == 3 then 1 else 32)) else n

abbrev pub size_of : ℕ → Size
size_of n = if n == 0 then sizes.Byte else (if n == 1 then sizes.Half else sizes.Word)

-- numbers from half on stand for those from minus half on: the highest bit is a sign
abbrev pub signed_by : ℕ → ℕ → ℤ
signed_by half n = if nat_lt n half then pos n else neg_ℤ (pos (2 * half - n))

-- the bit U: plus or minus
abbrev pub plus_or_minus : ℕ → ℕ → ℤ
plus_or_minus u n = if u == 1 then pos n else neg_ℤ (pos n)

-- i:iii:i8 and iii:ii of wide data instructions
abbrev pub imm12_of : ℕ → ℕ → ℕ
imm12_of f s = bits f 10 1 * 2048 + bits s 12 3 * 256 + bits s 0 8

abbrev pub imm5_of : ℕ → ℕ
imm5_of s = bits s 12 3 * 4 + bits s 6 2

-- the register of which a narrow code has the highest bit apart
abbrev pub high_register : ℕ → ℕ
high_register f = bits f 7 1 * 8 + bits f 0 3

-- the bits P and W: offset, pre-indexed or post-indexed
abbrev pub indexed : ℕ → ℕ → ℕ → ℤ → Address
indexed p w rn offset = if w == 1 then (if p == 1 then addresses.Pre rn offset else addresses.Post rn offset) else addresses.Offset rn offset

-- 25 bits: the sign, J and K, each inverted where the sign is 0, ten bits, eleven bits, and a 0
abbrev pub far_by : (s j k h i : ℕ) → ℕ
far_by s j k h i = s * 2 ^ 24 + (1 - (j + s) % 2) * 2 ^ 23 + (1 - (k + s) % 2) * 2 ^ 22 + h * 2 ^ 12 + i * 2

-- that of a wide B or BL
abbrev pub far_offset : ℕ → ℕ → ℕ
far_offset f s = far_by (bits f 10 1) (bits s 13 1) (bits s 11 1) (bits f 0 10) (bits s 0 11)

-- S:K:J:i6:i11:0, 21 bits
abbrev pub condition_offset : ℕ → ℕ → ℕ
condition_offset f s = bits f 10 1 * 2 ^ 20 + bits s 11 1 * 2 ^ 19 + bits s 13 1 * 2 ^ 18 + bits f 0 6 * 2 ^ 12 + bits s 0 11 * 2
