-- The operations of data processing (DDI0553, chapter C2): what each makes of words, over unbounded
-- numbers. No instruction, register or core stands here.
use Rattle.std.specs.Prelude.{ℕ, ◌+◌, ◌-◌, ◌*◌, ◌/◌, ◌%◌, ◌^◌, ◌==◌, bit_and, bit_or, bit_xor, Bool, true, false, ◌||◌, if◌then◌else◌, ℤ, pos, neg_ℤ, ◌+ℤ◌, ◌-ℤ◌, ◌*ℤ◌, int_lt, int_div, unsigned_abs}
use Rattle.std.specs.Int.{w16, w32, w64, cast_signed, int_rem_euclid, swap_bytes, reverse_bits, leading_zeros}
use Rattle.tz_table.specs.Fields.{bits}
use Rattle.tz_table.specs.declared.instruction.DataOp.{DataOp}
use Rattle.tz_table.specs.declared.instruction.DataOp.TheVariants.{And, Bic, Orr, Orn, Eor, Add, Adc, Sbc, Sub, Rsb, Mov, Mvn, Tst, Teq, Cmn, Cmp}
use Rattle.tz_table.specs.declared.instruction.FieldOp.{FieldOp}
use Rattle.tz_table.specs.declared.instruction.FieldOp.TheVariants.{Sbfx, Ubfx, Bfi, Bfc}
use Rattle.tz_table.specs.declared.instruction.ExtendOp.{ExtendOp}
use Rattle.tz_table.specs.declared.instruction.ExtendOp.TheVariants.{Sxth, Sxtb, Uxth, Uxtb}
use Rattle.tz_table.specs.declared.instruction.ReverseOp.{ReverseOp}
use Rattle.tz_table.specs.declared.instruction.ReverseOp.TheVariants.{Rev, Rev16, Rbit, Revsh, Clz}
use Rattle.tz_table.specs.declared.instruction.MultiplyOp.{MultiplyOp}
use Rattle.tz_table.specs.declared.instruction.MultiplyOp.TheVariants.{Mul, Mla, Mls}
use Rattle.tz_table.specs.declared.instruction.LongOp.{LongOp}
use Rattle.tz_table.specs.declared.instruction.LongOp.TheVariants.{Smull, Umull, Smlal, Umlal}
use Rattle.tz_bits.specs.Sums.{sum_of, carry_out, overflow_of}
use Rattle.tz_bits.specs.Shifts.{rotated}
use Rattle.tz_bits.specs.Words.{sign_extended}
use Rattle.tz_sem.specs.declared.computed.Computed.{Computed}

-- all bits of a word turned round
abbrev pub inverse_of : ℕ → ℕ
inverse_of n = 2 ^ 32 - 1 - n

-- SInt of a word
abbrev pub signed_value : ℕ → ℤ
signed_value word = cast_signed w32 word

-- z<width-1:0>, of a number with a sign
abbrev pub low_bits : ℤ → ℕ → ℕ
low_bits z width = unsigned_abs (int_rem_euclid z (pos (2 ^ width)))

-- ---- logical operations and sums

-- a logical operation: C is the carry of the second operand's shift, V stays
abbrev pub logical : ℕ → Bool → Bool → Computed
logical value shifter_carry overflow = record { value = value; carry = shifter_carry; overflow = overflow }

-- AddWithCarry(x, y, carry)
abbrev pub added : ℕ → ℕ → Bool → Computed
added x y carry = record { value = sum_of x y carry; carry = carry_out x y carry; overflow = overflow_of x y carry }

-- an operation on the first operand and the shifted or expanded second, with that one's carry and the
-- flags C and V before
abbrev pub computed : DataOp → ℕ → ℕ → Bool → Bool → Bool → Computed
computed And x y shifter_carry carry overflow = logical (bit_and x y) shifter_carry overflow
computed Bic x y shifter_carry carry overflow = logical (bit_and x (inverse_of y)) shifter_carry overflow
computed Orr x y shifter_carry carry overflow = logical (bit_or x y) shifter_carry overflow
computed Orn x y shifter_carry carry overflow = logical (bit_or x (inverse_of y)) shifter_carry overflow
computed Eor x y shifter_carry carry overflow = logical (bit_xor x y) shifter_carry overflow
computed Mov x y shifter_carry carry overflow = logical y shifter_carry overflow
computed Mvn x y shifter_carry carry overflow = logical (inverse_of y) shifter_carry overflow
computed Tst x y shifter_carry carry overflow = logical (bit_and x y) shifter_carry overflow
computed Teq x y shifter_carry carry overflow = logical (bit_xor x y) shifter_carry overflow
computed Add x y shifter_carry carry overflow = added x y false
computed Adc x y shifter_carry carry overflow = added x y carry
computed Sbc x y shifter_carry carry overflow = added x (inverse_of y) carry
computed Sub x y shifter_carry carry overflow = added x (inverse_of y) true
computed Rsb x y shifter_carry carry overflow = added (inverse_of x) y true
computed Cmn x y shifter_carry carry overflow = added x y false
computed Cmp x y shifter_carry carry overflow = added x (inverse_of y) true

-- ---- products and quotients

-- the low word of a product, with or without an addend
abbrev pub multiplied : MultiplyOp → ℕ → ℕ → ℕ → ℕ
multiplied Mul x y a = x * y % 2 ^ 32
multiplied Mla x y a = (a + x * y) % 2 ^ 32
multiplied Mls x y a = low_bits (pos a -ℤ pos (x * y)) 32

-- a product of words, with or without the addend hi:lo
abbrev pub long_product : LongOp → ℕ → ℕ → ℕ → ℕ → ℤ
long_product Smull x y lo hi = signed_value x *ℤ signed_value y
long_product Umull x y lo hi = pos (x * y)
long_product Smlal x y lo hi = signed_value x *ℤ signed_value y +ℤ cast_signed w64 (hi * 2 ^ 32 + lo)
long_product Umlal x y lo hi = pos (x * y + (hi * 2 ^ 32 + lo))

-- z<31:0> and z<63:32>
abbrev pub word_pair : ℤ → ℕ × ℕ
word_pair z = (bits (low_bits z 64) 0 32, bits (low_bits z 64) 32 32)

abbrev pub multiplied_long : LongOp → ℕ → ℕ → ℕ → ℕ → ℕ × ℕ
multiplied_long op x y lo hi = word_pair (long_product op x y lo hi)

-- the quotient rounded towards zero
abbrev pub quotient : Bool → ℕ → ℕ → ℕ
quotient true x y = low_bits (int_div (signed_value x) (signed_value y)) 32
quotient false x y = x / y

-- a division by 0 gives 0
abbrev pub divided : Bool → ℕ → ℕ → ℕ
divided is_signed x y = if y == 0 then 0 else quotient is_signed x y

-- ---- saturation

-- a number, or the bound that it passes, as a word; and whether it passes one
abbrev pub held_between : ℤ → ℤ → ℤ → ℕ × Bool
held_between lowest highest z = (
  low_bits (if int_lt highest z then highest else if int_lt z lowest then lowest else z) 32,
  int_lt highest z || int_lt z lowest,
)

-- SignedSatQ and UnsignedSatQ of a word's signed number
abbrev pub saturated : Bool → ℕ → ℕ → ℕ × Bool
saturated true value width = held_between (neg_ℤ (pos (2 ^ (width - 1)))) (pos (2 ^ (width - 1) - 1)) (signed_value value)
saturated false value width = held_between (pos 0) (pos (2 ^ width - 1)) (signed_value value)

-- ---- bit fields

-- old<31:low+width> : field<width-1:0> : old<low-1:0>
abbrev pub field_placed : ℕ → ℕ → ℕ → ℕ → ℕ
field_placed old field low width = old / 2 ^ (low + width) * 2 ^ (low + width) + field % 2 ^ width * 2 ^ low + old % 2 ^ low

abbrev pub field_result : FieldOp → ℕ → ℕ → ℕ → ℕ → ℕ
field_result Sbfx old source low width = sign_extended (bits source low width) width
field_result Ubfx old source low width = bits source low width
field_result Bfi old source low width = field_placed old source low width
field_result Bfc old source low width = field_placed old 0 low width

-- ---- extensions and reversals

-- SignExtend or ZeroExtend of the low halfword or byte, after a rotation
abbrev pub extended : ExtendOp → ℕ → ℕ → ℕ
extended Sxth value rotation = sign_extended (rotated value rotation) 16
extended Sxtb value rotation = sign_extended (rotated value rotation) 8
extended Uxth value rotation = bits (rotated value rotation) 0 16
extended Uxtb value rotation = bits (rotated value rotation) 0 8

-- bytes turned round in the word, in each halfword or in the low one, bits turned round, and a count
-- of the zeros above the highest one
abbrev pub reversed : ReverseOp → ℕ → ℕ
reversed Rev value = swap_bytes w32 value
reversed Rev16 value = swap_bytes w16 (bits value 16 16) * 2 ^ 16 + swap_bytes w16 (bits value 0 16)
reversed Rbit value = reverse_bits w32 value
reversed Revsh value = sign_extended (swap_bytes w16 (bits value 0 16)) 16
reversed Clz value = leading_zeros w32 value
