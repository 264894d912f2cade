-- AddWithCarry of the manual: the sums are taken over unbounded numbers.
use Rattle.std.specs.Prelude.{ℕ, ◌+◌, ◌%◌, ◌^◌, Bool, not, ◌&&◌, nat_le, ℤ, pos, neg_ℤ, ◌+ℤ◌, int_le, int_lt}
use Rattle.std.specs.Int.{w32, cast_signed}
use Rattle.tz_bits.specs.Words.{of_bool}

-- the sum of both words and the carry, as numbers without a sign
abbrev pub unsigned_sum : ℕ → ℕ → Bool → ℕ
unsigned_sum x y carry = x + y + of_bool carry

-- the sum of both words as signed numbers, and the carry
abbrev pub signed_sum : ℕ → ℕ → Bool → ℤ
signed_sum x y carry = cast_signed w32 x +ℤ cast_signed w32 y +ℤ pos (of_bool carry)

-- a signed word holds z
abbrev pub is_signed_word : ℤ → Bool
is_signed_word z = int_le (neg_ℤ (pos 2147483648)) z && int_lt z (pos 2147483648)

-- the word that is left of the sum
abbrev pub sum_of : ℕ → ℕ → Bool → ℕ
sum_of x y carry = unsigned_sum x y carry % 2 ^ 32

-- the word isn't the unsigned sum
abbrev pub carry_out : ℕ → ℕ → Bool → Bool
carry_out x y carry = nat_le (2 ^ 32) (unsigned_sum x y carry)

-- the word isn't the signed sum
abbrev pub overflow_of : ℕ → ℕ → Bool → Bool
overflow_of x y carry = not (is_signed_word (signed_sum x y carry))
