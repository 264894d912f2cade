-- The values of labels, and of `.byte`, `.half` and `.word`.
use Rattle.std.specs.Prelude.{ℕ, zero, suc, ◌+◌, ◌-◌, ◌/◌, ◌%◌, ◌^◌, nat_le, nat_lt, not, if◌then◌else◌, List, [], ◌∷◌, Option, Some, None, option_and_then, Result, Ok, Err}
use Rattle.tz_asm.specs.Layouts.{size_bytes}
use Rattle.tz_asm.specs.Places.{Places, value_named}
use Rattle.tz_asm.specs.Refusals.{Refusal, NoLabel, Range}
use Rattle.tz_asm.specs.declared.values.Value.{Value}
use Rattle.tz_asm.specs.Operands.{ExpressionValue, Constant, Label}
use Rattle.tz_asm.specs.declared.source.number.Signed.{Signed}
use Rattle.tz_table.specs.declared.units.Size.{Size}
use Rattle.tz_table.specs.declared.units.Size.TheVariants.{Byte, Half, Word}

-- the same sign and a greater size; a size has 64 bits, and no source has lines enough for more
abbrev pub raised : ℕ → Value → Option Value
raised size value =
    if nat_lt (value.size + size) (2 ^ 64) then Some (record { negative = value.negative; size = value.size + size }) else None

-- a smaller size, or the other sign
abbrev pub lowered : ℕ → Value → Value
lowered size value =
    if nat_le size value.size
    then record { negative = value.negative; size = value.size - size }
    else record { negative = not value.negative; size = size - value.size }

-- a value, and what is added to it: a sum isn't taken modulo anything, and a difference may be negative
unfoldable pub moved : Signed → Value → Option Value
moved offset value =
    if offset.negative then (if value.negative then raised offset.size value else Some (lowered offset.size value))
    else if value.negative then Some (lowered offset.size value)
    else raised offset.size value

-- the value of an expression, where its label has one
unfoldable pub value_of : Places → ExpressionValue → Option Value
value_of places (Constant number) = Some (record { negative = number.negative; size = number.size })
value_of places (Label name offset) = option_and_then (moved offset) (value_named places name)

-- how many numbers the bytes of a size can be
abbrev pub modulus : Size → ℕ
modulus Byte = 0x100
modulus Half = 0x1_0000
modulus Word = 0x1_0000_0000

-- a value as the number that its bytes are: from minus one half of all numbers to the last one
unfoldable pub in_size : Size → Value → Option ℕ
in_size size value =
    if value.negative then
    (if nat_le value.size (modulus size / 2) then Some ((modulus size - value.size) % modulus size) else None)
    else if nat_lt value.size (modulus size) then Some value.size
    else None

-- so many bytes of a number, the lowest first
unfoldable pub low_first : ℕ → ℕ → List ℕ
low_first zero number = []
low_first (suc count) number = number % 256 ∷ low_first count (number / 256)

-- the bytes of a number that may be out of range
abbrev pub number_bytes : ℕ → Size → Option ℕ → Result (List ℕ) Refusal
number_bytes line size None = Err (Range line)
number_bytes line size (Some number) = Ok (low_first (size_bytes size) number)

-- the bytes of a value that may lack its label
abbrev pub value_bytes : ℕ → Size → Option Value → Result (List ℕ) Refusal
value_bytes line size None = Err (NoLabel line)
value_bytes line size (Some value) = number_bytes line size (in_size size value)

-- the bytes of an expression
unfoldable pub data_bytes : ℕ → Places → Size → ExpressionValue → Result (List ℕ) Refusal
data_bytes line places size expression = value_bytes line size (value_of places expression)
