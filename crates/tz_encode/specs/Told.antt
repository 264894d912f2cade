-- The code of an instruction with some values, as a function: the codes are gone through in their order.
use Rattle.std.specs.Prelude.{ℕ, zero, suc, ◌+◌, ◌/◌, ◌%◌, ◌^◌, nat_lt, Bool, true, false, ◌&&◌, if◌then◌else◌, List, [], ◌∷◌, Option, Some, None, option_map, ℤ}
use Rattle.std.specs.Cmp.Lexicographic.{pointwise}
use Rattle.std.specs.Option.{option_or}
use Rattle.std.specs.Ordering.{int_eq}
use Rattle.tz_encode.specs.Encoded.{code_of}
use Rattle.tz_bits.specs.Values.{values_of}
use Rattle.tz_encode.specs.Codes.{seconds}
use Rattle.tz_table.specs.Rows.{TableRow, holds, same_width}
use Rattle.tz_table.specs.Table.{rows}
use Rattle.tz_table.specs.declared.units.Code.{Code}
use Rattle.tz_table.specs.declared.units.Width.{Width}

-- the first of so many numbers from k on for which a test holds
unfoldable pub first_from : (ℕ → Bool) → ℕ → ℕ → Option ℕ
first_from test k zero = None
first_from test k (suc n) = if test k then Some k else first_from test (k + 1) n

-- the two halfwords of a number of 32 bits
abbrev pub halves : ℕ → ℕ × ℕ
halves n = (n / 65536, n % 65536)

-- two halfwords are a code of the row that means an instruction with these values
abbrev pub is_code : TableRow → List ℤ → ℕ → ℕ → Bool
is_code r e f s = nat_lt s (seconds r.width) && (holds r f s && pointwise int_eq (values_of (r.insn f s)) e)

-- the least code of a row, by the first halfword and then by the second
unfoldable pub least_code : TableRow → List ℤ → Option (ℕ × ℕ)
least_code r e = option_map halves (first_from (λ n. is_code r e (n / 65536) (n % 65536)) 0 (2 ^ 32))

abbrev pub code_where : Bool → TableRow → List ℤ → Option (ℕ × ℕ)
code_where false r e = None
code_where true r e = least_code r e

-- that of the first row of a width which has one
unfoldable pub first_code : List TableRow → Width → List ℤ → Option (ℕ × ℕ)
first_code [] w e = None
first_code (r ∷ rs) w e = option_or (code_where (same_width r.width w) r e) (first_code rs w e)

-- as a code of the width
unfoldable pub code_with : Width → List ℤ → Option Code
code_with w e = option_map (code_of w) (first_code rows w e)
