-- What operands of directives say.
use Rattle.std.specs.Prelude.{ℕ, ◌==◌, Bool, true, false, not, ◌&&◌, if◌then◌else◌, List, [], ◌∷◌, Option, Some, None, option_map}
use Rattle.std.specs.Int.{is_power_of_two}
use Rattle.tz_asm.specs.CodedOperands.{is_label}
use Rattle.tz_asm.specs.declared.source.number.Signed.{Signed}
use Rattle.tz_syntax.specs.Tokens.{TokenValue, Word, Number, Mark}

-- a number, or the place of a label and what is added to it
pub data ExpressionValue : Type 0 where
  Constant : (number : Signed) → ExpressionValue
  Label : (name : List ℕ) (offset : Signed) → ExpressionValue

-- a number with a sign
abbrev pub with_sign : Bool → Option ℕ → Option Signed
with_sign negative None = None
with_sign negative (Some size) = Some (record { negative = negative; size = size })

-- one number alone
unfoldable pub only_number : List TokenValue → Option ℕ
only_number (Number size ∷ []) = Some size
only_number _ = None

-- one number, which a `-` (45) makes negative
unfoldable pub number_of : List TokenValue → Option Signed
number_of [] = None
number_of (Word word ∷ more) = None
number_of (Number size ∷ more) = with_sign false (only_number (Number size ∷ more))
number_of (Mark mark ∷ more) = if mark == 45 then with_sign true (only_number more) else None

-- what is added to a label: nothing, or a number behind `+` (43) or `-` (45)
unfoldable pub offset_of : List TokenValue → Option Signed
offset_of [] = with_sign false (Some 0)
offset_of (Mark mark ∷ more) =
    if mark == 43 then with_sign false (only_number more)
    else if mark == 45 then with_sign true (only_number more)
    else None
offset_of _ = None

-- a power of two
abbrev pub alignment : Option Signed → Option ℕ
alignment None = None
alignment (Some number) = if not number.negative && is_power_of_two number.size then Some number.size else None

-- a number that has no `-`
abbrev pub unsigned : Option Signed → Option ℕ
unsigned None = None
unsigned (Some number) = if number.negative then None else Some number.size

-- a label and what is added to it
unfoldable pub labelled_value : List ℕ → List TokenValue → Option ExpressionValue
labelled_value name more = if is_label name then option_map (Label name) (offset_of more) else None

-- a value: a number, or a label, to which a number may be added
unfoldable pub expression_of : List TokenValue → Option ExpressionValue
expression_of (Word name ∷ more) = labelled_value name more
expression_of tokens = option_map Constant (number_of tokens)
