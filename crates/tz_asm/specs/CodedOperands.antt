-- Operands as they are written: the value of each, and the tokens behind it. Of an operand that has its shape but
-- a value that no instruction has, as a constant that is too large, the value is none.
use Rattle.std.specs.Prelude.{ℕ, ◌+◌, ◌^◌, ◌==◌, nat_lt, Bool, true, false, not, ◌&&◌, if◌then◌else◌, List, [], ◌∷◌, codes, Option, Some, None, option_map, option_and_then, is_some, ℤ, pos}
use Rattle.std.specs.List.{list_any}
use Rattle.tz_syntax.specs.Tokens.{TokenValue}
use Rattle.tz_syntax.specs.Tokens as values
use Rattle.tz_asm.specs.Bits.{field_of, least_bits, whole_of}
use Rattle.tz_asm.specs.Front.{◌>>=◌, mark_at, some_mark_at, word_at, signed_at, constant_at}
use Rattle.tz_syntax.specs.Spelling.{register_of, shift_of, spells}

-- an operand's value, and the tokens behind it
abbrev pub OperandRead : Type 0
OperandRead = Option ℤ × List TokenValue

-- what a word names by its number
abbrev pub named_operand : Option ℕ → List TokenValue → Option OperandRead
named_operand None more = None
named_operand (Some n) more = Some (Some (pos n), more)

-- a name of a kind
abbrev pub name_at : (List ℕ → Option ℕ) → List TokenValue → Option OperandRead
name_at numbers tokens = do
  word ← word_at tokens
  named_operand (numbers word.0) word.1

-- a constant or an offset
unfoldable pub number_operand : List TokenValue → Option OperandRead
number_operand tokens = do
  constant ← constant_at tokens
  Some (field_of constant.0 constant.1, constant.2)

-- the least twelve bits that stand for a number with its sign
abbrev pub expanded_value : Bool → ℕ → Option ℤ
expanded_value negative n = option_map pos (option_and_then least_bits (whole_of negative n))

-- a constant that twelve bits stand for: its value is the least that do
unfoldable pub expanded_operand : List TokenValue → Option OperandRead
expanded_operand tokens = do
  constant ← constant_at tokens
  Some (expanded_value constant.0 constant.1, constant.2)

-- ---- shifts

-- the kind of a shift, its amount, and the tokens behind it
abbrev pub ShiftRead : Type 0
ShiftRead = ℕ × Option ℤ × List TokenValue

-- a shift of a kind with its amount
abbrev pub shift_by : ℕ → List TokenValue → Option ShiftRead
shift_by kind tokens = do
  amount ← number_operand tokens
  Some (kind, amount.0, amount.1)

abbrev pub shift_of_kind : Option ℕ → List TokenValue → Option ShiftRead
shift_of_kind None tokens = None
shift_of_kind (Some kind) tokens = shift_by kind tokens

-- a shift by its name; the amount of `rrx` is 1
unfoldable pub shift_named : List ℕ → List TokenValue → Option ShiftRead
shift_named word tokens = if spells word (codes "rrx") then Some (4, Some (pos 1), tokens) else shift_of_kind (shift_of word) tokens

unfoldable pub shift_at : List TokenValue → Option ShiftRead
shift_at tokens = do
  word ← word_at tokens
  shift_named word.0 word.1

-- behind a comma, where there is one; else the shift is left out, which is one to the left by 0
abbrev pub shift_behind : Option (List TokenValue) → List TokenValue → Option ShiftRead
shift_behind None tokens = Some (0, Some (pos 0), tokens)
shift_behind (Some more) tokens = shift_at more

-- a shift behind a comma (44), or none
unfoldable pub shift_operand : List TokenValue → Option ShiftRead
shift_operand tokens = shift_behind (mark_at 44 tokens) tokens

-- the amount of a shift of one kind
abbrev pub amount_of : ℕ → Option ShiftRead → Option OperandRead
amount_of kind None = None
amount_of kind (Some shift) = if shift.0 == kind then Some (shift.1, shift.2) else None

abbrev pub amount_behind : ℕ → Option (List TokenValue) → List TokenValue → Option OperandRead
amount_behind kind None tokens = Some (Some (pos 0), tokens)
amount_behind kind (Some more) tokens = amount_of kind (shift_at more)

-- the amount of a shift of one kind behind a comma, or 0 where there is no comma
unfoldable pub amount_operand : ℕ → List TokenValue → Option OperandRead
amount_operand kind tokens = amount_behind kind (mark_at 44 tokens) tokens

-- the amount of a shift to the left behind a comma, which isn't left out
unfoldable pub written_amount : List TokenValue → Option OperandRead
written_amount tokens = do
  more ← mark_at 44 tokens
  amount_of 0 (shift_at more)

-- ---- lists of registers

-- a list with one register more, where the registers ascend
abbrev pub with_register : ℕ → Option ℕ → Option ℕ
with_register k None = None
with_register k (Some list) = if nat_lt list (2 ^ k) then Some (list + 2 ^ k) else None

-- a register, the mark behind it, and the tokens behind that
abbrev pub entry_at : List TokenValue → Option (ℕ × ℕ × List TokenValue)
entry_at tokens = do
  word ← word_at tokens
  register ← register_of word.0
  mark ← some_mark_at word.1
  Some (register, mark.0, mark.1)

-- behind some registers of a list: another one, and then a comma (44) and the rest, or the brace (125)
unfoldable pub list_behind : Option ℕ → List TokenValue → Option OperandRead
list_behind list [] = None
list_behind list (values.Word word ∷ []) = None
list_behind list (values.Word word ∷ values.Word second ∷ more) = None
list_behind list (values.Word word ∷ values.Number n ∷ more) = None
list_behind list (values.Word word ∷ values.Mark byte ∷ more) =
    register_of word >>= λ k.
    if byte == 125 then Some (option_map pos (with_register k list), more) else
    if byte == 44 then list_behind (with_register k list) more else None
list_behind list (values.Number n ∷ more) = None
list_behind list (values.Mark byte ∷ more) = None

-- a list between braces, of which the first is byte 123
unfoldable pub list_operand : List TokenValue → Option OperandRead
list_operand tokens = do
  more ← mark_at 123 tokens
  list_behind (Some 0) more

-- ---- the rest

-- which masks a change of state names
unfoldable pub masks_of : List ℕ → Option (ℕ × ℕ)
masks_of word =
    if spells word (codes "i") then Some (1, 0) else
    if spells word (codes "f") then Some (0, 1) else
    if spells word (codes "if") then Some (1, 1) else None

-- where a target leads, whether a label says so, and the tokens behind it
abbrev pub TargetRead : Type 0
TargetRead = Option ℕ × Bool × List TokenValue

-- a word may be a label: it has no `.` (46) and is no register
unfoldable pub is_label : List ℕ → Bool
is_label word = not (list_any (λ b. b == 46) word) && not (is_some (register_of word))

-- a label, whose value is given
abbrev pub label_named : ℕ → List ℕ → List TokenValue → Option TargetRead
label_named label word more = if is_label word then Some (Some label, true, more) else None

unfoldable pub label_at : ℕ → List TokenValue → Option TargetRead
label_at label tokens = do
  word ← word_at tokens
  label_named label word.0 word.1

-- where there is no word: a number
abbrev pub target_by : Option (List ℕ × List TokenValue) → ℕ → List TokenValue → Option TargetRead
target_by None label tokens = do
  number ← signed_at tokens
  Some (whole_of number.0 number.1, false, number.2)
target_by (Some word) label tokens = label_named label word.0 word.1

-- a label or a number
unfoldable pub target_at : ℕ → List TokenValue → Option TargetRead
target_at label tokens = target_by (word_at tokens) label tokens
