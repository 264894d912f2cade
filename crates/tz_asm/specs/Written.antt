-- The bytes of statements.
use Rattle.std.specs.Prelude.{◌≡◌, ℕ, ◌^◌, ◌==◌, nat_lt, Bool, not, ◌&&◌, if◌then◌else◌, List, [], ◌∷◌, ◌++◌, replicate, Option, Some, None, option_and_then, unwrap_or, Result, Ok, Err}
use Rattle.tz_asm.specs.Layouts.{padding}
use Rattle.tz_asm.specs.Places.{Places, value_named}
use Rattle.tz_asm.specs.Refusals.{Refusal, NoLabel, Range}
use Rattle.tz_asm.specs.Values.{data_bytes, low_first}
use Rattle.tz_asm.specs.Statements.{StatementValue, Nothing, Org, Align, Data, Equ, Space, Text, Instruction}
use Rattle.tz_asm.specs.Coded.{Coded}
use Rattle.tz_asm.specs.declared.values.Value.{Value}
use Rattle.tz_asm.specs.declared.code.uncoded.Uncoded.{Uncoded}
use Rattle.tz_asm.specs.declared.code.uncoded.Uncoded.TheVariants as causes
use Rattle.tz_table.specs.declared.units.Code.{Code}
use Rattle.tz_table.specs.declared.units.Width.{Width}
use Rattle.tz_table.specs.declared.units.Width.TheVariants.{Narrow, Wide}
use Rattle.tz_syntax.specs.Tokens.{TokenValue, Word, Number, Mark}

-- the word that a token is
abbrev pub word_of : TokenValue → Option (List ℕ)
word_of (Word word) = Some word
word_of (Number number) = None
word_of (Mark mark) = None

-- the word that the last token is
unfoldable pub last_word : List TokenValue → Option (List ℕ)
last_word [] = None
last_word (token ∷ []) = word_of token
last_word (token ∷ next ∷ more) = last_word (next ∷ more)

-- the value of the label that the last operand may be
abbrev pub label_value : Places → List TokenValue → Option Value
label_value places operands = option_and_then (value_named places) (last_word operands)

-- a value that is an address: a place behind the last byte may be none, and the value of an `.equ` any number
abbrev pub as_address : Option Value → Option ℕ
as_address None = None
as_address (Some value) =
    if value.negative && not (value.size == 0) then None
    else if nat_lt value.size (2 ^ 32) then Some value.size
    else None

-- the bytes of a code of a width: halfword by halfword, each the low byte first
abbrev pub code_bytes : Width → Code → List ℕ
code_bytes Narrow code = low_first 2 code.first
code_bytes Wide code = low_first 2 code.first ++ low_first 2 (unwrap_or code.second 0)

-- why an instruction has no code. A label with a value that is no address is out of range
abbrev pub uncoded : ℕ → Option Value → Uncoded → Refusal
uncoded line label causes.Range = Range line
uncoded line None causes.NoLabel = NoLabel line
uncoded line (Some value) causes.NoLabel = Range line

abbrev pub coded_bytes : ℕ → Option Value → Width → Result Code Uncoded → Result (List ℕ) Refusal
coded_bytes line label width (Ok code) = Ok (code_bytes width code)
coded_bytes line label width (Err cause) = Err (uncoded line label cause)

-- what an instruction at a place gives
unfoldable pub InstructionWrites : ℕ → Places → ℕ → Width → List ℕ → List TokenValue → Result (List ℕ) Refusal → Type 0
InstructionWrites line places place width mnemonic operands answer =
    (coded : Result Code Uncoded)
    × (Coded mnemonic operands place (as_address (label_value places operands)) coded
    × (answer ≡ coded_bytes line (label_value places operands) width coded))

-- what an `.equ` gives whose label got this value: no bytes, and where it got none, the label in its value is missing
abbrev pub equ_bytes : ℕ → Option Value → Result (List ℕ) Refusal
equ_bytes line None = Err (NoLabel line)
equ_bytes line (Some value) = Ok []

-- the bytes of a text, and the zero byte that it may end with
abbrev pub text_bytes : List ℕ → Bool → List ℕ
text_bytes bytes ends = if ends then bytes ++ 0 ∷ [] else bytes

-- what a statement at a place gives
unfoldable pub Writes : ℕ → Places → ℕ → StatementValue → Result (List ℕ) Refusal → Type 0
Writes line places place Nothing answer = answer ≡ Ok []
Writes line places place (Org number) answer = answer ≡ Ok []
Writes line places place (Align multiple) answer = answer ≡ Ok (replicate (padding multiple place) 0)
Writes line places place (Data size expression) answer = answer ≡ data_bytes line places size expression
Writes line places place (Equ name value) answer = answer ≡ equ_bytes line (value_named places name)
Writes line places place (Space count) answer = answer ≡ Ok (replicate count 0)
Writes line places place (Text bytes ends) answer = answer ≡ Ok (text_bytes bytes ends)
Writes line places place (Instruction width mnemonic operands) answer =
    InstructionWrites line places place width mnemonic operands answer
