-- Bytes of numbers and statements.
use Rattle.std.proofs.Common.{◌≡◌, ◌∙◌, ◌/◌, ℕ, zero, suc, refl, sym, ap, arith, Bool, true, false, List, [], ◌∷◌, ◌++◌, length, Option, Some, None, unwrap_or, Result, Ok, Err}
use Rattle.std.specs.Prelude.{take}
use Rattle.std.specs.Int.{bytes_low_first}
use Rattle.std.proofs.lemmas.List.{length-append, map-append}
use Rattle.tz_asm.specs.Layouts.{size_bytes, text_count, width_bytes}
use Rattle.tz_asm.specs.Places.{Places}
use Rattle.tz_asm.specs.Refusals.{Refusal}
use Rattle.tz_asm.specs.Values.{data_bytes, in_size, low_first, number_bytes, value_bytes, value_of}
use Rattle.tz_asm.specs.Written.{InstructionWrites, as_address, code_bytes, coded_bytes, label_value, last_word, text_bytes, word_of}
use Rattle.tz_asm.specs.declared.values.Value.{Value}
use Rattle.tz_asm.specs.Operands.{ExpressionValue}
use Rattle.tz_asm.specs.Views.{views}
use Rattle.tz_asm.specs.Coded.{Coded}
use Rattle.tz_asm.specs.declared.code.uncoded.Uncoded.{Uncoded}
use Rattle.tz_table.specs.declared.units.Code.{Code}
use Rattle.tz_table.specs.declared.units.Size.{Size}
use Rattle.tz_table.specs.declared.units.Size.TheVariants.{Byte, Half, Word}
use Rattle.tz_table.specs.declared.units.Width.{Width}
use Rattle.tz_table.specs.declared.units.Width.TheVariants.{Narrow, Wide}
use Rattle.tz_syntax.specs.Tokens.{TokenValue}
use Rattle.tz_syntax.specs.Views.{token_view}
use Rattle.tz_syntax.specs.declared.token.Token.{Token}

pub length-low_first : (count number : ℕ) → length (low_first count number) ≡ count
unfolding low_first
length-low_first zero number = refl
length-low_first (suc count) number = ap suc (length-low_first count (number / 256))

-- four bytes of a number, each by its place
four_bytes : (number : ℕ) → low_first 4 number ≡ bytes_low_first 0 4 number
unfolding low_first
four_bytes number =
    let third : number / 256 / 256 ≡ number / 65536 = omega arith in
    let fourth : number / 256 / 256 / 256 ≡ number / 16777216 = omega arith in
    rw fourth (rw third refl)

-- the bytes of a size are the first of eight
pub first_bytes : (size : Size) (number : ℕ) (rest : List ℕ) → take (size_bytes size) (bytes_low_first 0 8 number ++ rest) ≡ low_first (size_bytes size) number
unfolding low_first
first_bytes Byte number rest = refl
first_bytes Half number rest = refl
first_bytes Word number rest = sym (four_bytes number)

last_word-push : (tokens : List TokenValue) (token : TokenValue) → last_word (tokens ++ token ∷ []) ≡ word_of token
unfolding last_word
last_word-push [] token = refl
last_word-push (t ∷ []) token = refl
last_word-push (t ∷ u ∷ more) token = last_word-push (u ∷ more) token

-- the last of several tokens
pub last_word-last : (tokens rest : List Token) (token : Token) → tokens ≡ rest ++ token ∷ [] → last_word (views tokens) ≡ word_of (token_view token)
last_word-last tokens rest token at =
    ap (λ (ts : List Token). last_word (views ts)) at ∙ ap last_word (map-append token_view rest (token ∷ [])) ∙ last_word-push (views rest) (token_view token)

pub last_word-none : (tokens : List Token) → length tokens ≡ 0 → last_word (views tokens) ≡ None
unfolding last_word
last_word-none [] none = refl
last_word-none (t ∷ tokens) none = absurd (omega arith)

-- how many bytes a value has
number_bytes-length : (line : ℕ) (size : Size) (number : Option ℕ) (bytes : List ℕ) → number_bytes line size number ≡ Ok bytes → length bytes ≡ size_bytes size
number_bytes-length line size None bytes is = absurd cc
number_bytes-length line size (Some number) bytes is =
    let same : low_first (size_bytes size) number ≡ bytes = cc in
    ap length (sym same) ∙ length-low_first (size_bytes size) number

value_bytes-length : (line : ℕ) (size : Size) (value : Option Value) (bytes : List ℕ) → value_bytes line size value ≡ Ok bytes → length bytes ≡ size_bytes size
value_bytes-length line size None bytes is = absurd cc
value_bytes-length line size (Some value) bytes is = number_bytes-length line size (in_size size value) bytes is

pub data_bytes-length : (line : ℕ) (places : Places) (size : Size) (e : ExpressionValue) (bytes : List ℕ) → data_bytes line places size e ≡ Ok bytes
    → length bytes ≡ size_bytes size
unfolding data_bytes
data_bytes-length line places size e bytes is = value_bytes-length line size (value_of places e) bytes is

-- and a text
pub text_bytes-length : (bytes : List ℕ) (ends : Bool) → length (text_bytes bytes ends) ≡ text_count (length bytes) ends
text_bytes-length bytes true = length-append bytes (0 ∷ [])
text_bytes-length bytes false = refl

-- how many bytes a code has
pub code_bytes-length : (width : Width) (code : Code) → length (code_bytes width code) ≡ width_bytes width
code_bytes-length Narrow code = length-low_first 2 code.first
code_bytes-length Wide code =
    let both = length-append (low_first 2 code.first) (low_first 2 (unwrap_or code.second 0)) in
    let first = length-low_first 2 code.first in
    let second = length-low_first 2 (unwrap_or code.second 0) in
    omega (arith, both, first, second)

coded_bytes-length : (line : ℕ) (label : Option Value) (width : Width) (coded : Result Code Uncoded) (bytes : List ℕ) → Ok bytes ≡ coded_bytes line label width coded
    → length bytes ≡ width_bytes width
coded_bytes-length line label width (Ok code) bytes is =
    let same : bytes ≡ code_bytes width code = cc in
    ap length same ∙ code_bytes-length width code
coded_bytes-length line label width (Err cause) bytes is = absurd cc

pub InstructionWrites-length : (line : ℕ) (places : Places) (place : ℕ) (width : Width) (mnemonic : List ℕ) (operands : List TokenValue) (bytes : List ℕ)
    → InstructionWrites line places place width mnemonic operands (Ok bytes) → length bytes ≡ width_bytes width
unfolding InstructionWrites
InstructionWrites-length line places place width mnemonic operands bytes (coded, (is, same)) =
    coded_bytes-length line (label_value places operands) width coded bytes same

-- what an instruction writes, from the code that it has or why it has none
pub coded_writes : (line : ℕ) (places : Places) (place : ℕ) (width : Width) (mnemonic : List ℕ) (operands : List TokenValue) (label : Option Value)
    (coded : Result Code Uncoded) (answer : Result (List ℕ) Refusal) → label_value places operands ≡ label → Coded mnemonic operands place (as_address label) coded
    → answer ≡ coded_bytes line label width coded → InstructionWrites line places place width mnemonic operands answer
unfolding InstructionWrites
coded_writes line places place width mnemonic operands label coded answer at is same = rw at (coded, (is, same))
