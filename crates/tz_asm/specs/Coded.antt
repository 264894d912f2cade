-- Which statements have the shape of a text, and the code that one has.
use Rattle.std.specs.Prelude.{◌≡◌, ℕ, Bool, true, false, ◌&&◌, if◌then◌else◌, List, [], ◌∷◌, Option, Some, None, is_some, is_none, unwrap_or, Result, Ok, Err, ◌⊎◌, ℤ}
use Rattle.std.specs.Cmp.Lexicographic.{pointwise}
use Rattle.std.specs.List.{list_any}
use Rattle.std.specs.Ordering.{int_eq}
use Rattle.tz_syntax.specs.Tokens.{TokenValue}
use Rattle.tz_encode.specs.Encoded.{EncodedIn, meaning_of}
use Rattle.tz_bits.specs.Values.{values_of}
use Rattle.tz_syntax.specs.Rows.{TextRowValue}
use Rattle.tz_table.specs.Table.{rows}
use Rattle.tz_table.specs.declared.decoded.Decoded.{Decoded}
use Rattle.tz_table.specs.declared.decoded.Decoded.TheVariants.{One, NoCoprocessor, Undefined}
use Rattle.tz_table.specs.declared.instruction.Insn.{Insn}
use Rattle.tz_table.specs.declared.units.Code.{Code}
use Rattle.tz_table.specs.declared.units.Width.{Width}
use Rattle.tz_table.specs.declared.units.Width.TheVariants.{Narrow, Wide}
use Rattle.tz_asm.specs.Mnemonics.{texts_of, width_of_word}
use Rattle.tz_asm.specs.Pieces.{Progress, Site}
use Rattle.tz_asm.specs.Rows.{row_read}
use Rattle.tz_asm.specs.declared.code.uncoded.Uncoded.{Uncoded}
use Rattle.tz_asm.specs.declared.code.uncoded.Uncoded.TheVariants.{NoLabel, Range}

-- the operands have the shape of one of some rows. The place and the label have no part in it
abbrev pub has_shape_in : List TextRowValue → List ℕ → List TokenValue → Bool
has_shape_in texts mnemonic tokens = list_any (λ r. is_some (row_read r mnemonic tokens (record { place = 0; label = 0 }))) texts

-- the operands have the shape of a text of the mnemonic
unfoldable pub shaped : List ℕ → List TokenValue → Bool
shaped mnemonic tokens = has_shape_in (texts_of mnemonic) mnemonic tokens

-- a code that an instruction with these values has, of a width
abbrev pub IsCodeOf : List ℤ → Width → Code → Type 0
IsCodeOf e w code = (i : Insn) × ((values_of i ≡ e) × EncodedIn rows w i (Ok code))

-- the values of the instruction that a code means are these
abbrev pub is_instruction : Decoded → List ℤ → Bool
is_instruction (One insn w) e = pointwise int_eq (values_of insn) e
is_instruction NoCoprocessor e = false
is_instruction (Undefined w) e = false

abbrev pub means : Code → List ℤ → Bool
means code e = is_instruction (meaning_of code) e

-- the answer of a row that read this, told whether a label is missing: that it is, or the code, where an instruction
-- with the values that were read has one
abbrev pub GivesBy : Bool → Progress → Width → Result Code Uncoded → Type 0
GivesBy true p w result = result ≡ Err NoLabel
GivesBy false p w result = (code : Code) × ((p.held ≡ true) × (IsCodeOf p.values w code × (result ≡ Ok code)))

-- the row has no answer
abbrev pub PassesBy : Bool → Progress → Width → Type 0
PassesBy true p w = ⊥
PassesBy false p w = p.held ≡ true → (code : Code) → IsCodeOf p.values w code → ⊥

-- the answer of a row by what it reads; one that hasn't the shape has none
abbrev pub Gives : Option Progress → Width → Option ℕ → Result Code Uncoded → Type 0
Gives None w label result = ⊥
Gives (Some p) w label result = GivesBy (p.labelled && is_none label) p w result

abbrev pub Passes : Option Progress → Width → Option ℕ → Type 0
Passes None w label = Unit {0}
Passes (Some p) w label = PassesBy (p.labelled && is_none label) p w

-- the answer of the first of some rows that has one; where none has, no row holds the values
unfoldable pub CodedBy : List TextRowValue → List ℕ → List TokenValue → Site → Option ℕ → Result Code Uncoded → Type 0
CodedBy [] mnemonic tokens s label result = result ≡ Err Range
CodedBy (r ∷ texts) mnemonic tokens s label result =
    Gives (row_read r mnemonic tokens s) r.width label result
    ⊎ (Passes (row_read r mnemonic tokens s) r.width label × CodedBy texts mnemonic tokens s label result)

-- what a statement at a place gives, where `label` is what its label stands for
abbrev pub Coded : List ℕ → List TokenValue → ℕ → Option ℕ → Result Code Uncoded → Type 0
Coded mnemonic tokens place label result = CodedBy (texts_of mnemonic) mnemonic tokens (record { place = place; label = unwrap_or label 0 }) label result

-- a statement at a place has one answer
abbrev pub OneAnswer : Type 0
OneAnswer =
    (mnemonic : List ℕ) (tokens : List TokenValue) (place : ℕ) (label : Option ℕ) (a b : Result Code Uncoded) →
    Coded mnemonic tokens place label a → Coded mnemonic tokens place label b → a ≡ b

abbrev pub width_of_code : Code → Width
width_of_code code = if is_some code.second then Wide else Narrow

-- a code has the width that its mnemonic fixes
abbrev pub FixedWidth : Type 0
FixedWidth =
    (mnemonic : List ℕ) (tokens : List TokenValue) (place : ℕ) (label : Option ℕ) (code : Code) →
    Coded mnemonic tokens place label (Ok code) → width_of_word mnemonic ≡ Some (width_of_code code)
