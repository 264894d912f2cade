-- What a statement gives, as a function.
use Rattle.std.specs.Prelude.{ℕ, ◌&&◌, List, [], ◌∷◌, Option, Some, None, if◌then◌else◌, is_none, option_map, unwrap_or, Result, Ok, Err}
use Rattle.tz_syntax.specs.Tokens.{TokenValue}
use Rattle.tz_encode.specs.Told.{code_with}
use Rattle.tz_syntax.specs.Rows.{TextRowValue}
use Rattle.tz_table.specs.declared.units.Code.{Code}
use Rattle.tz_table.specs.declared.units.Width.{Width}
use Rattle.tz_asm.specs.Mnemonics.{texts_of}
use Rattle.tz_asm.specs.Pieces.{Progress, Site}
use Rattle.tz_asm.specs.Rows.{row_read}
use Rattle.tz_asm.specs.declared.code.uncoded.Uncoded.{Uncoded}
use Rattle.tz_asm.specs.declared.code.uncoded.Uncoded.TheVariants.{NoLabel, Range}

-- the answer of a row by what it read: that its label is missing, or the code where its values are held and have one
abbrev pub answer_by : Progress → Width → Option ℕ → Option (Result Code Uncoded)
answer_by p w label =
    if p.labelled && is_none label then Some (Err NoLabel)
    else if p.held then option_map Ok (code_with w p.values)
    else None

-- a row that hasn't the shape has none
abbrev pub answer_of : Option Progress → Width → Option ℕ → Option (Result Code Uncoded)
answer_of None w label = None
answer_of (Some p) w label = answer_by p w label

-- the answer of the first of some rows that has one
unfoldable pub first_answer : List TextRowValue → List ℕ → List TokenValue → Site → Option ℕ → Result Code Uncoded
first_answer [] mnemonic tokens s label = Err Range
first_answer (r ∷ texts) mnemonic tokens s label = unwrap_or (answer_of (row_read r mnemonic tokens s) r.width label) (first_answer texts mnemonic tokens s label)

-- what a statement at a place gives, where `label` is what its label stands for
unfoldable pub code_told : List ℕ → List TokenValue → ℕ → Option ℕ → Result Code Uncoded
code_told mnemonic tokens place label = first_answer (texts_of mnemonic) mnemonic tokens (record { place = place; label = unwrap_or label 0 }) label
