-- What a source gives, as a function.
use Rattle.std.specs.Prelude.{ℕ, ◌+◌, List, [], ◌∷◌, replicate, Result, Ok}
use Rattle.tz_asm.specs.FirstPass.{first_pass}
use Rattle.tz_asm.specs.Growing.{GrowingValue, finished, grown, nothing}
use Rattle.tz_asm.specs.Layouts.{advance, padding, start}
use Rattle.tz_asm.specs.Places.{Places, value_named}
use Rattle.tz_asm.specs.Reading.{said}
use Rattle.tz_asm.specs.Refusals.{◌>>=◌, Refusal}
use Rattle.tz_asm.specs.Values.{data_bytes}
use Rattle.tz_asm.specs.Written.{as_address, coded_bytes, equ_bytes, label_value, text_bytes}
use Rattle.tz_asm.specs.declared.layout.Layout.{Layout}
use Rattle.tz_syntax.specs.Lines.{lines_of}
use Rattle.tz_model.specs.Image.{SegmentValue}
use Rattle.tz_asm.specs.Statements.{StatementValue, Nothing, Org, Align, Data, Equ, Space, Text, Instruction}
use Rattle.tz_asm.specs.CodeTold.{code_told}

-- the bytes of a statement at a place
unfoldable pub written_by : ℕ → Places → ℕ → StatementValue → Result (List ℕ) Refusal
written_by line places place Nothing = Ok []
written_by line places place (Org number) = Ok []
written_by line places place (Align multiple) = Ok (replicate (padding multiple place) 0)
written_by line places place (Data size expression) = data_bytes line places size expression
written_by line places place (Equ name value) = equ_bytes line (value_named places name)
written_by line places place (Space count) = Ok (replicate count 0)
written_by line places place (Text bytes ends) = Ok (text_bytes bytes ends)
written_by line places place (Instruction width mnemonic operands) =
    coded_bytes line (label_value places operands) width (code_told mnemonic operands place (as_address (label_value places operands)))

-- a line's turn in the second pass
unfoldable pub second_turn : ℕ → Places → Layout → GrowingValue → List ℕ → Result (Layout × GrowingValue) Refusal
second_turn line places layout g text =
    said line text >>= (λ value.
    advance line value.statement layout >>= (λ next.
    written_by line places layout.place value.statement >>= (λ bytes.
    Ok (next, grown layout.inside layout.place bytes g))))

-- the segments of the lines that are left, behind those of earlier lines
unfoldable pub second_from : ℕ → Places → Layout → GrowingValue → List (List ℕ) → Result (List SegmentValue) Refusal
second_from line places layout g [] = Ok (finished g)
second_from line places layout g (text ∷ texts) =
    second_turn line places layout g text >>= (λ state. second_from (line + 1) places state.0 state.1 texts)

-- the segments of a source, or its first refusal
unfoldable pub assembled : List ℕ → Result (List SegmentValue) Refusal
assembled source = first_pass source >>= (λ places. second_from 1 places start nothing (lines_of source))
