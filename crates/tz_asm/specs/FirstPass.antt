-- The first pass over a source: the place of each label.
use Rattle.std.specs.Prelude.{ℕ, ◌+◌, List, [], ◌∷◌, Option, Some, None, Result, Ok}
use Rattle.tz_asm.specs.Layouts.{advance, start}
use Rattle.tz_asm.specs.Places.{Places, defined, known, no_places}
use Rattle.tz_asm.specs.Reading.{said}
use Rattle.tz_asm.specs.Refusals.{◌>>=◌, Refusal}
use Rattle.tz_asm.specs.Statements.{StatementValue, Equ}
use Rattle.tz_asm.specs.Values.{value_of}
use Rattle.tz_asm.specs.declared.layout.Layout.{Layout}
use Rattle.tz_asm.specs.declared.values.Value.{Value}
use Rattle.tz_syntax.specs.Lines.{lines_of}

-- the label that an `.equ` defines, and its value, in which labels of lines before may stand
abbrev pub equ_name : StatementValue → Option (List ℕ)
equ_name (Equ name value) = Some name
equ_name _ = None

abbrev pub equ_value : Places → StatementValue → Option Value
equ_value places (Equ name value) = value_of places value
equ_value places _ = None

-- a line's turn: its label has the place before its statement, which may define another one
unfoldable pub first_turn : ℕ → Places → Layout → List ℕ → Result (Places × Layout) Refusal
first_turn line places layout text =
    said line text >>= (λ value.
    defined line value.label (known layout.place) places >>= (λ some.
    defined line (equ_name value.statement) (equ_value some value.statement) some >>= (λ more.
    advance line value.statement layout >>= (λ next.
    Ok (more, next)))))

-- the places of labels behind those of earlier lines
unfoldable pub first_from : ℕ → Places → Layout → List (List ℕ) → Result Places Refusal
first_from line places layout [] = Ok places
first_from line places layout (text ∷ texts) =
    first_turn line places layout text >>= (λ turn. first_from (line + 1) turn.0 turn.1 texts)

-- the places of a source's labels
unfoldable pub first_pass : List ℕ → Result Places Refusal
first_pass source = first_from 1 no_places start (lines_of source)
