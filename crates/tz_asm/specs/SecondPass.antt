-- The second pass over a source: the bytes of each line.
use Rattle.std.specs.Prelude.{◌≡◌, ℕ, ◌+◌, List, [], ◌∷◌, Result, Ok}
use Rattle.tz_asm.specs.Growing.{GrowingValue, finished, grown, nothing}
use Rattle.tz_asm.specs.Layouts.{advance, start}
use Rattle.tz_asm.specs.Places.{Places}
use Rattle.tz_asm.specs.Reading.{said}
use Rattle.tz_asm.specs.Refusals.{After, Refusal}
use Rattle.tz_asm.specs.Written.{Writes}
use Rattle.tz_asm.specs.declared.layout.Layout.{Layout}
use Rattle.tz_syntax.specs.Lines.{lines_of}
use Rattle.tz_model.specs.Image.{SegmentValue}

-- a line's turn: its bytes stand behind those of earlier lines
unfoldable pub SecondTurn : ℕ → Places → Layout → GrowingValue → List ℕ → Result (Layout × GrowingValue) Refusal → Type 0
SecondTurn line places layout g text =
    After (said line text) (λ value.
    After (advance line value.statement layout) (λ next answer.
    (written : Result (List ℕ) Refusal)
    × (Writes line places layout.place value.statement written
    × After written (λ bytes answer. answer ≡ Ok (next, grown layout.inside layout.place bytes g)) answer)))

-- the segments of the lines that are left, behind those of earlier lines
unfoldable pub SecondFrom : ℕ → Places → Layout → GrowingValue → List (List ℕ) → Result (List SegmentValue) Refusal → Type 0
SecondFrom line places layout g [] answer = answer ≡ Ok (finished g)
SecondFrom line places layout g (text ∷ texts) answer =
    (turn : Result (Layout × GrowingValue) Refusal)
    × (SecondTurn line places layout g text turn
    × After turn (λ state. SecondFrom (line + 1) places state.0 state.1 texts) answer)

-- the segments of a source whose labels have these places
unfoldable pub SecondPass : List ℕ → Places → Result (List SegmentValue) Refusal → Type 0
SecondPass source places = SecondFrom 1 places start nothing (lines_of source)
