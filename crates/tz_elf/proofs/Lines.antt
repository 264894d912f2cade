-- The lines of a text, and what they give one by one.
use Rattle.std.proofs.Common.{◌≡◌, ◌+◌, ℕ, refl, arith, List, [], ◌∷◌, length, Ok}
use Rattle.tz_model.specs.Image.{SegmentValue}
use Rattle.tz_elf.specs.Placement.{Test}
use Rattle.tz_syntax.specs.Lines.{lines_of}
use Rattle.tz_elf.specs.PlainImage.{line_then, segments_from, without_return}

-- a turn over the lines
pub segments_from-first : (test : Test) (number : ℕ) (before : List SegmentValue) (text whole after line : List ℕ)
    → lines_of text ≡ whole ∷ lines_of after → without_return whole ≡ line
    → segments_from test number before (lines_of text) ≡ line_then test number before line (λ next. segments_from test (number + 1) next (lines_of after))
unfolding segments_from
segments_from-first test number before text whole after line lines same = rw (lines, same) refl

-- no lines are left
pub segments_from-none : (test : Test) (number : ℕ) (before : List SegmentValue) (text : List ℕ) → length text ≡ 0
    → segments_from test number before (lines_of text) ≡ Ok before
unfolding segments_from lines_of
segments_from-none test number before [] none = refl
segments_from-none test number before (b ∷ text) none = absurd (omega arith)
