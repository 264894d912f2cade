-- The text that disassembles an image.
use Rattle.std.specs.Prelude.{ℕ, zero, suc, ◌+◌, ◌-◌, List, [], ◌∷◌, ◌++◌, flat_map}
use Rattle.tz_model.specs.Image.{SegmentValue, ImageValue}
use Rattle.tz_text.specs.Fronts.{front_of, size_of, line_of}
use Rattle.tz_text.specs.Runs.{joined_from, runs_of}

-- the lines of bytes from an address on, of which the first ones are taken by the line before
unfoldable pub lines_from : ℕ → List ℕ → ℕ → List ℕ
lines_from at [] taken = []
lines_from at (b ∷ bytes) zero =
    line_of at (front_of at (b ∷ bytes)) ++ lines_from (at + 1) bytes (size_of (front_of at (b ∷ bytes)) - 1)
lines_from at (b ∷ bytes) (suc taken) = lines_from (at + 1) bytes taken

-- a line for each front of a run, one behind the other
abbrev pub run_text : SegmentValue → List ℕ
run_text run = lines_from run.base run.bytes 0

-- the lines of each maximal run, ascending by address
abbrev pub dis_text : ImageValue → List ℕ
dis_text image = flat_map run_text (runs_of image.segments)

-- what bytes from an address on leave to list, with the segments behind them
abbrev pub text_left : ℕ → List ℕ → List SegmentValue → List ℕ
text_left at bytes segments = flat_map run_text (joined_from (record { base = at; bytes = bytes }) segments)
