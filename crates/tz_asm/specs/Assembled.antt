-- What a source gives: the segments of its image, or the first refusal.
use Rattle.std.specs.Prelude.{ℕ, List, Result}
use Rattle.tz_asm.specs.FirstPass.{first_pass}
use Rattle.tz_asm.specs.Refusals.{After, Refusal}
use Rattle.tz_asm.specs.SecondPass.{SecondPass}
use Rattle.tz_model.specs.Image.{SegmentValue}

-- refusals of the first pass come before those of the second
unfoldable pub Assembled : List ℕ → Result (List SegmentValue) Refusal → Type 0
Assembled source = After (first_pass source) (SecondPass source)
