use Rattle.std.proofs.Common.{◌+◌, ◌≤◌, List, length, Result}
use Rattle.tz_asm.specs.Growing.{Fits, growing_view}
use Rattle.tz_asm.specs.Layouts.{IsLayout}
use Rattle.tz_asm.specs.Places.{places_in}
use Rattle.tz_asm.specs.Refusals.{Refusal}
use Rattle.tz_asm.specs.SecondPass.{SecondFrom, SecondPass}
use Rattle.tz_syntax.specs.Lines.{lines_of}
use Rattle.tz_model.specs.Image.{SegmentValue}
use Rattle.tz_asm.proofs.second_pass.second_pass.Given as goal

abbrev pub invariant-loop-rest : goal.invariant-loop-rest
invariant-loop-rest l = record {
  rest : (answer : Result (List SegmentValue) Refusal) → SecondFrom l.line (places_in l.places) l.layout (growing_view l.growing) (lines_of l.rest) answer
      → SecondPass l.source (places_in l.places) answer;
  within : IsLayout l.layout;
  fits : Fits l.layout (growing_view l.growing);
  counted : l.line + length l.rest ≤ length l.source + 1;
}

abbrev pub decreases-loop-rest : goal.decreases-loop-rest
decreases-loop-rest l = length l.rest
