-- One pass after the other.
use Rattle.std.proofs.Common.{◌≡◌, ℕ, refl, List, Result, Ok, Err}
use Rattle.tz_asm.specs.Assembled.{Assembled}
use Rattle.tz_asm.specs.Errors.{IsRefusal, Tells}
use Rattle.tz_asm.specs.FirstPass.{first_pass}
use Rattle.tz_asm.specs.Places.{Places}
use Rattle.tz_asm.specs.Refusals.{Refusal}
use Rattle.tz_asm.specs.SecondPass.{SecondPass}
use Rattle.tz_asm.specs.declared.error.AsmError.{AsmError}
use Rattle.tz_model.specs.Image.{SegmentValue}
use Rattle.tz_asm.proofs.Telling.{Tells-along}

pub refused_first : (e : AsmError) (source : List ℕ) → IsRefusal e (first_pass source) → Tells e (λ r. Assembled source (Err r))
unfolding Assembled
refused_first e source h = Tells-along e (λ r. first_pass source ≡ Err r) (λ r. Assembled source (Err r)) (λ r is. rw is refl) h

pub passed : (source : List ℕ) (places : Places) (answer : Result (List SegmentValue) Refusal) → first_pass source ≡ Ok places → SecondPass source places answer
    → Assembled source answer
unfolding Assembled
passed source places answer is h = rw is h

pub refused_second : (e : AsmError) (source : List ℕ) (places : Places) → first_pass source ≡ Ok places → Tells e (λ r. SecondPass source places (Err r))
    → Tells e (λ r. Assembled source (Err r))
refused_second e source places is h =
    Tells-along e (λ r. SecondPass source places (Err r)) (λ r. Assembled source (Err r)) (λ r second. passed source places (Err r) is second) h
