-- Two runs beside each other, as long as Non-secure code sees the same in both.
use Rattle.std.specs.Prelude.{◌≡◌, ℕ, zero, suc, ◌+◌, List, Option, Some, None, option_map}
use Rattle.tz_model.specs.declared.report.ScriptEvent.{ScriptEvent}
use Rattle.tz_model.specs.Board.{BoardValue}
use Rattle.tz_model.specs.Image.{ImageValue}
use Rattle.tz_state.specs.State.{State}
use Rattle.tz_sem.specs.Boot.{boot}
use Rattle.tz_sem.specs.Step.{step}
use Rattle.tz_sem.specs.Run.{Events, state_after}
use Rattle.tz_twin.specs.Seen.{seen}
use Rattle.tz_iso.specs.declared.answer.What.{What}
use Rattle.tz_iso.specs.declared.answer.PairStep.{PairStep}
use Rattle.tz_iso.specs.declared.answer.PairStep.TheVariants.{Kept, Differ}
use Rattle.tz_iso.specs.What.{what_of}

-- both are of one board, and either Secure code runs in both, or Non-secure code does, with the same registers
-- and the same public state
abbrev pub IsLinked : State → State → Type 0
IsLinked s t = seen s ≡ seen t

-- two machines, the number of steps that they made, and the step at which they differed first, with what did
pub record PairValue : Type 0 where
  pub first : State
  pub second : State
  pub steps : ℕ
  pub found : Option (ℕ × What)

-- at their start
abbrev pub started_pair : BoardValue → ImageValue → ImageValue → ImageValue → PairValue
started_pair b first second nonsecure =
    record { first = boot b first nonsecure; second = boot b second nonsecure; steps = 0; found = None }

-- after a step of both
abbrev pub advanced : PairValue → List ScriptEvent → PairValue
advanced p due =
    record {
      first = (step p.first due).state;
      second = (step p.second due).state;
      steps = p.steps + 1;
      found = option_map (λ (what : What). (p.steps, what)) (what_of (step p.first due) (step p.second due));
    }

-- once something differed, nothing changes any more
abbrev pub advanced_by : Option (ℕ × What) → PairValue → List ScriptEvent → PairValue
advanced_by None p due = advanced p due
advanced_by (Some found) p due = p

abbrev pub pair_after : PairValue → List ScriptEvent → PairValue
pair_after p due = advanced_by p.found p due

-- what is answered
abbrev pub answer_of : Option (ℕ × What) → PairStep
answer_of None = Kept
answer_of (Some found) = Differ found.0 found.1

-- ---- runs

-- what differed at a step, or else later
abbrev pub found_at : ℕ → Option What → Option (ℕ × What) → Option (ℕ × What)
found_at k None later = later
found_at k (Some what) later = Some (k, what)

-- in n steps from step k on, with the same events: the first at which the two don't cross out alike, and what
-- differs
abbrev pub difference : Events → ℕ → State → State → ℕ → Option (ℕ × What)
difference events k s t zero = None
difference events k s t (suc n) =
    found_at k (what_of (step s (events k)) (step t (events k)))
    (difference events (k + 1) (step s (events k)).state (step t (events k)).state n)

-- what differs at a step of two runs that start here
abbrev pub what_at : Events → State → State → ℕ → Option What
what_at events s t k = what_of (step (state_after events 0 s k) (events k)) (step (state_after events 0 t k) (events k))
