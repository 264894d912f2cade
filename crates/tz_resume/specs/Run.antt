-- Steps of one run.
use Rattle.std.specs.Prelude.{◌+◌, ◌<◌, ℕ}
use Rattle.tz_model.specs.Board.{BoardValue}
use Rattle.tz_model.specs.Image.{ImageValue}
use Rattle.tz_state.specs.State.{State}
use Rattle.tz_sem.specs.declared.ending.Course.{Course}
use Rattle.tz_sem.specs.Boot.{boot}
use Rattle.tz_sem.specs.Ended.{Passed}
use Rattle.tz_sem.specs.Run.{Events, state_after}
use Rattle.tz_sem.specs.Step.{started, ended}
use Rattle.tz_resume.specs.Number.{IsNumbered}
use Rattle.tz_resume.specs.Resumption.{process_of, GoesOn}
use Rattle.tz_resume.specs.Steps.{IsTyped, IsPreemption, ReturnsBy, TakesBack}

-- of the steps of a run that begins with step k: step i of it preempts Secure code, and step j takes its frames back as
-- they were written
pub record Resumes (events : Events) (k : ℕ) (s : State) (i j : ℕ) : Type 0 where
  pub from : State
  pub course : Course
  pub back : ℕ
  pub preempted : IsPreemption (state_after events k s i) (events (k + i)) from course back
  pub later : State
  pub value : ℕ
  pub passed : Passed
  pub returned : ReturnsBy (ended (started (state_after events k s j) (events (k + j)))) later value passed
  pub taken : TakesBack (process_of (state_after events k s i).core) (state_after events k s (i + 1)) later value passed

-- after step j Secure code is as it was before step i
abbrev pub GoesOnExactly : Events → ℕ → State → ℕ → ℕ → Type 0
GoesOnExactly events k s i j =
    GoesOn (state_after events k s i).core (state_after events k s i).core.registers.pc (state_after events k s (j + 1)).core

-- whatever steps are between
abbrev pub RunsResume : Type 0
RunsResume =
    (events : Events) (k : ℕ) (s : State) (i j : ℕ) → IsNumbered s.core → IsTyped (state_after events k s i) → Resumes events k s i j → GoesOnExactly events k s i j

-- from the start of a board with two images
abbrev pub BootsResume : Type 0
BootsResume =
    (b : BoardValue) (secure nonsecure : ImageValue) (events : Events) (i j : ℕ) → IsTyped (state_after events 0 (boot b secure nonsecure) i)
    → Resumes events 0 (boot b secure nonsecure) i j → GoesOnExactly events 0 (boot b secure nonsecure) i j

-- of n steps of a run: for all that are such, where the number of the exception fits a frame in the beginning
abbrev pub AllResume : Events → ℕ → State → ℕ → Type 0
AllResume events k s n = IsNumbered s.core → (i j : ℕ) → i < n → j < n → Resumes events k s i j → GoesOnExactly events k s i j
