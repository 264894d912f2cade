-- Steps of one run.
use Rattle.std.proofs.Common.{◌≡◌, ◌⊎◌, inl, inr, ℕ, zero, suc, ◌+◌, ◌<◌, Bool, true, false, cond, refl, sym, subst, arith}
use Rattle.tz_model.specs.Board.{BoardValue}
use Rattle.tz_model.specs.Image.{ImageValue}
use Rattle.tz_model.specs.Words.{wrap}
use Rattle.tz_state.specs.Memory.{Memory, word_at}
use Rattle.tz_state.specs.State.{State}
use Rattle.tz_sem.specs.Boot.{boot, boot_memory, has_vectors, reset}
use Rattle.tz_sem.specs.Run.{Events, state_after}
use Rattle.tz_sem.specs.Step.{step}
use Rattle.tz_resume.specs.Number.{IsNumbered}
use Rattle.tz_resume.specs.Resumption.{process_of, GoesOn}
use Rattle.tz_resume.specs.Run.{Resumes, GoesOnExactly, AllResume}
use Rattle.tz_resume.specs.Steps.{IsTyped, TakesBack}
use Rattle.tz_resume.proofs.Fitting.{numbers_fit}
use Rattle.tz_resume.proofs.Steps.{steps_resume}

-- the last step of several, from step k on
last_of : (events : Events) (k : ℕ) (s : State) (n : ℕ) → state_after events k s (suc n) ≡ (step (state_after events k s n) (events (k + n))).state
last_of events k s zero = let at : k + 0 ≡ k = omega arith in rw at refl
last_of events k s (suc n) = let at : k + 1 + n ≡ k + suc n = omega arith in subst (λ (i : ℕ). state_after events k s (suc (suc n)) ≡ (step (state_after events k s (suc n)) (events i)).state) at (last_of events (k + 1) (step s (events k)).state n)

pub last_step : (events : Events) (k : ℕ) (s : State) (n : ℕ) → state_after events k s (n + 1) ≡ (step (state_after events k s n) (events (k + n))).state
last_step events k s n = let more : n + 1 ≡ suc n = omega arith in rw more (last_of events k s n)

numbered_after : (events : Events) (k : ℕ) (s : State) (n : ℕ) → IsNumbered s.core → IsNumbered (state_after events k s n).core
numbered_after events k s zero h = h
numbered_after events k s (suc n) h = numbered_after events (k + 1) (step s (events k)).state n (numbers_fit s (events k) h)

pub runs_resume : (events : Events) (k : ℕ) (s : State) (i j : ℕ) → IsNumbered s.core → IsTyped (state_after events k s i) → Resumes events k s i j → GoesOnExactly events k s i j
runs_resume events k s i j numbered typed r =
    let first = state_after events k s i in
    let second = state_after events k s j in
    let taken : TakesBack (process_of first.core) (step first (events (k + i))).state r.later r.value r.passed =
    subst (λ (after : State). TakesBack (process_of first.core) after r.later r.value r.passed) (last_step events k s i) r.taken in
    subst (λ (after : State). GoesOn first.core first.core.registers.pc after.core) (sym (last_step events k s j))
    (steps_resume first (events (k + i)) r.from r.course r.back typed (numbered_after events k s i numbered) r.preempted second (events (k + j)) r.later r.value r.passed r.returned taken)

-- of a run whose states have what types say
pub all_resume : (events : Events) (k : ℕ) (s : State) (n : ℕ) → ((i : ℕ) → i < n → IsTyped (state_after events k s i)) → AllResume events k s n
all_resume events k s n typed numbered i j first second r = runs_resume events k s i j numbered (typed i first) r

-- the states of a run, one more
pub typed_more : (events : Events) (k : ℕ) (s t : State) (n : ℕ) → ((i : ℕ) → i < n → IsTyped (state_after events k s i)) → t ≡ state_after events k s n → IsTyped t
    → (i : ℕ) → i < n + 1 → IsTyped (state_after events k s i)
typed_more events k s t n typed is last i small = elim (cases_at i n small) [
  | inl at ↦ subst (λ (m : ℕ). IsTyped (state_after events k s m)) (sym at) (subst (λ (x : State). IsTyped x) is last)
  | inr below ↦ typed i below
] where
  cases_at : (i n : ℕ) → i < n + 1 → (i ≡ n) ⊎ (i < n)
  cases_at i n h = grind arith

-- no exception is handled at the start
boot_numbered : (b : BoardValue) (secure nonsecure : ImageValue) → IsNumbered (boot b secure nonsecure).core
unfolding boot
boot_numbered b secure nonsecure = by (has_vectors b) where
  m : Memory
  m = boot_memory b secure nonsecure

  by : (t : Bool) → IsNumbered (cond t (reset b m (word_at m b.secure_vtor) (word_at m (wrap (b.secure_vtor + 4))) false) (reset b m 0 0 true)).core
  by true = omega arith
  by false = omega arith

pub boots_resume : (b : BoardValue) (secure nonsecure : ImageValue) (events : Events) (i j : ℕ) → IsTyped (state_after events 0 (boot b secure nonsecure) i) → Resumes events 0 (boot b secure nonsecure) i j
    → GoesOnExactly events 0 (boot b secure nonsecure) i j
boots_resume b secure nonsecure events i j typed r = runs_resume events 0 (boot b secure nonsecure) i j (boot_numbered b secure nonsecure) typed r
