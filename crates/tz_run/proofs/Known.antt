-- What is known of the states of a run so far.
use Rattle.std.proofs.Common.{◌≡◌, ℕ, ◌+◌, ◌-◌, ◌<◌, ◌≤◌, refl, sym, ap, ◌∙◌, arith}
use Rattle.tz_model.specs.declared.report.Report.{Report}
use Rattle.tz_state.specs.State.{State}
use Rattle.tz_sem.specs.Run.{Events, state_after}
use Rattle.tz_sem.specs.Step.{Stepped, step}
use Rattle.tz_resume.proofs.Running.{last_step, typed_more, all_resume}
use Rattle.tz_resume.specs.Run.{AllResume}
use Rattle.tz_resume.specs.Steps.{IsTyped}

-- the machine came from s0 at step `first` to s at step k, and all states before have what types say
pub record TypedSoFar (events : Events) (s0 s : State) (first k : ℕ) : Type 0 where
  pub from : first ≤ k
  pub state : s ≡ state_after events first s0 (k - first)
  pub typed : (i : ℕ) → i < k - first → IsTyped (state_after events first s0 i)

pub typed_start : (events : Events) (s : State) (first : ℕ) → TypedSoFar events s s first first
typed_start events s first =
    let none : first - first ≡ 0 = omega arith in
    record {
      from = omega arith;
      state = rw none refl;
      typed = λ i below. absurd (omega arith);
    }

pub typed_step : (events : Events) (s0 s s' : State) (first k : ℕ) (r : Report) → step s (events k) ≡ record { state = s'; report = r } → IsTyped s → TypedSoFar events s0 s first k
    → TypedSoFar events s0 s' first (k + 1)
typed_step events s0 s s' first k r made last t =
    let n = k - first in
    let from = t.from in
    let more : k + 1 - first ≡ n + 1 = omega (arith, from) in
    let at : first + n ≡ k = omega (arith, from) in
    let before : (step s (events k)).state ≡ (step (state_after events first s0 n) (events (first + n))).state =
    ap (λ (x : State). (step x (events k)).state) t.state ∙ ap (λ (i : ℕ). (step (state_after events first s0 n) (events i)).state) (sym at) in
    record {
      from = omega (arith, from);
      state = sym (ap (λ (x : Stepped). x.state) made) ∙ before ∙ sym (last_step events first s0 n) ∙ ap (λ (m : ℕ). state_after events first s0 m) (sym more);
      typed = λ i below. typed_more events first s0 s n t.typed t.state last i (omega (arith, below, from));
    }

pub typed_end : (events : Events) (s0 s : State) (first k n : ℕ) → first + n ≤ k → TypedSoFar events s0 s first k → AllResume events first s0 n
typed_end events s0 s first k n done t =
    let from = t.from in
    all_resume events first s0 n (λ i below. t.typed i (omega (arith, below, from, done)))
