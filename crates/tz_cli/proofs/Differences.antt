-- The search for the first step at which two runs disagree, step by step.
use Rattle.std.proofs.Common.{◌≡◌, ℕ, suc, ◌+◌, ◌-◌, ◌<◌, Option, Some, None, refl, sym, ap, ◌∙◌, subst, arith}
use Rattle.std.specs.Prelude.{option_map}
use Rattle.tz_state.specs.State.{State}
use Rattle.tz_sem.specs.Step.{step}
use Rattle.tz_sem.specs.Run.{Events}
use Rattle.tz_iso.specs.declared.answer.What.{What}
use Rattle.tz_iso.specs.declared.answer.PairStep.{PairStep}
use Rattle.tz_iso.specs.declared.answer.PairStep.TheVariants.{Kept, Differ}
use Rattle.tz_iso.specs.What.{what_of}
use Rattle.tz_iso.specs.Runs.{PairValue, advanced, advanced_by, pair_after, answer_of, found_at, difference}

-- after k of n steps nothing differed, and what is left to find is what is found of all
pub record SoFar (events : Events) (p0 p : PairValue) (k n : ℕ) : Type 0 where
  pub none : p.found ≡ None
  pub made : p.steps ≡ k
  pub rest : difference events k p.first p.second (n - k) ≡ difference events 0 p0.first p0.second n

difference_more : (events : Events) (k n : ℕ) (s t : State) → k < n →
    difference events k s t (n - k)
    ≡ found_at k (what_of (step s (events k)) (step t (events k))) (difference events (k + 1) (step s (events k)).state (step t (events k)).state (n - (k + 1)))
difference_more events k n s t l =
    let m : n - k ≡ suc (n - (k + 1)) = omega arith in
    ap (difference events k s t) m

-- where nothing differed before, both machines make the step
advanced_both : (events : Events) (k : ℕ) (p p' : PairValue) → p.found ≡ None → p' ≡ pair_after p (events k) → p' ≡ advanced p (events k)
advanced_both events k p p' none made = made ∙ ap (λ found. advanced_by found p (events k)) none

-- what was found, by what is answered
abbrev found_by : PairStep → Option (ℕ × What)
found_by Kept = None
found_by (Differ number what) = Some (number, what)

found_by_answer : (found : Option (ℕ × What)) → found ≡ found_by (answer_of found)
found_by_answer None = refl
found_by_answer (Some found) = refl

none_mapped : {A B : Type 0} (f : A → B) (o : Option A) → option_map f o ≡ None → o ≡ None
none_mapped f None e = refl
none_mapped f (Some x) e = absurd (cc e)

pub so_far_step : (events : Events) (p0 p p' : PairValue) (k n : ℕ) → k < n → p' ≡ pair_after p (events k) → Kept ≡ answer_of p'.found → SoFar events p0 p k n → SoFar events p0 p' (k + 1) n
so_far_step events p0 p p' k n l made kept h =
    let is : p' ≡ advanced p (events k) = advanced_both events k p p' h.none made in
    let none : p'.found ≡ None = found_by_answer p'.found ∙ ap found_by (sym kept) in
    let same : what_of (step p.first (events k)) (step p.second (events k)) ≡ None =
    none_mapped {A = What} {B = ℕ × What} (λ what. (p.steps, what)) (what_of (step p.first (events k)) (step p.second (events k))) (sym (ap (λ (x : PairValue). x.found) is) ∙ none) in
    record {
      none = none;
      made = ap (λ (x : PairValue). x.steps) is ∙ ap (λ (i : ℕ). i + 1) h.made;
      rest = ap (λ (x : PairValue). difference events (k + 1) x.first x.second (n - (k + 1))) is
          ∙ sym (ap (λ (o : Option What). found_at k o (difference events (k + 1) (step p.first (events k)).state (step p.second (events k)).state (n - (k + 1)))) same)
          ∙ sym (difference_more events k n p.first p.second l) ∙ h.rest;
    }

found_now : (k number : ℕ) (what : What) (o : Option What) (later : Option (ℕ × What)) → option_map {T = What} {U = ℕ × What} (λ w. (k, w)) o ≡ Some (number, what) → Some (number, what) ≡ found_at k o later
found_now k number what None later e = absurd (cc e)
found_now k number what (Some w) later e = sym e

pub so_far_found : (events : Events) (p0 p p' : PairValue) (k n number : ℕ) (what : What) → k < n → p' ≡ pair_after p (events k) → Differ number what ≡ answer_of p'.found → SoFar events p0 p k n
    → Some (number, what) ≡ difference events 0 p0.first p0.second n
so_far_found events p0 p p' k n number what l made differ h =
    let is : p' ≡ advanced p (events k) = advanced_both events k p p' h.none made in
    let found : option_map {T = What} {U = ℕ × What} (λ w. (p.steps, w)) (what_of (step p.first (events k)) (step p.second (events k))) ≡ Some (number, what) =
    sym (ap (λ (x : PairValue). x.found) is) ∙ (found_by_answer p'.found ∙ ap found_by (sym differ)) in
    found_now k number what (what_of (step p.first (events k)) (step p.second (events k))) _
    (subst (λ (i : ℕ). option_map {T = What} {U = ℕ × What} (λ w. (i, w)) (what_of (step p.first (events k)) (step p.second (events k))) ≡ Some (number, what)) h.made found)
    ∙ sym (difference_more events k n p.first p.second l) ∙ h.rest
