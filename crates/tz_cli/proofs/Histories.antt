-- What a history holds after steps, and after some of them are undone.
use Rattle.std.proofs.Common.{◌≡◌, ℕ, zero, suc, ◌+◌, ◌-◌, ◌<◌, ◌≤◌, List, [], ◌∷◌, length, refl, sym, ap, ◌∙◌, subst, arith}
use Rattle.std.specs.Prelude.{drop, take}
use Rattle.std.proofs.lemmas.List.{length-drop}
use Rattle.tz_state.specs.State.{State}
use Rattle.tz_sem.specs.Run.{Events, state_after}
use Rattle.tz_sem.specs.Step.{step}
use Rattle.tz_resume.proofs.Running.{last_step}
use Rattle.tz_undo.specs.History.{HistoryValue, stepped, backed, backed_to}
use Rattle.tz_cli.specs.Tasks.{states_before}

-- ---- steps

take_fewer : (k : ℕ) (xs : List State) → take k (take (suc k) xs) ≡ take k xs
take_fewer zero xs = refl
take_fewer (suc k) [] = refl
take_fewer (suc k) (x ∷ xs) = ap (λ (rest : List State). x ∷ rest) (take_fewer k xs)

-- one more before those that are kept
take_more : (k : ℕ) (x : State) (xs : List State) → take k (x ∷ take k xs) ≡ take k (x ∷ xs)
take_more zero x xs = refl
take_more (suc k) x xs = ap (λ (rest : List State). x ∷ rest) (take_fewer k xs)

-- n steps were made from s0, as from step first on: where the machine stands, and what is kept of the states before
pub record Kept (events : Events) (first : ℕ) (s0 : State) (kept n : ℕ) (h : HistoryValue) : Type 0 where
  pub same : h.kept ≡ kept
  pub state : h.now ≡ state_after events first s0 n
  pub stands : h.before ≡ take kept (states_before events first s0 n)

none_kept : (kept : ℕ) (before : List State) → before ≡ [] → before ≡ take kept []
none_kept zero before none = none
none_kept (suc kept) before none = none

pub kept_start : (events : Events) (first : ℕ) (h : HistoryValue) → h.before ≡ [] → Kept events first h.now h.kept 0 h
kept_start events first h none = record { same = refl; state = refl; stands = none_kept h.kept h.before none }

kept_more : (events : Events) (first : ℕ) (s0 : State) (kept n : ℕ) (h : HistoryValue) → Kept events first s0 kept n h → Kept events first s0 kept (n + 1) (stepped h (events (first + n)))
kept_more events first s0 kept n h k =
    let now = state_after events first s0 n in
    let before = states_before events first s0 in
    let more : suc n ≡ n + 1 = omega arith in
    let state : (step h.now (events (first + n))).state ≡ state_after events first s0 (n + 1) =
    ap (λ (x : State). (step x (events (first + n))).state) k.state ∙ sym (last_step events first s0 n) in
    let stands : take h.kept (h.now ∷ h.before) ≡ take kept (before (n + 1)) =
    ap (λ (i : ℕ). take i (h.now ∷ h.before)) k.same
    ∙ (ap (λ (x : State). take kept (x ∷ h.before)) k.state
    ∙ (ap (λ (xs : List State). take kept (now ∷ xs)) k.stands
    ∙ (take_more kept now (before n) ∙ ap (λ (i : ℕ). take kept (before i)) more))) in
    record { same = k.same; state = state; stands = stands }

pub kept_step : (events : Events) (first : ℕ) (s0 : State) (kept n : ℕ) (h h' : HistoryValue) → h' ≡ stepped h (events (first + n)) → Kept events first s0 kept n h → Kept events first s0 kept (n + 1) h'
kept_step events first s0 kept n h h' made k = subst (λ (x : HistoryValue). Kept events first s0 kept (n + 1) x) (sym made) (kept_more events first s0 kept n h k)

-- ---- steps that are undone

-- one more is dropped
drop_one : (n : ℕ) (x : State) (xs ys : List State) → x ∷ xs ≡ drop n ys → xs ≡ drop (n + 1) ys
drop_one zero x xs [] e = absurd (cc)
drop_one zero x xs (y ∷ ys) e = cc
drop_one (suc n) x xs [] e = absurd (cc)
drop_one (suc n) x xs (y ∷ ys) e =
    let more : suc n + 1 ≡ suc (n + 1) = omega arith in
    rw more (drop_one n x xs ys e)

-- the first of those that are left is the last state before
pub undone_step : (n : ℕ) (h h' : HistoryValue) (s : State) (more : List State) → h' ≡ backed h → n < length more → h.now ∷ h.before ≡ drop n (s ∷ more)
    → h'.now ∷ h'.before ≡ drop (n + 1) (s ∷ more)
undone_step n h h' s more made long e = by_before h.before e made
  where
    by_before : (before : List State) → h.now ∷ before ≡ drop n (s ∷ more) → h' ≡ backed_to h before → h'.now ∷ h'.before ≡ drop (n + 1) (s ∷ more)
    by_before [] left is =
        let one : 1 ≡ length (drop n (s ∷ more)) = ap (length {A = State}) left in
        let rest : length (drop n (s ∷ more)) ≡ length (s ∷ more) - n = length-drop n (s ∷ more) in
        let size : length (s ∷ more) ≡ suc (length more) = refl in
        absurd (omega (arith, one, rest, size, long))
    by_before (last ∷ others) left is = ap (λ (x : HistoryValue). x.now ∷ x.before) is ∙ drop_one n h.now (last ∷ others) (s ∷ more) left

-- the states before are as many as steps, or as are kept
before_long : (events : Events) (first : ℕ) (s0 : State) (b kept n : ℕ) → b ≤ kept → b ≤ n → b ≤ length (take kept (states_before events first s0 n))
before_long events first s0 zero kept n l m = omega arith
before_long events first s0 (suc b) zero n l m = absurd (omega arith)
before_long events first s0 (suc b) (suc kept) zero l m = absurd (omega arith)
before_long events first s0 (suc b) (suc kept) (suc n) l m =
    let rest = before_long events first s0 b kept n (omega (arith, l)) (omega (arith, m)) in
    omega (arith, rest)

state_before : (events : Events) (first : ℕ) (s0 : State) (b kept n : ℕ) (x : State) (xs : List State) → b ≤ kept → b ≤ n
    → x ∷ xs ≡ drop b (state_after events first s0 n ∷ take kept (states_before events first s0 n)) → x ≡ state_after events first s0 (n - b)
state_before events first s0 zero kept n x xs l m e =
    let here : x ≡ state_after events first s0 n = cc in
    let all : n ≡ n - 0 = omega arith in
    here ∙ ap (state_after events first s0) all
state_before events first s0 (suc b) zero n x xs l m e = absurd (omega arith)
state_before events first s0 (suc b) (suc kept) zero x xs l m e = absurd (omega arith)
state_before events first s0 (suc b) (suc kept) (suc n) x xs l m e =
    let fewer : n - b ≡ suc n - suc b = omega arith in
    state_before events first s0 b kept n x xs (omega (arith, l)) (omega (arith, m)) e ∙ ap (state_after events first s0) fewer

-- so b steps that are kept can be undone
pub can_undo : (events : Events) (first : ℕ) (s0 : State) (b kept : ℕ) (before : List State) → b ≤ kept → before ≡ take kept (states_before events first s0 b) → b ≤ length before
can_undo events first s0 b kept before l e = subst (λ (xs : List State). b ≤ length xs) (sym e) (before_long events first s0 b kept b l (omega arith))

-- and the machine stands then where they began
pub undone_end : (events : Events) (first : ℕ) (s0 : State) (b kept : ℕ) (now now' : State) (before before' : List State) → b ≤ kept
    → now ≡ state_after events first s0 b → before ≡ take kept (states_before events first s0 b) → now' ∷ before' ≡ drop b (now ∷ before) → now' ≡ s0
undone_end events first s0 b kept now now' before before' l state stands e =
    let none : b - b ≡ 0 = omega arith in
    state_before events first s0 b kept b now' before' l (omega arith)
    (e ∙ (ap (λ (x : State). drop b (x ∷ before)) state ∙ ap (λ (xs : List State). drop b (state_after events first s0 b ∷ xs)) stands))
    ∙ ap (state_after events first s0) none
