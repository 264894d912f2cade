-- What a list of all gates is: each gate is in it, nothing else is, and it ascends.
use Rattle.std.proofs.Common.{◌≡◌, ℕ, zero, suc, ◌+◌, ◌-◌, ◌^◌, ◌<◌, Bool, true, false, ◌||◌, cond, List, [], ◌∷◌, ◌++◌, length, get_or, refl, sym, ap, ◌∙◌, subst, arith, inl, inr, length-append}
use Rattle.std.specs.Prelude.{◌==◌}
use Rattle.std.specs.List.{Contains}
use Rattle.std.specs.List.Sorted.{IsStrictlyIncreasing}
use Rattle.std.proofs.lemmas.Bool.{or_right, or_left, cases_lt}
use Rattle.std.proofs.lemmas.Bool.Decides.{nat_tests}
use Rattle.std.proofs.lemmas.List.{get_or_append_left, get_or-append_right}
use Rattle.std.proofs.lemmas.List.Elements.{Contains-push_cases}
use Rattle.std.proofs.lemmas.List.Folds.{list_any-append}
use Rattle.tz_state.specs.State.{State}
use Rattle.tz_gates.specs.Gates.{is_gate, gates_below, gates_of}
use Rattle.tz_gates.specs.Entries.{is_among}

contained : (s : State) (n a : ℕ) → Contains (gates_below s n) a → (a < n) × (is_gate s a ≡ true)
unfolding gates_below
contained s zero a h = let l : h.0 < 0 = h.1 in absurd (omega arith)
contained s (suc n) a h = go (is_gate s n) refl (contained s n a) h where
  less : (a < n) × (is_gate s a ≡ true) → (a < suc n) × (is_gate s a ≡ true)
  less k = let l : a < n = k.0 in (omega arith, k.1)

  go : (t : Bool) → is_gate s n ≡ t → (Contains (gates_below s n) a → (a < n) × (is_gate s a ≡ true)) → Contains (cond t (gates_below s n ++ n ∷ []) (gates_below s n)) a → (a < suc n) × (is_gate s a ≡ true)
  go false isnt below k = less (below k)
  go true is below k = elim (Contains-push_cases (gates_below s n) n a k) [
    | inl l ↦ less (below l)
    | inr e ↦ (omega arith, subst (λ (x : ℕ). is_gate s x ≡ true) e is)
  ]

pub contained_gate : (s : State) (a : ℕ) → Contains (gates_of s) a → (a < 2 ^ 32) × (is_gate s a ≡ true)
unfolding gates_of
contained_gate s a h = contained s 0x100000000 a h

among : (s : State) (n a : ℕ) → a < n → is_gate s a ≡ true → is_among (gates_below s n) a ≡ true
unfolding gates_below
among s zero a l is = absurd (omega arith)
among s (suc n) a l is = go (is_gate s n) refl (λ k. among s n a k is) where
  here : n ≡ a → (a == n) ≡ true
  here e = grind (arith, nat_tests)

  go : (t : Bool) → is_gate s n ≡ t → (a < n → is_among (gates_below s n) a ≡ true) → is_among (cond t (gates_below s n ++ n ∷ []) (gates_below s n)) a ≡ true
  go false isnt below = elim (cases_lt a n) [
    | inl k ↦ below k
    | inr k ↦ let same : a ≡ n = omega arith in let both : true ≡ false = sym is ∙ ap (is_gate s) same ∙ isnt in cc
  ]
  go true gate below = list_any-append (λ (x : ℕ). a == x) (gates_below s n) (n ∷ []) ∙ elim (cases_lt a n) as (λ _. (is_among (gates_below s n) a || is_among (n ∷ []) a) ≡ true) [
    | inl k ↦ or_left (is_among (gates_below s n) a) (is_among (n ∷ []) a) (below k)
    | inr k ↦ or_right (is_among (gates_below s n) a) (is_among (n ∷ []) a) (or_left (a == n) false (here (omega arith)))
  ]

pub gate_among : (s : State) (a : ℕ) → a < 2 ^ 32 → is_gate s a ≡ true → is_among (gates_of s) a ≡ true
unfolding gates_of
gate_among s a l is = among s 0x100000000 a l is

-- ---- in order

pushed : (xs : List ℕ) (n : ℕ) → IsStrictlyIncreasing xs → ((k : ℕ) → k < length xs → get_or xs k 0 < n) → IsStrictlyIncreasing (xs ++ n ∷ [])
pushed xs n up below k l =
    let e : length (xs ++ n ∷ []) ≡ length xs + 1 = length-append xs (n ∷ []) in
    let here : k < length xs = omega arith in
    let first : get_or (xs ++ n ∷ []) k 0 ≡ get_or xs k 0 = get_or_append_left xs (n ∷ []) 0 k here in
    elim (cases_lt (k + 1) (length xs)) as (λ _. get_or (xs ++ n ∷ []) k 0 < get_or (xs ++ n ∷ []) (k + 1) 0) [
      | inl m ↦
          let second : get_or (xs ++ n ∷ []) (k + 1) 0 ≡ get_or xs (k + 1) 0 = get_or_append_left xs (n ∷ []) 0 (k + 1) m in
          let step : get_or xs k 0 < get_or xs (k + 1) 0 = up k m in
          omega arith
      | inr m ↦
          let at : k + 1 - length xs ≡ 0 = omega arith in
          let second : get_or (xs ++ n ∷ []) (k + 1) 0 ≡ n = get_or-append_right xs (n ∷ []) (length xs) (k + 1) 0 refl m ∙ ap (λ (i : ℕ). get_or (n ∷ []) i 0) at in
          let step : get_or xs k 0 < n = below k here in
          omega arith
    ]

record Ascends (xs : List ℕ) (n : ℕ) : Type 0 where
  pub up : IsStrictlyIncreasing xs
  pub below : (k : ℕ) → k < length xs → get_or xs k 0 < n

ascends_push : (xs : List ℕ) (n : ℕ) → Ascends xs n → Ascends (xs ++ n ∷ []) (suc n)
ascends_push xs n h = record { up = pushed xs n h.up h.below; below = λ k l. go k l } where
  go : (k : ℕ) → k < length (xs ++ n ∷ []) → get_or (xs ++ n ∷ []) k 0 < suc n
  go k l =
      let e : length (xs ++ n ∷ []) ≡ length xs + 1 = length-append xs (n ∷ []) in
      elim (cases_lt k (length xs)) as (λ _. get_or (xs ++ n ∷ []) k 0 < suc n) [
        | inl m ↦
            let first : get_or (xs ++ n ∷ []) k 0 ≡ get_or xs k 0 = get_or_append_left xs (n ∷ []) 0 k m in
            let step : get_or xs k 0 < n = h.below k m in
            omega arith
        | inr m ↦
            let at : k - length xs ≡ 0 = omega arith in
            let last : get_or (xs ++ n ∷ []) k 0 ≡ n = get_or-append_right xs (n ∷ []) (length xs) k 0 refl m ∙ ap (λ (i : ℕ). get_or (n ∷ []) i 0) at in
            omega arith
      ]

ascends_more : (xs : List ℕ) (n : ℕ) → Ascends xs n → Ascends xs (suc n)
ascends_more xs n h = record { up = h.up; below = λ k l. let m : get_or xs k 0 < n = h.below k l in omega arith }

ascends : (s : State) (n : ℕ) → Ascends (gates_below s n) n
unfolding gates_below
ascends s zero = record { up = λ k l. absurd (omega arith); below = λ k l. absurd (omega arith) }
ascends s (suc n) = go (is_gate s n) (ascends s n) where
  go : (t : Bool) → Ascends (gates_below s n) n → Ascends (cond t (gates_below s n ++ n ∷ []) (gates_below s n)) (suc n)
  go true h = ascends_push (gates_below s n) n h
  go false h = ascends_more (gates_below s n) n h

pub gates_ascend : (s : State) → IsStrictlyIncreasing (gates_of s)
unfolding gates_of
gates_ascend s = (ascends s 0x100000000).up
