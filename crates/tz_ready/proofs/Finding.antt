-- The least bit of a side that is set leads to the slot that comes first.
use Rattle.std.proofs.Common.{◌≡◌, ◌⊎◌, inl, inr, ℕ, ◌+◌, ◌-◌, ◌*◌, ◌<◌, ◌≤◌, Bool, true, false, cond, Some, refl, sym, ap, ◌∙◌, subst, arith}
use Rattle.tz_table.specs.declared.units.Side.{Side}
use Rattle.tz_table.specs.declared.units.Side.TheVariants.{Secure, NonSecure}
use Rattle.tz_ready.specs.declared.queue.Queue.{Queue}
use Rattle.tz_ready.specs.Levels.{FailsWithin, IsLeast}
use Rattle.tz_ready.specs.Links.{Linked, queue_of, IsFrom, IsBefore, IsFirst, HasNone}
use Rattle.tz_ready.specs.Threads.{number_by, words_to, head_of, IsNext, Threads}

-- the number of the first list of a side
abbrev base : Side → ℕ
base side = number_by 0 side

number_is : (level : ℕ) (side : Side) → number_by level side ≡ base side + level
number_is level Secure = omega arith
number_is level NonSecure = omega arith

words_are : (side : Side) → 32 * words_to side ≡ base side + 256
words_are Secure = refl
words_are NonSecure = refl

abbrev queue : ℕ → Side → Queue
queue level side = record { level = level; side = side }

module _ (l : Linked) (after before : ℕ → ℕ) (set : ℕ → Bool) (side : Side) (from : ℕ) (t : Threads (queue_of l) after before set) where
  -- the list of a linked slot isn't empty
  not_empty : (j level : ℕ) → queue_of l j ≡ Some (queue level side) → set (number_by level side) ≡ false → ⊥
  not_empty j level e s =
      let few = t.few j (queue level side) e in
      let n : IsNext (queue_of l) (queue level side) 0 272 = subst (λ (u : Bool). IsNext (queue_of l) (queue level side) 0 (cond u (after (head_of (queue level side))) 272)) s (t.heads (queue level side) few.1) in
      n.none j (omega arith) few.0 e

  pub none_found : FailsWithin set (number_by from side) (32 * words_to side) → HasNone l side from
  none_found h j level e =
      let few = t.few j (queue level side) e.0 in
      not_empty j level e.0 (h (number_by level side) (omega (arith, number_is from side, number_is level side, e.1)) (omega (arith, number_is level side, words_are side, few.1)))

  module _ (k : ℕ) (h : IsLeast set (number_by from side) (32 * words_to side) k) where
    level : ℕ
    level = k - base side

    low : base side ≤ k
    low = omega (arith, h.from, number_is from side)

    number : number_by (k - base side) side ≡ k
    number = omega (arith, number_is (k - base side) side, low)

    few : k - base side < 256
    few = omega (arith, h.few, words_are side, low)

    is_set : set (number_by (k - base side) side) ≡ true
    is_set = ap set number ∙ h.passes

    head : IsNext (queue_of l) (queue (k - base side) side) 0 (after (272 + k))
    head =
        let n : IsNext (queue_of l) (queue (k - base side) side) 0 (after (head_of (queue (k - base side) side))) =
        subst (λ (u : Bool). IsNext (queue_of l) (queue (k - base side) side) 0 (cond u (after (head_of (queue (k - base side) side))) 272)) is_set (t.heads (queue (k - base side) side) few) in
        subst (λ i. IsNext (queue_of l) (queue (k - base side) side) 0 (after (272 + i))) number n

    found : after (272 + k) < 272
    found = subst (λ i. after (272 + i) < 272) number (t.some (queue (k - base side) side) few is_set)

    less_or_not : (a b : ℕ) → (a < b) ⊎ (b ≤ a)
    less_or_not a b = grind arith

    alike : (a b : ℕ) → a ≤ b → (a < b) ⊎ (a ≡ b)
    alike a b m = grind arith

    in_order : (j level' : ℕ) → IsFrom l side from j level' → IsBefore (k - base side) (after (272 + k)) level' j
    in_order j level' e = elim (less_or_not (number_by level' side) k) [
      | inl b ↦ absurd (not_empty j level' e.0 (h.first (number_by level' side) (omega (arith, number_is from side, number_is level' side, e.1)) b))
      | inr b ↦ elim (alike (k - base side) level' (omega (arith, number_is level' side))) [
        | inl less ↦ inl less
        | inr same ↦ inr (
          same,
          elim (less_or_not j (after (272 + k))) [
            | inl before_it ↦ absurd (head.none j (omega arith) before_it (e.0 ∙ ap (λ x. Some (queue x side)) (sym same)))
            | inr behind_it ↦ behind_it
          ],
        )
      ]
    ]

    pub first_found : IsFirst l side from (after (272 + k))
    first_found = record {
      few = found;
      level = k - base side;
      there = (head.there found, omega (arith, h.from, number_is from side));
      first = in_order;
    }
