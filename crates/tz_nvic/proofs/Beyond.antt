-- An idle slot is neither active nor pending, so a look need not go further than those that aren't.
use Rattle.std.proofs.Common.{◌≡◌, ◌⊎◌, inl, inr, ℕ, zero, suc, ◌+◌, ◌-◌, ◌≤◌, Bool, true, false, min, refl, ap, ◌∙◌, arith}
use Rattle.std.specs.Prelude.{◌&&◌, ◌||◌}
use Rattle.tz_state.specs.Slots.{ExceptionsValue, at, is_place}
use Rattle.tz_state.specs.Pieces.{any_below}
use Rattle.tz_state.specs.Execution.{is_active, active_below, raw_priority}
use Rattle.tz_state.specs.ControlRegisters.{is_interrupt_pending}
use Rattle.tz_nvic.specs.declared.active.ActiveSlots.TheVariants.{Nothing}
use Rattle.tz_nvic.specs.ActiveSlots.{active_slots_below, active_slots}
use Rattle.tz_nvic.specs.Viewed.{AreIdleFrom}
use Rattle.tz_nvic.proofs.Idle.{idle_at}

last_or_more : (m n : ℕ) → m ≤ suc n → (m ≡ suc n) ⊎ (m ≤ n)
last_or_more m n h = grind arith

-- what changes only where a test passes stays from where on none does
stays : {A : Type 0} (test : ℕ → Bool) (f : ℕ → A) → ((n : ℕ) → test n ≡ false → f (suc n) ≡ f n) → (m : ℕ) → ((j : ℕ) → m ≤ j → test j ≡ false) → (n : ℕ) → m ≤ n → f n ≡ f m
stays test f same m none zero h = ap f (omega arith)
stays test f same m none (suc n) h = elim (last_or_more m n h) [
  | inl e ↦ ap f (omega arith)
  | inr l ↦ same n (none n l) ∙ stays test f same m none n l
]

and_false : (t : Bool) → (t && false) ≡ false
and_false true = refl
and_false false = refl

not_active : (e : ExceptionsValue) (n : ℕ) → AreIdleFrom n e.slots → (j : ℕ) → n ≤ j → is_active e j ≡ false
not_active e n h j later = rw (idle_at n j e.slots h later) (and_false (is_place e j))

not_pending : (e : ExceptionsValue) (n : ℕ) → AreIdleFrom n e.slots → (j : ℕ) → n - 32 ≤ j → (at e (32 + j)).pending ≡ false
not_pending e n h j later = rw (idle_at n (32 + j) e.slots h (omega arith)) refl

same_priority : (e : ExceptionsValue) (n : ℕ) → is_active e n ≡ false → active_below e (suc n) ≡ active_below e n
unfolding active_below
same_priority e n h = rw h refl

same_slots : (e : ExceptionsValue) (n : ℕ) → is_active e n ≡ false → active_slots_below e (suc n) ≡ active_slots_below e n
unfolding active_slots_below
same_slots e n h = rw h refl

or_false : (t : Bool) → (t || false) ≡ t
or_false true = refl
or_false false = refl

same_any : (p : ℕ → Bool) (n : ℕ) → p n ≡ false → any_below p (suc n) ≡ any_below p n
unfolding any_below
same_any p n h = rw h (or_false (any_below p n))

pub raw_below : (e : ExceptionsValue) (n : ℕ) → AreIdleFrom n e.slots → raw_priority e ≡ active_below e n
raw_below e n h = stays (is_active e) (active_below e) (same_priority e) n (not_active e n h) 272 h.0

pub all_active_slots : (e : ExceptionsValue) (n : ℕ) → AreIdleFrom n e.slots → active_slots e ≡ active_slots_below e n
all_active_slots e n h = stays (is_active e) (active_slots_below e) (same_slots e) n (not_active e n h) 272 h.0

least : (n m : ℕ) → (m ≤ n) ⊎ (n ≤ m)
least n m = grind arith

pub any_pending_below : (e : ExceptionsValue) (n : ℕ) → AreIdleFrom n e.slots → is_interrupt_pending e ≡ any_below (λ i. (at e (32 + i)).pending) (min (n - 32) e.interrupts)
any_pending_below e n h = elim (least (n - 32) e.interrupts) [
  | inl all ↦ ap (any_below (λ i. (at e (32 + i)).pending)) (omega arith)
  | inr some ↦ stays (λ i. (at e (32 + i)).pending) (any_below (λ i. (at e (32 + i)).pending)) (same_any (λ i. (at e (32 + i)).pending)) (n - 32) (not_pending e n h) e.interrupts some ∙ ap (any_below (λ i. (at e (32 + i)).pending)) (let q : n - 32 ≡ min (n - 32) e.interrupts = omega arith in q)
]

-- where none is active nothing is found
pub raw_of_none : (e : ExceptionsValue) → ((i : ℕ) → is_active e i ≡ false) → raw_priority e ≡ 260
unfolding active_below
raw_of_none e none = stays (is_active e) (active_below e) (same_priority e) 0 (λ j _. none j) 272 (omega arith)

pub slots_of_none : (e : ExceptionsValue) → ((i : ℕ) → is_active e i ≡ false) → active_slots e ≡ Nothing
unfolding active_slots_below
slots_of_none e none = stays (is_active e) (active_slots_below e) (same_slots e) 0 (λ j _. none j) 272 (omega arith)
