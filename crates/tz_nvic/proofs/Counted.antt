-- How many slots are active: what a write leaves of the count, and what none tells.
use Rattle.std.proofs.Common.{◌≡◌, inl, inr, ℕ, ◌+◌, ◌<◌, ◌≤◌, Bool, true, false, List, length, get_or, set, refl, ap, arith}
use Rattle.std.specs.Prelude.{cond, ◌&&◌}
use Rattle.std.specs.List.{count_by}
use Rattle.std.proofs.lemmas.List.{get_or_past}
use Rattle.std.proofs.lemmas.List.Sums.{sum_by-set, get_or-le-sum_by}
use mir.Val.{bool_byte}
use Rattle.tz_state.specs.declared.slot.SlotState.{SlotState}
use Rattle.tz_state.specs.Slots.{ExceptionsValue, idle, is_place}
use Rattle.tz_state.specs.Execution.{is_active}
use Rattle.tz_nvic.proofs.Idle.{below_or_not}

abbrev one : SlotState → ℕ
one slot = cond slot.active 1 0

byte_is : (t : Bool) → bool_byte t ≡ cond t 1 0
byte_is true = refl
byte_is false = refl

-- one slot is written, where another stood
pub active_written : (slots : List SlotState) (i : ℕ) (slot old : SlotState) → i < length slots → old ≡ get_or slots i old → count_by (λ s. s.active) slots + bool_byte slot.active ≡ count_by (λ s. s.active) (set slots i slot) + bool_byte old.active
active_written slots i slot old h is = omega (arith, sum_by-set one slots i slot old h, ap one is, byte_is slot.active, byte_is old.active)

not_one : (slot : SlotState) → one slot ≤ 0 → slot.active ≡ false
not_one slot h = go slot.active h where
  go : (t : Bool) → cond t 1 0 ≤ 0 → t ≡ false
  go false h = refl
  go true h = absurd (omega arith)

none_at : (slots : List SlotState) → count_by (λ s. s.active) slots ≡ 0 → (i : ℕ) → (get_or slots i idle).active ≡ false
none_at slots e i = elim (below_or_not i (length slots)) [
  | inl h ↦ not_one (get_or slots i idle) (omega (arith, e, get_or-le-sum_by one slots i idle h))
  | inr h ↦ ap (λ (s : SlotState). s.active) (get_or_past slots i idle h)
]

and_false : (t : Bool) → (t && false) ≡ false
and_false true = refl
and_false false = refl

-- where none is counted none is active
pub none_active : (e : ExceptionsValue) → count_by (λ s. s.active) e.slots ≡ 0 → (i : ℕ) → is_active e i ≡ false
none_active e h i = rw (none_at e.slots h i) (and_false (is_place e i))
