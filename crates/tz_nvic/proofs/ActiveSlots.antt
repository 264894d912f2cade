-- What the active slots tell.
use Rattle.std.proofs.Common.{◌≡◌, ℕ, zero, suc, Bool, true, false, cond, refl, ap, ◌∙◌}
use Rattle.std.specs.Prelude.{◌==◌, ◌&&◌, ◌||◌, not}
use Rattle.tz_state.specs.Slots.{ExceptionsValue, exception_number}
use Rattle.tz_state.specs.Execution.{is_active}
use Rattle.tz_state.specs.ControlRegisters.{is_other_active}
use Rattle.tz_state.specs.Pieces.{any_below}
use Rattle.tz_nvic.specs.declared.active.ActiveSlots.{ActiveSlots}
use Rattle.tz_nvic.specs.declared.active.ActiveSlots.TheVariants.{Nothing, One, Several}
use Rattle.tz_nvic.specs.ActiveSlots.{slot_added, has_other, active_slots_below}

has_any : ActiveSlots → Bool
has_any Nothing = false
has_any (One m) = true
has_any Several = true

or_true : (t : Bool) → (t || true) ≡ true
or_true true = refl
or_true false = refl

or_false : (t : Bool) → (t || false) ≡ t
or_false true = refl
or_false false = refl

any_more : (slots : ActiveSlots) (n : ℕ) (a : Bool) → (has_any slots || a) ≡ has_any (cond a (slot_added n slots) slots)
unfolding has_any
any_more slots n false = or_false (has_any slots)
any_more Nothing n true = refl
any_more (One m) n true = refl
any_more Several n true = refl

-- a slot is active at a place below n exactly where something is
any_told : (e : ExceptionsValue) (n : ℕ) → any_below (is_active e) n ≡ has_any (active_slots_below e n)
unfolding any_below active_slots_below has_any
any_told e zero = refl
any_told e (suc n) = ap (λ (t : Bool). t || is_active e n) (any_told e n) ∙ any_more (active_slots_below e n) (exception_number n) (is_active e n)

one_more : (slots : ActiveSlots) (n ipsr : ℕ) → (has_other slots ipsr || (not (n == ipsr) || has_any slots)) ≡ has_other (slot_added n slots) ipsr
unfolding has_any
one_more Nothing n ipsr = or_false (not (n == ipsr))
one_more (One m) n ipsr = ap (λ (t : Bool). not (m == ipsr) || t) (or_true (not (n == ipsr))) ∙ or_true (not (m == ipsr))
one_more Several n ipsr = refl

maybe_more : (slots : ActiveSlots) (n ipsr : ℕ) (a : Bool) →
    (has_other slots ipsr || (a && (not (n == ipsr) || has_any slots))) ≡ has_other (cond a (slot_added n slots) slots) ipsr
maybe_more slots n ipsr true = one_more slots n ipsr
maybe_more slots n ipsr false = or_false (has_other slots ipsr)

-- a slot is active at a place below n beside one of this number exactly where those below n have another
pub others_told : (e : ExceptionsValue) (ipsr n : ℕ) → any_below (is_other_active e ipsr) n ≡ has_other (active_slots_below e n) ipsr
unfolding any_below active_slots_below
others_told e ipsr zero = refl
others_told e ipsr (suc n) =
    rw (others_told e ipsr n, any_told e n) (maybe_more (active_slots_below e n) (exception_number n) ipsr (is_active e n))
