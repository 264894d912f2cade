-- What is active, as far as it tells whether there is a slot beside one of a given number.
use Rattle.std.specs.Prelude.{ℕ, zero, suc, ◌==◌, Bool, true, false, not, if◌then◌else◌}
use Rattle.tz_state.specs.Slots.{ExceptionsValue, places, exception_number}
use Rattle.tz_state.specs.Execution.{is_active}
use Rattle.tz_nvic.specs.declared.active.ActiveSlots.{ActiveSlots}
use Rattle.tz_nvic.specs.declared.active.ActiveSlots.TheVariants.{Nothing, One, Several}

-- with one more slot, of any number
abbrev pub slot_added : ℕ → ActiveSlots → ActiveSlots
slot_added n Nothing = One n
slot_added n (One m) = Several
slot_added n Several = Several

-- there is one beside a slot of a given number
abbrev pub has_other : ActiveSlots → ℕ → Bool
has_other Nothing n = false
has_other (One m) n = not (m == n)
has_other Several n = true

-- the active slots at the places below n
unfoldable pub active_slots_below : ExceptionsValue → ℕ → ActiveSlots
active_slots_below e zero = Nothing
active_slots_below e (suc n) =
    if is_active e n then slot_added (exception_number n) (active_slots_below e n) else active_slots_below e n

abbrev pub active_slots : ExceptionsValue → ActiveSlots
active_slots e = active_slots_below e places
