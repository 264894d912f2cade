-- In which ready lists the slots are linked.
use Rattle.std.specs.Prelude.{◌≡◌, ℕ, ◌/◌, ◌%◌, ◌==◌, nat_lt, ◌&&◌, ◌||◌, not, if◌then◌else◌, Option, Some, None, length}
use Rattle.tz_table.specs.declared.units.Side.{Side}
use Rattle.tz_table.specs.declared.units.Side.TheVariants.{NonSecure}
use Rattle.tz_ready.specs.declared.queue.Queue.{Queue}
use Rattle.tz_ready.specs.Links.{Linked, queue_of}
use Rattle.tz_state.specs.declared.slot.SlotState.{SlotState}
use Rattle.tz_state.specs.Slots.{ExceptionsValue, places, first_interrupt_place, at, is_place, exception_number, system_side, is_always_enabled, has_fixed_priority}

-- the side of the slot at a place, where this is kept of it
abbrev pub side_by : ExceptionsValue → ℕ → SlotState → Side
side_by e i slot = if nat_lt i first_interrupt_place then (if i % 2 == 1 then NonSecure else system_side e (i / 2)) else slot.target

-- where this is kept of the slot at a place: it is linked where it is pending and enabled and has no fixed priority, in
-- the list of its priority and its side
abbrev pub queue_by : ExceptionsValue → ℕ → SlotState → Option Queue
queue_by e i slot =
    if (is_place e i && (slot.pending && (is_always_enabled (exception_number i) || slot.enabled))) && not (has_fixed_priority (exception_number i)) then Some (record { level = slot.priority; side = side_by e i slot })
    else None

-- the list in which the slot at a place is linked
abbrev pub queue_at : ExceptionsValue → ℕ → Option Queue
queue_at e i = queue_by e i (at e i)

-- exactly the slots are linked that are to be, each in its list
pub record AreLinked (e : ExceptionsValue) (l : Linked) : Type 0 where
  pub many : length l ≡ places
  pub each : (i : ℕ) → queue_of l i ≡ queue_at e i
