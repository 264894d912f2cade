-- The events of a script that are due at a step, and what a step begins with.
use Rattle.std.specs.Prelude.{◌+◌, true, if◌then◌else◌, List, [], ◌∷◌, slice_set}
use Rattle.tz_table.specs.declared.units.Side.TheVariants.{Secure}
use Rattle.tz_model.specs.declared.report.ScriptEvent.{ScriptEvent}
use Rattle.tz_model.specs.declared.report.ScriptEvent.TheVariants.{Irq, Nmi}
use Rattle.tz_model.specs.declared.report.Slot.{Slot}
use Rattle.tz_state.specs.declared.slot.SlotState.{SlotState}
use Rattle.tz_state.specs.ExceptionNumbers.{nmi, first_interrupt}
use Rattle.tz_state.specs.Slots.{ExceptionsValue, at, exists, index_of}
use Rattle.tz_state.specs.Timers.{ticked}

-- the slot of an event; neither number is banked, so the side tells nothing
abbrev pub slot_of_event : ScriptEvent → Slot
slot_of_event (Irq n) = record { number = n + first_interrupt; side = Secure }
slot_of_event Nmi = record { number = nmi; side = Secure }

-- the slots with one pended; that of an interrupt that the board hasn't is passed over
abbrev pub slots_pended : ExceptionsValue → Slot → List SlotState
slots_pended e slot =
    if exists e slot then slice_set e.slots (index_of slot) (record (at e (index_of slot)) { pending = true }) else e.slots

-- events pend their slots in order
unfoldable pub slots_due : ExceptionsValue → List ScriptEvent → List SlotState
slots_due e [] = e.slots
slots_due e (event ∷ more) = slots_due (record e { slots = slots_pended e (slot_of_event event) }) more

abbrev pub due : ExceptionsValue → List ScriptEvent → ExceptionsValue
due e events = record e { slots = slots_due e events }

-- at the beginning of a step the events that are due pend, and then each timer counts once
abbrev pub begun : ExceptionsValue → List ScriptEvent → ExceptionsValue
begun e events = ticked (due e events)
