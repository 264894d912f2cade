-- The slots after a move, by whether its channel pends its interrupt.
use Rattle.std.proofs.Common.{◌≡◌, ◌+◌, Bool, true, false, cond, List, refl}
use Rattle.std.specs.Prelude.{slice_set}
use Rattle.tz_table.specs.declared.units.Side.{Side}
use Rattle.tz_model.specs.declared.channel.Channel.{Channel}
use Rattle.tz_state.specs.declared.slot.SlotState.{SlotState}
use Rattle.tz_state.specs.Slots.{ExceptionsValue, at, first_interrupt_place}
use Rattle.tz_state.specs.Moves.{irq_of, pends_irq, slots_told}

pub told : (side : Side) (e : ExceptionsValue) (c : Channel) → pends_irq side e c ≡ true
    → slots_told side e c ≡ slice_set e.slots (first_interrupt_place + irq_of c) (record (at e (first_interrupt_place + irq_of c)) { pending = true })
told side e c is = go (pends_irq side e c) is where
  pending : List SlotState
  pending = slice_set e.slots (first_interrupt_place + irq_of c) (record (at e (first_interrupt_place + irq_of c)) { pending = true })

  go : (t : Bool) → t ≡ true → cond t pending e.slots ≡ pending
  go true is = refl
  go false is = cc

pub untold : (side : Side) (e : ExceptionsValue) (c : Channel) → pends_irq side e c ≡ false → slots_told side e c ≡ e.slots
untold side e c is = go (pends_irq side e c) is where
  go : (t : Bool) → t ≡ false → cond t (slice_set e.slots (first_interrupt_place + irq_of c) (record (at e (first_interrupt_place + irq_of c)) { pending = true })) e.slots ≡ e.slots
  go true is = cc
  go false is = refl
