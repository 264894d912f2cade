-- What is kept of a look at all slots.
use Rattle.std.specs.Prelude.{◌≡◌, ◌≤◌, ◌<◌, true, IfSome}
use Rattle.tz_state.specs.Slots.{ExceptionsValue, is_place}
use Rattle.tz_state.specs.Priority.{chosen_place}
use Rattle.tz_state.specs.Execution.{raw_priority}
use Rattle.tz_state.specs.ControlRegisters.{is_interrupt_pending}
use Rattle.tz_nvic.specs.ActiveSlots.{active_slots}
use Rattle.tz_nvic.specs.declared.known.Known.{Known}

-- it is what a look at these exceptions finds
pub record IsKnown (e : ExceptionsValue) (k : Known) : Type 0 where
  pub chosen : k.chosen ≡ chosen_place e
  pub few : IfSome k.chosen (λ i. i < 272)
  pub place : IfSome k.chosen (λ i. is_place e i ≡ true)
  pub raw : k.raw ≡ raw_priority e
  pub least : k.raw ≤ 260
  pub interrupt : k.interrupt ≡ is_interrupt_pending e
  pub active : k.active ≡ active_slots e
