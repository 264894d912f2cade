-- How a bus is seen: its part of a state, and beside that the look-ups that it keeps.
use Rattle.tz_state.specs.State.{Bus}
use Rattle.tz_access.specs.declared.look_up.LookUps.{LookUps}

pub record BusValue : Type 0 where
  pub state : Bus
  pub kept : LookUps
