-- The SAU of a board as a value.
use Rattle.std.specs.Prelude.{ℕ, Bool, true, List, Option, Some, None}
use Rattle.tz_model.specs.declared.board.Region.{Region}
use Rattle.tz_state.specs.declared.units.SauRegister.{SauRegister}
use Rattle.tz_state.specs.Attribution.{MapState, SauState}
use Rattle.tz_state.specs.UnitRegisters.{with_sau_value}

-- the board's regions, the SAU, and whether a register was written since that was last asked
pub record SauValue : Type 0 where
  pub regions : List Region
  pub sau : SauState
  pub changed : Bool

-- what decides the attribution of an address
abbrev pub map_by : SauValue → MapState
map_by s = record { regions = s.regions; sau = s.sau }

-- the SAU after a write that left other registers
abbrev pub with_registers : SauValue → SauState → SauValue
with_registers s state = record s { sau = state; changed = true }

-- the SAU after a write of the register at an address, if there is one
abbrev pub with_written : SauValue → Option SauRegister → ℕ → SauValue
with_written s None value = s
with_written s (Some register) value = with_registers s (with_sau_value s.sau register value)
