-- An MPU as a value.
use Rattle.std.specs.Prelude.{ℕ, Bool, true, Option, Some, None}
use Rattle.tz_model.specs.declared.board.Profile.{Profile}
use Rattle.tz_state.specs.declared.units.MpuRegister.{MpuRegister}
use Rattle.tz_state.specs.Protection.{MpuState}
use Rattle.tz_state.specs.UnitRegisters.{with_mpu_value}

-- an MPU, the profile whose rules it follows, and whether a register was written since that was last asked
pub record MpuValue : Type 0 where
  pub profile : Profile
  pub mpu : MpuState
  pub changed : Bool

-- the MPU after a write that left other registers
abbrev pub with_registers : MpuValue → MpuState → MpuValue
with_registers m state = record m { mpu = state; changed = true }

-- the MPU after a write of the register at an address, if there is one
abbrev pub with_written : MpuValue → Option MpuRegister → ℕ → MpuValue
with_written m None value = m
with_written m (Some register) value = with_registers m (with_mpu_value m.profile m.mpu register value)
