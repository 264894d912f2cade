-- The registers of the units that guard memory, with the exclusive monitor, apart from a bus.
use Rattle.std.specs.Prelude.{Option, None}
use Rattle.tz_model.specs.Board.{BoardValue}
use Rattle.tz_state.specs.declared.request.Exclusive.{Exclusive}
use Rattle.tz_state.specs.Attribution.{SauState}
use Rattle.tz_state.specs.Protection.{MpuState}
use Rattle.tz_state.specs.State.{Bus}
use Rattle.tz_state.specs.UnitRegisters.{reset_sau, reset_mpu}

pub record UnitsValue : Type 0 where
  pub sau : SauState
  pub mpu_s : MpuState
  pub mpu_ns : MpuState
  pub monitor : Option Exclusive

-- those of a board as it starts
abbrev pub reset_units : BoardValue → UnitsValue
reset_units b =
    record {
      sau = reset_sau b.sau_regions b.sau;
      mpu_s = reset_mpu b.mpu_secure;
      mpu_ns = reset_mpu b.mpu_nonsecure;
      monitor = None;
    }

-- those of a bus
abbrev pub units_of : Bus → UnitsValue
units_of b = record { sau = b.sau; mpu_s = b.mpu_s; mpu_ns = b.mpu_ns; monitor = b.monitor }

-- a bus with others
abbrev pub with_units : Bus → UnitsValue → Bus
with_units b u = record b { sau = u.sau; mpu_s = u.mpu_s; mpu_ns = u.mpu_ns; monitor = u.monitor }
