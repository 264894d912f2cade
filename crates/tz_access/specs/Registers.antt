-- The registers of the SAU and of the MPUs, as the bus has them.
use Rattle.std.specs.Prelude.{ℕ, Bool, if◌then◌else◌}
use Rattle.tz_table.specs.declared.units.Side.{Side}
use Rattle.tz_model.specs.AddressMap.{sau_first, sau_last}
use Rattle.tz_model.specs.Board.{within}
use Rattle.tz_state.specs.State.{Bus, mpu_of, with_mpu}
use Rattle.tz_state.specs.UnitRegisters.{sau_register, sau_read, sau_written, mpu_register, mpu_read, mpu_written}

-- the SAU's registers
abbrev pub is_of_sau : ℕ → Bool
is_of_sau addr = within sau_first sau_last addr

-- a register of the SAU, or of the MPU of a side; an address that isn't a register's reads zero
abbrev pub unit_read : Bus → Side → ℕ → ℕ
unit_read b side addr =
    if is_of_sau addr then sau_read b.sau (sau_register addr) else mpu_read (mpu_of side b) (mpu_register addr)

-- and takes no write
abbrev pub unit_written : Bus → Side → ℕ → ℕ → Bus
unit_written b side addr value =
    if is_of_sau addr then record b { sau = sau_written b.sau (sau_register addr) value }
    else with_mpu b side (mpu_written b.board.profile (mpu_of side b) (mpu_register addr) value)
