-- The state of the machine in its parts: the core, the exceptions, memory with the units that guard it, and the
-- board.
use Rattle.std.specs.Prelude.{ℕ, ℤ, pos, int_lt, Bool, ◌/◌, ◌%◌, ◌^◌, ◌==◌, Option, true, false, ◌&&◌, Some, None}
use Rattle.tz_table.specs.declared.units.Side.{Side}
use Rattle.tz_table.specs.declared.units.Side.TheVariants.{Secure, NonSecure}
use Rattle.tz_table.specs.declared.units.Size.{Size}
use Rattle.tz_table.specs.declared.units.Size.TheVariants.{Byte, Half, Word}
use Rattle.tz_model.specs.Board.{BoardValue}
use Rattle.tz_regs.specs.declared.parts.Core.{Core}
use Rattle.tz_regs.specs.declared.parts.Registers.{Registers}
use Rattle.tz_regs.specs.declared.parts.Running.{Running}
use Rattle.tz_regs.specs.Banks.{of_side, stacks_of, status_of}
use Rattle.tz_regs.specs.Registers.{side_in, is_privileged}
use Rattle.tz_regs.specs.RegisterBits.{ccr_unalign_trp}
use Rattle.tz_state.specs.declared.asker.Asker.{Asker}
use Rattle.tz_state.specs.declared.request.Exclusive.{Exclusive}
use Rattle.tz_state.specs.Memory.{Memory}
use Rattle.tz_state.specs.Attribution.{SauState, MapState}
use Rattle.tz_state.specs.Protection.{MpuState}
use Rattle.tz_state.specs.Slots.{ExceptionsValue}
use Rattle.tz_state.specs.Execution.{execution, manual_priority}

-- memory, what guards it, and the exclusive monitor, which holds one address and size or nothing
pub record Bus : Type 0 where
  pub sau : SauState
  pub mpu_s : MpuState
  pub mpu_ns : MpuState
  pub monitor : Option Exclusive
  pub memory : Memory
  pub board : BoardValue

pub record State : Type 0 where
  pub core : Core
  pub exceptions : ExceptionsValue
  pub bus : Bus

-- what decides the attribution of an address
abbrev pub map_in : Bus → MapState
map_in b = record { regions = b.board.regions; sau = b.sau }

abbrev pub map_of : State → MapState
map_of s = map_in s.bus

abbrev pub mpu_of : Side → Bus → MpuState
mpu_of side b = of_side side b.mpu_s b.mpu_ns

abbrev pub with_mpu : Bus → Side → MpuState → Bus
with_mpu b Secure m = record b { mpu_s = m }
with_mpu b NonSecure m = record b { mpu_ns = m }

-- whose code runs; a locked machine counts as Secure
abbrev pub side_of : State → Side
side_of s = side_in s.core

-- code of a side is privileged
abbrev pub is_privileged_in : Side → Core → Bool
is_privileged_in side c = is_privileged c.registers.ipsr (stacks_of side c)

-- the execution priority
abbrev pub priority_in : State → ℤ
priority_in s = manual_priority (execution s.exceptions s.core.masks)

abbrev pub is_negative_at : ℤ → Bool
is_negative_at priority = int_lt priority (pos 0)

-- CCR.UNALIGN_TRP
abbrev pub traps_unaligned : ℕ → Bool
traps_unaligned ccr = ccr / 2 ^ ccr_unalign_trp % 2 == 1

-- the running code as it asks for accesses
abbrev pub asker_in : State → Asker
asker_in s =
    record {
      side = s.core.run.side;
      privileged = is_privileged_in s.core.run.side s.core;
      negative = is_negative_at (priority_in s);
      aligned = traps_unaligned (status_of s.core.run.side s.core).ccr;
    }

-- ---- the exclusive monitor

abbrev pub is_same_size : Size → Size → Bool
is_same_size Byte Byte = true
is_same_size Half Half = true
is_same_size Word Word = true
is_same_size size other = false

-- (own) it holds exactly this address and size
abbrev pub is_held : Option Exclusive → Exclusive → Bool
is_held None e = false
is_held (Some h) e = h.addr == e.addr && is_same_size h.size e.size

-- ---- a state with another part

abbrev pub with_memory : Bus → Memory → Bus
with_memory b m = record b { memory = m }

abbrev pub with_monitor : Bus → Option Exclusive → Bus
with_monitor b e = record b { monitor = e }

abbrev pub with_core : State → Core → State
with_core s c = record s { core = c }

abbrev pub with_bus : State → Bus → State
with_bus s b = record s { bus = b }

abbrev pub with_exceptions : State → ExceptionsValue → State
with_exceptions s e = record s { exceptions = e }

abbrev pub with_run : State → Running → State
with_run s r = record s { core = record s.core { run = r } }

abbrev pub with_registers : State → Registers → State
with_registers s r = record s { core = record s.core { registers = r } }

abbrev pub with_pc : State → ℕ → State
with_pc s pc = with_registers s (record s.core.registers { pc = pc })
