-- The system registers: what each shows to a side, and what reads and writes leave.
use Rattle.std.specs.Prelude.{ℕ, ◌-◌, ◌/◌}
use Rattle.tz_table.specs.declared.units.Side.{Side}
use Rattle.tz_table.specs.declared.units.Side.TheVariants.{Secure, NonSecure}
use Rattle.tz_model.specs.declared.channel.Channel.{Channel}
use Rattle.tz_regs.specs.declared.parts.Status.{Status}
use Rattle.tz_state.specs.declared.register.Register.{Register}
use Rattle.tz_state.specs.declared.register.Register.TheVariants.{Ictr, Stir, Timer, Bits, Priorities, Control, Fault, Mover, Mpu, Sau}
use Rattle.tz_state.specs.declared.register.ControlRegister.{ControlRegister}
use Rattle.tz_state.specs.declared.register.ControlRegister.TheVariants.{Cpuid, Icsr, Vtor, Aircr, Ccr, Shpr1, Shpr2, Shpr3, Shcsr}
use Rattle.tz_state.specs.declared.units.SauRegister.{SauRegister}
use Rattle.tz_state.specs.Attribution.{SauState}
use Rattle.tz_state.specs.Slots.{ExceptionsValue, timer_of}
use Rattle.tz_state.specs.SlotChanges.{with_timer}
use Rattle.tz_state.specs.State.{Bus, mpu_of, with_mpu}
use Rattle.tz_state.specs.UnitRegisters.{sau_value, with_sau_value, mpu_value, with_mpu_value}
use Rattle.tz_state.specs.TimerRegisters.{timer_value, timer_read, timer_written}
use Rattle.tz_state.specs.NvicRegisters.{bank_value, bank_written, priorities_value, priorities_written, stir_written}
use Rattle.tz_state.specs.ControlRegisters.{icsr_value, icsr_written, aircr_value, aircr_written, vtor_written, ccr_value, ccr_written, shpr_value, shpr_written, shcsr_value, shcsr_written}
use Rattle.tz_state.specs.FaultRegisters.{own_status, with_own_status, fault_value, fault_written}
use Rattle.tz_state.specs.MoverRegisters.{channel_seen, channel_after}

-- what the system registers stand in: configuration and fault registers of the core, the exceptions, and the bus
-- with its units; the number of the exception that is handled is only read
pub record SystemState : Type 0 where
  pub ipsr : ℕ
  pub status : Status
  pub exceptions : ExceptionsValue
  pub bus : Bus

-- (own) Cortex-M33, r0p3
abbrev pub cpuid : ℕ
cpuid = 0x410FD213

abbrev pub control_value : Side → SystemState → ControlRegister → ℕ
control_value side s Cpuid = cpuid
control_value side s Icsr = icsr_value side s.exceptions s.ipsr
control_value side s Vtor = (own_status side s.status).vtor
control_value side s Aircr = aircr_value side s.exceptions
control_value side s Ccr = ccr_value (own_status side s.status)
control_value side s Shpr1 = shpr_value side s.exceptions 4
control_value side s Shpr2 = shpr_value side s.exceptions 8
control_value side s Shpr3 = shpr_value side s.exceptions 12
control_value side s Shcsr = shcsr_value side s.exceptions

abbrev pub control_written : Side → SystemState → ControlRegister → ℕ → SystemState
control_written side s Cpuid value = s
control_written side s Icsr value = record s { exceptions = icsr_written side s.exceptions value }
control_written side s Vtor value = record s { status = with_own_status side s.status (vtor_written (own_status side s.status) value) }
control_written side s Aircr value = record s { exceptions = aircr_written side s.exceptions value }
control_written side s Ccr value = record s { status = with_own_status side s.status (ccr_written (own_status side s.status) value) }
control_written side s Shpr1 value = record s { exceptions = shpr_written side s.exceptions 4 value }
control_written side s Shpr2 value = record s { exceptions = shpr_written side s.exceptions 8 value }
control_written side s Shpr3 value = record s { exceptions = shpr_written side s.exceptions 12 value }
control_written side s Shcsr value = record s { exceptions = shcsr_written side s.exceptions value }

-- the SAU is Secure alone
abbrev pub sau_seen : Side → SauState → SauRegister → ℕ
sau_seen Secure u r = sau_value u r
sau_seen NonSecure u r = 0

abbrev pub sau_written_by : Side → SauState → SauRegister → ℕ → SauState
sau_written_by Secure u r value = with_sau_value u r value
sau_written_by NonSecure u r value = u

-- the channel of a side
abbrev pub own_channel : Side → SystemState → Channel
own_channel side s = (own_status side s.status).channel

abbrev pub with_own_channel : Side → Status → Channel → Status
with_own_channel side c channel = with_own_status side c (record (own_status side c) { channel = channel })

-- what a register shows to a side
abbrev pub value_of : Side → SystemState → Register → ℕ
value_of side s Ictr = (s.exceptions.interrupts - 1) / 32
value_of side s Stir = 0
value_of side s (Timer r) = timer_value (timer_of s.exceptions side) r
value_of side s (Bits bank word) = bank_value side s.exceptions bank word
value_of side s (Priorities word) = priorities_value side s.exceptions word
value_of side s (Control r) = control_value side s r
value_of side s (Fault r) = fault_value side s.exceptions.bfhfnmins s.status r
value_of side s (Mover r) = channel_seen s.bus.board.mover (own_channel side s) r
value_of side s (Mpu r) = mpu_value (mpu_of side s.bus) r
value_of side s (Sau r) = sau_seen side s.bus.sau r

-- what a read by a side leaves: that of a timer may clear COUNTFLAG
abbrev pub after_read : Side → SystemState → Register → SystemState
after_read side s Ictr = s
after_read side s Stir = s
after_read side s (Timer r) = record s { exceptions = with_timer s.exceptions side (timer_read (timer_of s.exceptions side) r) }
after_read side s (Bits bank word) = s
after_read side s (Priorities word) = s
after_read side s (Control r) = s
after_read side s (Fault r) = s
after_read side s (Mover r) = s
after_read side s (Mpu r) = s
after_read side s (Sau r) = s

-- what a word written by a side leaves
abbrev pub written : Side → SystemState → Register → ℕ → SystemState
written side s Ictr value = s
written side s Stir value = record s { exceptions = stir_written side s.exceptions value }
written side s (Timer r) value = record s { exceptions = with_timer s.exceptions side (timer_written (timer_of s.exceptions side) r value) }
written side s (Bits bank word) value = record s { exceptions = bank_written side s.exceptions bank word value }
written side s (Priorities word) value = record s { exceptions = priorities_written side s.exceptions word value }
written side s (Control r) value = control_written side s r value
written side s (Fault r) value = record s { status = fault_written side s.exceptions.bfhfnmins s.status r value }
written side s (Mover r) value = record s { status = with_own_channel side s.status (channel_after s.bus.board.mover (own_channel side s) r value) }
written side s (Mpu r) value = record s { bus = with_mpu s.bus side (with_mpu_value s.bus.board.profile (mpu_of side s.bus) r value) }
written side s (Sau r) value = record s { bus = record s.bus { sau = sau_written_by side s.bus.sau r value } }
