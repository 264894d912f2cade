-- What a fault sets and pends: its status bits and address register, and the exception that it becomes (DDI0553,
-- `CreateException`).
use Rattle.std.specs.Prelude.{ℕ, Bool, true, false, bit_or}
use Rattle.tz_table.specs.declared.units.Side.{Side}
use Rattle.tz_model.specs.declared.report.Fault.{Fault}
use Rattle.tz_model.specs.declared.report.Fault.TheVariants.{StackLimit, Signature}
use Rattle.tz_model.specs.declared.report.Slot.{Slot}
use Rattle.tz_regs.specs.declared.parts.Core.{Core}
use Rattle.tz_regs.specs.declared.parts.Status.{Status}
use Rattle.tz_regs.specs.FaultBits.{forced}
use Rattle.tz_state.specs.declared.taken.Taken.{Taken}
use Rattle.tz_state.specs.declared.taken.Taken.TheVariants.{AsIs, Hard, Lockup}
use Rattle.tz_state.specs.ExceptionNumbers.{hard_fault, mem_manage, bus_fault, usage_fault, secure_fault, sv_call}
use Rattle.tz_state.specs.Slots.{ExceptionsValue}
use Rattle.tz_state.specs.SlotChanges.{pended}
use Rattle.tz_state.specs.Escalation.{hard_side, escalated}
use Rattle.tz_state.specs.FaultRegisters.{own_status, with_own_status}
use Rattle.tz_frames.specs.declared.fault.FaultEffect.{FaultEffect}
use Rattle.tz_frames.specs.declared.fault.FaultAddress.{FaultAddress}
use Rattle.tz_frames.specs.declared.fault.FaultAddress.TheVariants.{Unwritten, Mmfar, Bfar, Sfar}
use Rattle.tz_frames.specs.declared.fault.FaultException.{FaultException}
use Rattle.tz_frames.specs.declared.fault.FaultException.TheVariants.{MemManage, BusFault, UsageFault, HardFault, SecureFault, SVCall}
use Rattle.tz_frames.specs.declared.frame.StackFault.{StackFault}
use Rattle.tz_frames.specs.declared.frame.StackFault.TheVariants.{Limit, Access, Signature as Unsigned}
use Rattle.tz_frames.specs.FaultTable.{effect_of, word_effect}

-- ---- status bits and addresses

-- bits of UFSR of a side
abbrev pub with_ufsr : Side → ℕ → Status → Status
with_ufsr side bits c = with_own_status side c (record (own_status side c) { ufsr = bit_or (own_status side c).ufsr bits })

-- bits of MMFSR of a side
abbrev pub with_mmfsr : Side → ℕ → Status → Status
with_mmfsr side bits c = with_own_status side c (record (own_status side c) { mmfsr = bit_or (own_status side c).mmfsr bits })

abbrev pub with_mmfar : Side → ℕ → Status → Status
with_mmfar side address c = with_own_status side c (record (own_status side c) { mmfar = address })

-- bits of BFSR
abbrev pub with_bfsr : ℕ → Status → Status
with_bfsr bits c = record c { bus = record c.bus { bfsr = bit_or c.bus.bfsr bits } }

abbrev pub with_bfar : ℕ → Status → Status
with_bfar address c = record c { bus = record c.bus { bfar = address } }

-- bits of HFSR
abbrev pub with_hfsr : ℕ → Status → Status
with_hfsr bits c = record c { bus = record c.bus { hfsr = bit_or c.bus.hfsr bits } }

-- bits of SFSR
abbrev pub with_sfsr : ℕ → Status → Status
with_sfsr bits c = record c { security = record c.security { sfsr = bit_or c.security.sfsr bits } }

abbrev pub with_sfar : ℕ → Status → Status
with_sfar address c = record c { security = record c.security { sfar = address } }

-- bits of the status register that an exception of a side has
abbrev pub with_bits : FaultException → Side → ℕ → Status → Status
with_bits MemManage side bits c = with_mmfsr side bits c
with_bits BusFault side bits c = with_bfsr bits c
with_bits UsageFault side bits c = with_ufsr side bits c
with_bits HardFault side bits c = with_hfsr bits c
with_bits SecureFault side bits c = with_sfsr bits c
with_bits SVCall side bits c = c

-- an address in its register, of a side
abbrev pub with_address : FaultAddress → Side → Status → Status
with_address Unwritten side c = c
with_address (Mmfar address) side c = with_mmfar side address c
with_address (Bfar address) side c = with_bfar address c
with_address (Sfar address) side c = with_sfar address c

-- what a line of the table sets
abbrev pub with_effect : FaultEffect → Status → Status
with_effect effect c = with_address effect.address effect.side (with_bits effect.exception effect.side effect.status c)

-- what a fault of code of a side sets
abbrev pub status_after : Side → Fault → Status → Status
status_after side fault c = with_effect (effect_of side fault) c

-- what a word of a frame sets that isn't written or read
abbrev pub word_status : Bool → Side → Fault → Status → Status
word_status stacking side fault c = with_effect (word_effect stacking side fault) c

-- what a frame of the stack of a side sets that isn't written or read
abbrev pub frame_status : Bool → Side → StackFault → Status → Status
frame_status stacking side (Limit of) c = status_after side (StackLimit of) c
frame_status stacking side (Access fault) c = word_status stacking side fault c
frame_status stacking side Unsigned c = status_after side Signature c

-- ---- exceptions

abbrev pub slot : ℕ → Side → Slot
slot number side = record { number = number; side = side }

-- an exception of a side; HardFault is of the side that BFHFNMINS gives it
abbrev pub exception_slot : ExceptionsValue → Side → FaultException → Slot
exception_slot e side MemManage = slot mem_manage side
exception_slot e side BusFault = slot bus_fault side
exception_slot e side UsageFault = slot usage_fault side
exception_slot e side HardFault = slot hard_fault (hard_side e side)
exception_slot e side SecureFault = slot secure_fault side
exception_slot e side SVCall = slot sv_call side

-- the exception of a fault of code of a side
abbrev pub exception_of : ExceptionsValue → Side → Fault → Slot
exception_of e side fault = exception_slot e (effect_of side fault).side (effect_of side fault).exception

-- that of a frame of the stack of a side
abbrev pub frame_exception : ExceptionsValue → Side → StackFault → Slot
frame_exception e side (Limit of) = exception_of e side (StackLimit of)
frame_exception e side (Access fault) = exception_of e side fault
frame_exception e side Unsigned = exception_of e side Signature

-- ---- what pends

-- the core and the exceptions after a fault, and whether the core has to lock, since neither its exception nor
-- HardFault can be taken
pub record Raised : Type 0 where
  pub core : Core
  pub exceptions : ExceptionsValue
  pub locks : Bool

abbrev pub with_status : Core → Status → Core
with_status c status = record c { status = status }

-- an exception pends as what it becomes; where that is HardFault or nothing, HFSR.FORCED is set
abbrev pub raised_as : Taken → Slot → Core → ExceptionsValue → Raised
raised_as AsIs given c e = record { core = c; exceptions = pended e given; locks = false }
raised_as (Hard side) given c e =
    record { core = with_status c (with_hfsr forced c.status); exceptions = pended e (slot hard_fault side); locks = false }
raised_as Lockup given c e = record { core = with_status c (with_hfsr forced c.status); exceptions = e; locks = true }

abbrev pub raised : Slot → Core → ExceptionsValue → Raised
raised given c e = raised_as (escalated e c.masks given) given c e

-- a fault of code of a side, and one of a frame of the stack of a side
abbrev pub faulted : Side → Fault → Core → ExceptionsValue → Raised
faulted side fault c e = raised (exception_of e side fault) (with_status c (status_after side fault c.status)) e

abbrev pub frame_faulted : Bool → Side → StackFault → Core → ExceptionsValue → Raised
frame_faulted stacking side fault c e =
    raised (frame_exception e side fault) (with_status c (frame_status stacking side fault c.status)) e
