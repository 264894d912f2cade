-- The table of faults, in the order of the status registers MMFSR, BFSR, UFSR, HFSR and SFSR (DDI0553, chapter B3.9 and
-- `CreateException`).
use Rattle.std.specs.Prelude.{ℕ, ◌+◌, Bool, if◌then◌else◌}
use Rattle.tz_table.specs.declared.units.Side.{Side}
use Rattle.tz_model.specs.declared.report.Fault.{Fault}
use Rattle.tz_model.specs.declared.report.Fault.TheVariants.{Undef, InvState, InvPc, NoCp, StackLimit, Unaligned, DivZero, DataAccess, Exec, Precise, ExecBus, Violation, EntryPoint, Transition, ExcReturn, Signature, Breakpoint, Call}
use Rattle.tz_regs.specs.FaultBits.{iaccviol, daccviol, munstkerr, mstkerr, mmarvalid, ibuserr, preciserr, unstkerr, stkerr, bfarvalid, undefinstr, invstate, invpc, nocp, stkof, unaligned, divbyzero, debugevt, invep, invis, inver, auviol, invtran, sfarvalid}
use Rattle.tz_frames.specs.declared.fault.FaultEffect.{FaultEffect}
use Rattle.tz_frames.specs.declared.fault.FaultAddress.{FaultAddress}
use Rattle.tz_frames.specs.declared.fault.FaultAddress.TheVariants.{Unwritten, Mmfar, Bfar, Sfar}
use Rattle.tz_frames.specs.declared.fault.FaultException.{FaultException}
use Rattle.tz_frames.specs.declared.fault.FaultException.TheVariants.{MemManage, BusFault, UsageFault, HardFault, SecureFault, SVCall}

-- a line of the table
abbrev pub sets : ℕ → FaultAddress → FaultException → Side → FaultEffect
sets status address exception side = record { status = status; address = address; exception = exception; side = side }

-- a fault of code of a side: its status bits, the register of its address, its exception, and the side whose these are.
-- HardFault is of the side that BFHFNMINS gives it, BusFault has one slot, and SecureFault is Secure
abbrev pub effect_of : Side → Fault → FaultEffect
effect_of side (Exec of) = sets iaccviol Unwritten MemManage of
effect_of side (DataAccess address of) = sets (daccviol + mmarvalid) (Mmfar address) MemManage of
effect_of side ExecBus = sets ibuserr Unwritten BusFault side
effect_of side (Precise address) = sets (preciserr + bfarvalid) (Bfar address) BusFault side
effect_of side Undef = sets undefinstr Unwritten UsageFault side
effect_of side InvState = sets invstate Unwritten UsageFault side
effect_of side (InvPc of) = sets invpc Unwritten UsageFault of
effect_of side NoCp = sets nocp Unwritten UsageFault side
effect_of side (StackLimit of) = sets stkof Unwritten UsageFault of
effect_of side Unaligned = sets unaligned Unwritten UsageFault side
effect_of side DivZero = sets divbyzero Unwritten UsageFault side
effect_of side Breakpoint = sets debugevt Unwritten HardFault side
effect_of side EntryPoint = sets invep Unwritten SecureFault side
effect_of side Signature = sets invis Unwritten SecureFault side
effect_of side ExcReturn = sets inver Unwritten SecureFault side
effect_of side (Violation address) = sets (auviol + sfarvalid) (Sfar address) SecureFault side
effect_of side Transition = sets invtran Unwritten SecureFault side
effect_of side Call = sets 0 Unwritten SVCall side

-- (own) a word of a frame that isn't written (`stacking`) or isn't read has bits of its own, and no address
abbrev pub word_effect : Bool → Side → Fault → FaultEffect
word_effect stacking side (DataAccess address of) = sets (if stacking then mstkerr else munstkerr) Unwritten MemManage of
word_effect stacking side (Precise address) = sets (if stacking then stkerr else unstkerr) Unwritten BusFault side
word_effect stacking side (Violation address) = sets auviol Unwritten SecureFault side
word_effect stacking side fault = effect_of side fault
