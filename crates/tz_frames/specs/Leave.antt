-- How an exception returns (DDI0553, `ExceptionReturn`, `ValidateExceptionReturn`, `DeActivate`, `PopStack`,
-- `TailChain`).
use Rattle.std.specs.Prelude.{ℕ, ◌+◌, ◌*◌, ◌/◌, ◌%◌, ◌^◌, ◌==◌, nat_lt, Bool, true, false, ◌&&◌, ◌||◌, not, if◌then◌else◌, Option, Some, None, Result, Ok, Err}
use Rattle.tz_table.specs.declared.units.Side.{Side}
use Rattle.tz_table.specs.declared.units.Side.TheVariants.{Secure, NonSecure}
use Rattle.tz_model.specs.declared.board.Profile.{Profile}
use Rattle.tz_model.specs.declared.report.Fault.{Fault}
use Rattle.tz_model.specs.declared.report.Fault.TheVariants.{InvPc, ExcReturn}
use Rattle.tz_model.specs.declared.report.Slot.{Slot}
use Rattle.tz_model.specs.Words.{wrap, is_nonsecure_side}
use Rattle.tz_regs.specs.declared.parts.Core.{Core}
use Rattle.tz_regs.specs.declared.parts.Masks.{Masks}
use Rattle.tz_regs.specs.declared.parts.Stacks.{Stacks}
use Rattle.tz_regs.specs.Banks.{of_side, stacks_of, with_stacks, masks_of, with_masks}
use Rattle.tz_regs.specs.Registers.{sp_of}
use Rattle.tz_state.specs.ExceptionNumbers.{nmi, hard_fault}
use Rattle.tz_state.specs.Slots.{ExceptionsValue, at, exists, index_of, side_at, is_banked}
use Rattle.tz_state.specs.SlotChanges.{deactivated}
use Rattle.tz_state.specs.Priority.{zero_priority, nmi_priority, secure_hard_fault_priority}
use Rattle.tz_state.specs.Execution.{raw_priority, takes_first}
use Rattle.tz_frames.specs.ReturnBits.{exc_return_es, exc_return_spsel, exc_return_mode, exc_return_ftype, exc_return_dcrs, exc_return_s, exc_return_prefix, retpsr_sprealign}
use Rattle.tz_frames.specs.FrameAccess.{FrameAnswering}
use Rattle.tz_frames.specs.declared.frame.StackFault.{StackFault}
use Rattle.tz_frames.specs.declared.frame.Basic.{Basic}
use Rattle.tz_frames.specs.declared.frame.Callee.{Callee}
use Rattle.tz_frames.specs.declared.entering.Entering.{Entering}
use Rattle.tz_frames.specs.declared.entering.Entered.{Entered}
use Rattle.tz_frames.specs.declared.entering.Entered.TheVariants as entered
use Rattle.tz_frames.specs.declared.leaving.Returning.{Returning}
use Rattle.tz_frames.specs.declared.leaving.Unstacked.{Unstacked}
use Rattle.tz_frames.specs.declared.leaving.Refusal.{Refusal}
use Rattle.tz_frames.specs.declared.leaving.Refusal.TheVariants.{Value, Frame, Mode}
use Rattle.tz_frames.specs.declared.leaving.Left.{Left}
use Rattle.tz_frames.specs.declared.leaving.Left.TheVariants as lefts
use Rattle.tz_frames.specs.Status.{Raised, slot, faulted, frame_faulted}
use Rattle.tz_frames.specs.Registers.{number_in, resumed_registers}
use Rattle.tz_frames.specs.Stack.{basic_frame_size, additional_frame_size, both_frames_size, with_side_sp, popped_additional, popped_basic}
use Rattle.tz_frames.specs.Enter.{Work, Done, is_secure, with_lock, chooses}

-- ---- the value

-- an EXC_RETURN value: bits 31:24 are ones
abbrev pub is_exc_return : ℕ → Bool
is_exc_return target = target / 2 ^ exc_return_prefix == 0xFF

abbrev pub is_set : ℕ → ℕ → Bool
is_set value bit = value / 2 ^ bit % 2 == 1

abbrev pub returning_by : Side → ℕ → Returning
returning_by side value =
    record {
      es = is_secure side && is_set value exc_return_es;
      process = is_set value exc_return_spsel;
      thread = is_set value exc_return_mode;
      dcrs = is_set value exc_return_dcrs;
      secure = is_set value exc_return_s;
    }

-- the side that a bit of the value names: ES or S
abbrev pub side_of_bit : Bool → Side
side_of_bit secure = if secure then Secure else NonSecure

-- the exception that returns
abbrev pub slot_returning : Core → Returning → Slot
slot_returning c r = slot c.registers.ipsr (side_of_bit r.es)

-- ---- what is wrong with it

-- bits 23:7 are ones, bit 1 is zero, and FType is one
abbrev pub is_well_formed : ℕ → Bool
is_well_formed value = value / 2 ^ 7 % 2 ^ 17 == 0x1FFFF && (not (is_set value 1) && is_set value exc_return_ftype)

-- Non-secure code claims a Secure exception, or an additional frame left out
abbrev pub is_forged : Side → ℕ → Bool
is_forged Secure value = false
is_forged NonSecure value = is_set value exc_return_es || not (is_set value exc_return_dcrs)

abbrev pub is_side : Side → Side → Bool
is_side Secure side = is_secure side
is_side NonSecure side = is_nonsecure_side side

-- the exception is active, and of that side
abbrev pub is_returnable : ExceptionsValue → Slot → Bool
is_returnable e given =
    exists e given && ((at e (index_of given)).active && (is_banked given.number || is_side given.side (side_at e (index_of given))))

-- the fault of an EXC_RETURN value, where it has one (DDI0553, `ValidateExceptionReturn`)
abbrev pub exc_return_fault : Core → ExceptionsValue → ℕ → Option Fault
exc_return_fault c e value =
    if not (is_well_formed value) then Some (InvPc c.run.side)
    else if is_forged c.run.side value then Some ExcReturn
    else if not (is_returnable e (slot_returning c (returning_by c.run.side value))) then Some (InvPc c.run.side)
    else None

-- ---- the exception that returns is no longer active

-- the raw priority is negative: NMI or a HardFault is active
abbrev pub is_urgent : ExceptionsValue → Bool
is_urgent e = nat_lt (raw_priority e) zero_priority

-- (own) the one that gives a raw priority; where both HardFaults do, the Secure one
abbrev pub urgent_slot : ExceptionsValue → ℕ → Slot
urgent_slot e raw =
    if raw == nmi_priority then slot nmi Secure
    else if raw == secure_hard_fault_priority then slot hard_fault Secure
    else if not e.bfhfnmins && (at e (index_of (slot hard_fault Secure))).active then slot hard_fault Secure
    else slot hard_fault NonSecure

-- a number that has no slot leaves all as it was
abbrev pub freed : ExceptionsValue → Slot → ExceptionsValue
freed e given =
    if is_urgent e then deactivated e (urgent_slot e (raw_priority e))
    else if exists e given then deactivated e given
    else e

-- FAULTMASK of the side of ES is cleared, unless NMI returns or the raw priority was negative
abbrev pub keeps_faultmask : Core → ExceptionsValue → Bool
keeps_faultmask c e = c.registers.ipsr == nmi || is_urgent e

abbrev pub unmasked : Bool → Side → Masks → Masks
unmasked keeps side m = with_masks side m (record (masks_of side m) { faultmask = keeps && (masks_of side m).faultmask })

-- and its CONTROL.SPSEL is that of the value
abbrev pub core_returning : ExceptionsValue → Returning → Core → Core
core_returning e r c =
    record (with_stacks (side_of_bit r.es) c (record (stacks_of (side_of_bit r.es) c) { spsel = r.process })) {
      masks = unmasked (keeps_faultmask c e) (side_of_bit r.es) c.masks;
    }

-- ---- a tail-chain

-- it interrupts what the exception that returns interrupted. No additional frame is written that is there already,
-- and one that a Secure exception would find left out wasn't
abbrev pub chaining : Returning → Bool → Entering
chaining r touched =
    record {
      secure = r.secure;
      thread = r.thread;
      dcrs = r.dcrs && (r.es || not r.secure);
      skip = not r.es || not r.dcrs;
      needed_additional = false;
      frame = None;
      vector = None;
      last = None;
      touched = touched;
    }

-- what a return leaves
pub record Leaving (H : Type 0) : Type 0 where
  pub core : Core
  pub exceptions : ExceptionsValue
  pub held : H
  pub result : Left

-- of a return that is refused, where it is
abbrev pub left_of : Option Refusal → Entered → Left
left_of refused (entered.Taken given x) = lefts.Chained given refused x
left_of refused (entered.Lockup x) = lefts.Lockup refused x

abbrev pub leaving_by : {H : Type 0} → Option Refusal → Done H → Leaving H
leaving_by refused d = record { core = d.core; exceptions = d.exceptions; held = d.held; result = left_of refused d.result }

unfoldable pub chained : {H : Type 0} → FrameAnswering H → Profile → Returning → Option Refusal → Bool → Core → ExceptionsValue → H → Leaving H
chained answering profile r refused touched c e h =
    leaving_by refused (chooses answering profile (record { core = c; exceptions = e; held = h; entry = chaining r touched }))

-- a return is refused: a fault pends and is entered
abbrev pub chained_raised : {H : Type 0} → FrameAnswering H → Profile → Returning → Refusal → Bool → H → Raised → Leaving H
chained_raised answering profile r refusal touched h raised =
    if raised.locks then record { core = with_lock raised.core; exceptions = raised.exceptions; held = h; result = lefts.Lockup (Some refusal) (chaining r touched) }
    else chained answering profile r (Some refusal) touched raised.core raised.exceptions h

-- ---- the frames

-- the additional frame was written: Secure code was interrupted, by a Non-secure exception first or last
abbrev pub has_callee : Returning → Bool
has_callee r = r.secure && (not r.es || not r.dcrs)

abbrev pub returns_to_process : Core → Returning → Bool
returns_to_process c r = r.thread && (stacks_of (side_of_bit r.secure) c).spsel

abbrev pub returns_privileged : Core → Returning → Bool
returns_privileged c r = not r.thread || not (stacks_of (side_of_bit r.secure) c).npriv

abbrev pub return_sp : Core → Returning → ℕ
return_sp c r = sp_of (returns_to_process c r) (stacks_of (side_of_bit r.secure) c)

abbrev pub with_basic : Option Callee → Result Basic StackFault → Result Unstacked StackFault
with_basic callee (Ok basic) = Ok (record { callee = callee; basic = basic })
with_basic callee (Err fault) = Err fault

abbrev pub with_callee : Result Callee StackFault → Result Basic StackFault → Result Unstacked StackFault
with_callee (Ok callee) basic = with_basic (Some callee) basic
with_callee (Err fault) basic = Err fault

-- the additional frame first, and the basic frame above it
unfoldable pub unstacked : {H : Type 0} → FrameAnswering H → Core → Returning → H → Result Unstacked StackFault
unstacked answering c r h =
    if has_callee r
    then with_callee (popped_additional answering h (return_sp c r) (returns_privileged c r))
    (popped_basic answering h (wrap (return_sp c r + additional_frame_size)) (side_of_bit r.secure) (returns_privileged c r))
    else with_basic None (popped_basic answering h (return_sp c r) (side_of_bit r.secure) (returns_privileged c r))

abbrev pub frames_size : Option Callee → ℕ
frames_size None = basic_frame_size
frames_size (Some callee) = both_frames_size

-- above the frames, and 4 more where SPREALIGN says so
abbrev pub sp_above : ℕ → Unstacked → ℕ
sp_above sp u = wrap (sp + frames_size u.callee + 4 * (u.basic.retpsr / 2 ^ retpsr_sprealign % 2))

abbrev pub resumed : Returning → Unstacked → Core → Core
resumed r u c =
    record (with_side_sp (side_of_bit r.secure) (returns_to_process c r) (sp_above (return_sp c r) u) c) {
      run = record c.run { side = side_of_bit r.secure };
      registers = resumed_registers c.registers u.callee u.basic;
      event = true;
    }

-- to Thread mode with the number 0, to Handler mode with another
abbrev pub modes_agree : Returning → Basic → Bool
modes_agree r b = if r.thread then number_in b.retpsr == 0 else not (number_in b.retpsr == 0)

abbrev pub resumes : {H : Type 0} → FrameAnswering H → Profile → Returning → Core → ExceptionsValue → H → Result Unstacked StackFault → Leaving H
resumes answering profile r c e h (Err fault) = chained_raised answering profile r (Frame fault) r.secure h (frame_faulted false (side_of_bit r.secure) fault c e)
resumes answering profile r c e h (Ok u) =
    if modes_agree r u.basic then record { core = resumed r u c; exceptions = e; held = h; result = lefts.Resumed r.secure }
    else chained_raised answering profile r (Mode (side_of_bit r.secure)) r.secure h (faulted (side_of_bit r.secure) (InvPc (side_of_bit r.secure)) c e)

-- ---- all of it

-- another exception that can be taken comes first
unfoldable pub goes_back : {H : Type 0} → FrameAnswering H → Profile → Returning → Core → ExceptionsValue → H → Leaving H
goes_back answering profile r c e h =
    if takes_first e c.masks then chained answering profile r None false c e h else resumes answering profile r c e h (unstacked answering c r h)

abbrev pub leaves_noting : {H : Type 0} → FrameAnswering H → Profile → Side → Option Fault → Returning → Core → ExceptionsValue → H → Leaving H
leaves_noting answering profile side (Some fault) r c e h = chained_raised answering profile r (Value fault) false h (faulted side fault c e)
leaves_noting answering profile side None r c e h = goes_back answering profile r c e h

abbrev pub leaves_as : {H : Type 0} → FrameAnswering H → Profile → ℕ → Returning → Core → ExceptionsValue → H → Leaving H
leaves_as answering profile value r c e h =
    leaves_noting answering profile c.run.side (exc_return_fault c e value) r (core_returning e r c) (freed e (slot_returning c r)) h

-- the exception that runs returns by a value
unfoldable pub leaves : {H : Type 0} → FrameAnswering H → Profile → Core → ExceptionsValue → H → ℕ → Leaving H
leaves answering profile c e h value = leaves_as answering profile value (returning_by c.run.side value) c e h
