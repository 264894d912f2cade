-- How an exception is taken (DDI0553, `ExceptionEntry`, `PushStack`, `ExceptionTaken`, `Vector`): the basic frame, and
-- then a choice among the exceptions that pend, which is made again after a fault.
use Rattle.std.specs.Prelude.{ℕ, zero, suc, ◌+◌, ◌*◌, ◌/◌, ◌%◌, ◌^◌, ◌==◌, nat_lt, Bool, true, false, ◌&&◌, ◌||◌, not, if◌then◌else◌, Option, Some, None, Result, Ok, Err}
use Rattle.tz_table.specs.declared.units.Side.{Side}
use Rattle.tz_table.specs.declared.units.Side.TheVariants.{Secure, NonSecure}
use Rattle.tz_model.specs.declared.board.Profile.{Profile}
use Rattle.tz_model.specs.declared.report.Fault.{Fault}
use Rattle.tz_model.specs.declared.report.Slot.{Slot}
use Rattle.tz_model.specs.Words.{even_of, is_nonsecure_side}
use Rattle.tz_regs.specs.declared.parts.Core.{Core}
use Rattle.tz_regs.specs.declared.parts.Stacks.{Stacks}
use Rattle.tz_regs.specs.Banks.{stacks_of, with_stacks}
use Rattle.tz_regs.specs.Registers.{is_handler}
use Rattle.tz_regs.specs.FaultBits.{vecttbl}
use Rattle.tz_regs.specs.Special.{number_of}
use Rattle.tz_state.specs.ExceptionNumbers.{nmi, hard_fault}
use Rattle.tz_state.specs.Slots.{ExceptionsValue}
use Rattle.tz_state.specs.SlotChanges.{pended, activated}
use Rattle.tz_state.specs.Priority.{hard_priority, chosen}
use Rattle.tz_state.specs.Execution.{execution}
use Rattle.tz_state.specs.Escalation.{hard_side}
use Rattle.tz_frames.specs.ReturnBits.{exc_return_ones, exc_return_spsel, exc_return_mode, exc_return_ftype, exc_return_dcrs, exc_return_s}
use Rattle.tz_frames.specs.FrameAccess.{FrameAnswering, Vector}
use Rattle.tz_frames.specs.declared.frame.StackFault.{StackFault}
use Rattle.tz_frames.specs.declared.entering.FrameFault.{FrameFault}
use Rattle.tz_frames.specs.declared.entering.Entering.{Entering}
use Rattle.tz_frames.specs.declared.entering.Choice.{Choice}
use Rattle.tz_frames.specs.declared.entering.Choice.TheVariants as choices
use Rattle.tz_frames.specs.declared.entering.Entered.{Entered}
use Rattle.tz_frames.specs.declared.entering.Entered.TheVariants as entered
use Rattle.tz_frames.specs.Status.{Raised, slot, with_hfsr, with_status, frame_faulted}
use Rattle.tz_frames.specs.Registers.{taken_registers}
use Rattle.tz_frames.specs.Stack.{Pushed, pushed_basic, pushed_additional}

-- what an entry works on
pub record Work (H : Type 0) : Type 0 where
  pub core : Core
  pub exceptions : ExceptionsValue
  pub held : H
  pub entry : Entering

-- what one choice leaves, and what comes of it
pub record Chosen (H : Type 0) : Type 0 where
  pub work : Work H
  pub choice : Choice

abbrev pub is_secure : Side → Bool
is_secure side = not (is_nonsecure_side side)

-- ---- the exception is taken

-- DCRS: where a choice called for the additional frame, whether a Secure exception is not taken after all
abbrev pub dcrs_of : Entering → Side → Bool
dcrs_of x side = if x.needed_additional then is_nonsecure_side side else x.dcrs

-- EXC_RETURN: ones from bit 7 up, S, DCRS, FType 1, Mode, SPSEL, and ES
abbrev pub exc_return : Entering → Bool → Side → ℕ
exc_return x spsel side =
    exc_return_ones + 2 ^ exc_return_s * number_of x.secure + 2 ^ exc_return_dcrs * number_of (dcrs_of x side) + 2 ^ exc_return_ftype
    + 2 ^ exc_return_mode * number_of x.thread + 2 ^ exc_return_spsel * number_of spsel + number_of (is_secure side)

-- the core that handles an exception, from its vector
abbrev pub handling : Profile → Core → Entering → Slot → ℕ → Core
handling profile c x given vector =
    record (with_stacks given.side c (record (stacks_of given.side c) { spsel = false })) {
      run = record c.run { side = given.side };
      registers = record (taken_registers profile given.side x.secure c.registers) {
        lr = exc_return x (stacks_of given.side c).spsel given.side;
        pc = even_of vector;
        it = 0;
        t = vector % 2 == 1;
        ipsr = given.number;
      };
      event = true;
    }

-- ---- the vector

-- NMI and HardFault
abbrev pub is_last_resort : Slot → Bool
is_last_resort given = given.number == nmi || given.number == hard_fault

-- where a vector fails: the choice is made again where HardFault can be taken in its place
abbrev pub vector_choice : Bool → Choice
vector_choice taken = if taken then choices.Again else choices.Lockup

abbrev pub can_be_hard_fault : Core → ExceptionsValue → Slot → Bool
can_be_hard_fault c e given = not (is_last_resort given) && nat_lt (hard_priority e (hard_side e given.side)) (execution e c.masks)

-- an entry that can't read the vector of an exception
abbrev pub without_vector : Entering → Slot → Entering
without_vector x given =
    record x {
      vector = if is_last_resort given then x.vector else Some given;
      last = if is_last_resort given then Some given else x.last;
    }

-- HFSR.VECTTBL alone is set, and HardFault pends
unfoldable pub vector_failed : {H : Type 0} → Work H → Slot → Chosen H
vector_failed w given =
    record {
      work = record w {
        core = with_status w.core (with_hfsr vecttbl w.core.status);
        exceptions = pended w.exceptions (slot hard_fault (hard_side w.exceptions given.side));
        entry = without_vector w.entry given;
      };
      choice = vector_choice (can_be_hard_fault w.core w.exceptions given);
    }

abbrev pub vectored_by : {H : Type 0} → Profile → Work H → Slot → Result ℕ Fault → Chosen H
vectored_by profile w given (Ok vector) =
    record {
      work = record w { core = handling profile w.core w.entry given vector; exceptions = activated w.exceptions given };
      choice = choices.Taken given;
    }
vectored_by profile w given (Err fault) = vector_failed w given

-- an entry that reads the vector of an exception of this side; that of a Secure one touches Secure state
abbrev pub vector_touched : Entering → Side → Entering
vector_touched x side = record x { touched = is_secure side || x.touched }

unfoldable pub vectored : {H : Type 0} → FrameAnswering H → Profile → Work H → Slot → Chosen H
vectored answering profile w given =
    vectored_by profile (record w { entry = vector_touched w.entry given.side }) given (answering w.held (Vector given.number given.side)).1

-- ---- the additional frame

-- a Non-secure exception of Secure code calls for it
abbrev pub needs_additional : Entering → Slot → Bool
needs_additional x given = x.secure && is_nonsecure_side given.side

-- the Secure stack of the mode that was interrupted, and its privilege
abbrev pub callee_process : Core → Entering → Bool
callee_process c x = x.thread && c.stacks_s.spsel

abbrev pub callee_privileged : Core → Entering → Bool
callee_privileged c x = not x.thread || not c.stacks_s.npriv

abbrev pub raised_choice : Bool → Choice
raised_choice locks = if locks then choices.Lockup else choices.Again

-- an entry whose frame has faulted, the additional one or the basic one
abbrev pub without_frame : Entering → Bool → StackFault → Entering
without_frame x additional fault = record x { frame = Some (record { additional = additional; fault = fault }) }

-- a fault of a frame pends, and the choice is made again
abbrev pub after_raise : {H : Type 0} → H → Entering → Raised → Chosen H
after_raise h x r =
    record {
      work = record { core = r.core; exceptions = r.exceptions; held = h; entry = x };
      choice = raised_choice r.locks;
    }

-- only the first frame that faults counts
abbrev pub stacked_by : {H : Type 0} → FrameAnswering H → Profile → Work H → Slot → Option FrameFault → Option StackFault → Chosen H
stacked_by answering profile w given None (Some fault) = after_raise w.held (without_frame w.entry true fault) (frame_faulted true Secure fault w.core w.exceptions)
stacked_by answering profile w given (Some first) (Some fault) = vectored answering profile w given
stacked_by answering profile w given first None = vectored answering profile w given

abbrev pub with_additional : Entering → Entering
with_additional x = record x { skip = true; needed_additional = true }

abbrev pub stacked : {H : Type 0} → FrameAnswering H → Profile → Work H → Slot → Pushed H → Chosen H
stacked answering profile w given p =
    stacked_by answering profile (record w { core = p.core; held = p.held; entry = with_additional w.entry }) given w.entry.frame p.fault

-- ---- one choice

unfoldable pub taking : {H : Type 0} → FrameAnswering H → Profile → Work H → Slot → Chosen H
taking answering profile w given =
    if needs_additional w.entry given && not w.entry.skip
    then stacked answering profile w given (pushed_additional answering w.core w.held (callee_process w.core w.entry) (callee_privileged w.core w.entry))
    else vectored answering profile (record w { entry = record w.entry { needed_additional = w.entry.needed_additional || needs_additional w.entry given } }) given

abbrev pub choosing_from : {H : Type 0} → FrameAnswering H → Profile → Work H → Option Slot → Chosen H
choosing_from answering profile w None = record { work = w; choice = choices.Lockup }
choosing_from answering profile w (Some given) = taking answering profile w given

-- the exception that comes first is taken
unfoldable pub choosing : {H : Type 0} → FrameAnswering H → Profile → Work H → Chosen H
choosing answering profile w = choosing_from answering profile w (chosen w.exceptions)

-- ---- the choices of an entry

-- what an entry leaves
pub record Done (H : Type 0) : Type 0 where
  pub core : Core
  pub exceptions : ExceptionsValue
  pub held : H
  pub result : Entered

abbrev pub with_lock : Core → Core
with_lock c = record c { run = record c.run { locked = true } }

abbrev pub locked_up : {H : Type 0} → Work H → Done H
locked_up w = record { core = with_lock w.core; exceptions = w.exceptions; held = w.held; result = entered.Lockup w.entry }

abbrev pub goes_on : {H : Type 0} → (Work H → Done H) → Work H → Choice → Done H
goes_on again w (choices.Taken given) =
    record { core = w.core; exceptions = w.exceptions; held = w.held; result = entered.Taken given w.entry }
goes_on again w choices.Lockup = locked_up w
goes_on again w choices.Again = again w

-- at most so many choices
unfoldable pub tries : {H : Type 0} → FrameAnswering H → Profile → ℕ → Work H → Done H
tries answering profile zero w = locked_up w
tries answering profile (suc n) w = goes_on (tries answering profile n) (choosing answering profile w).work (choosing answering profile w).choice

-- one frame can fault, and one vector that isn't NMI's or HardFault's, so that a fourth choice is never made
abbrev pub chooses : {H : Type 0} → FrameAnswering H → Profile → Work H → Done H
chooses answering profile w = tries answering profile 4 w

-- ---- entry from running code

abbrev pub interrupted : Core → Entering
interrupted c =
    record {
      secure = is_secure c.run.side;
      thread = not (is_handler c.registers.ipsr);
      dcrs = true;
      skip = false;
      needed_additional = false;
      frame = None;
      vector = None;
      last = None;
      touched = false;
    }

-- a fault of the basic frame pends before the first choice
abbrev pub begins_raised : {H : Type 0} → FrameAnswering H → Profile → H → Entering → Raised → Done H
begins_raised answering profile h x r =
    if r.locks then locked_up (record { core = r.core; exceptions = r.exceptions; held = h; entry = x })
    else chooses answering profile (record { core = r.core; exceptions = r.exceptions; held = h; entry = x })

abbrev pub begins : {H : Type 0} → FrameAnswering H → Profile → Side → ExceptionsValue → Entering → Core → H → Option StackFault → Done H
begins answering profile side e x c h None = chooses answering profile (record { core = c; exceptions = e; held = h; entry = x })
begins answering profile side e x c h (Some fault) = begins_raised answering profile h (without_frame x false fault) (frame_faulted true side fault c e)

abbrev pub after_basic : {H : Type 0} → FrameAnswering H → Profile → Side → ExceptionsValue → Entering → Pushed H → Done H
after_basic answering profile side e x p = begins answering profile side e x p.core p.held p.fault

-- the code that runs is interrupted, and goes on at `back` later
unfoldable pub enters : {H : Type 0} → FrameAnswering H → Profile → Core → ExceptionsValue → H → ℕ → Done H
enters answering profile c e h back = after_basic answering profile c.run.side e (interrupted c) (pushed_basic answering c h back)
