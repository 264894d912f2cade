-- Exceptions of the machine: they are taken from running code, by a fault of an instruction or before one, and return.
use Rattle.std.specs.Prelude.{ℕ, ◌+◌, Bool, true, ◌||◌, if◌then◌else◌, Option, Some, None}
use Rattle.tz_table.specs.declared.units.Side.TheVariants.{Secure}
use Rattle.tz_table.specs.declared.units.Code.{Code}
use Rattle.tz_model.specs.declared.report.Fault.{Fault}
use Rattle.tz_model.specs.declared.report.Fault.TheVariants.{Call}
use Rattle.tz_model.specs.Words.{wrap}
use Rattle.tz_regs.specs.declared.parts.Core.{Core}
use Rattle.tz_regs.specs.ItState.{it_advanced}
use Rattle.tz_state.specs.Slots.{ExceptionsValue}
use Rattle.tz_state.specs.State.{Bus, State, is_privileged_in, with_run}
use Rattle.tz_sem.specs.Exec.{released}
use Rattle.tz_frames.specs.Machine.{Framed, framed}
use Rattle.tz_frames.specs.declared.entering.Entering.{Entering}
use Rattle.tz_frames.specs.declared.entering.Entered.{Entered}
use Rattle.tz_frames.specs.declared.entering.Entered.TheVariants as entered
use Rattle.tz_frames.specs.declared.leaving.Refusal.{Refusal}
use Rattle.tz_frames.specs.declared.leaving.Left.{Left}
use Rattle.tz_frames.specs.declared.leaving.Left.TheVariants as left
use Rattle.tz_frames.specs.Status.{Raised, faulted}
use Rattle.tz_frames.specs.Enter.{Done, enters}
use Rattle.tz_frames.specs.Leave.{Leaving, leaves}
use Rattle.tz_sem.specs.declared.ending.Cause.TheVariants.{Went, Resumed, Taken}
use Rattle.tz_sem.specs.declared.ending.Course.{Course}
use Rattle.tz_sem.specs.declared.ending.Handling.{Handling}
use Rattle.tz_sem.specs.Ended.{Passed}

abbrev pub state_of : Core → ExceptionsValue → Bus → State
state_of c e b = record { core = c; exceptions = e; bus = b }

-- ---- what is noted of how exceptions came into a step

-- nothing yet
abbrev pub unnoted : Handling
unnoted = record { fault = None; value = None; refused = None; entry = None }

-- what was noted before
abbrev pub handling_of : Option Handling → Handling
handling_of None = unnoted
handling_of (Some handling) = handling

-- with the fault of the code that ran
abbrev pub with_fault : Fault → Handling → Handling
with_fault fault h = record h { fault = Some fault }

-- with the value by which code returned, or tried to
abbrev pub with_value : ℕ → Handling → Handling
with_value value h = record h { value = Some value }

abbrev pub with_handling : (Handling → Handling) → Passed → Passed
with_handling change p = record p { ending = record p.ending { handling = Some (change (handling_of p.ending.handling)) } }

-- an entry from running code
abbrev pub by_entry : Entering → Handling
by_entry x = record unnoted { entry = Some x }

-- a return by a value, and where it is refused why; an entry in its place
abbrev pub by_value : ℕ → Option Refusal → Option Entering → Handling
by_value value refused entry = record { fault = None; value = Some value; refused = refused; entry = entry }

-- ---- the machine locks

-- or was locked
abbrev pub locks : State → Bool → Option Handling → Passed
locks s touched handling =
    record {
      state = with_run s (record s.core.run { locked = true });
      ending = record { touched = touched; cause = Went; ran = None; handling = handling };
    }

-- ---- entry

-- what entries and returns reach
abbrev pub framed_in : Bool → State → Framed
framed_in negative s =
    record {
      bus = s.bus;
      vtor_s = s.core.status.s.vtor;
      vtor_ns = s.core.status.ns.vtor;
      secure_privileged = is_privileged_in Secure s.core;
      negative = negative;
    }

-- an exception that is taken clears the monitor
abbrev pub taken : State → Bool → Option Handling → Passed
taken s touched handling = record { state = released s; ending = record { touched = touched; cause = Taken; ran = None; handling = handling } }

abbrev pub taken_by : State → Course → Entered → Passed
taken_by s course (entered.Taken given x) = taken s (course.touched || x.touched) (Some (by_entry x))
taken_by s course (entered.Lockup x) = locks s (course.touched || x.touched) (Some (by_entry x))

abbrev pub after_entry : Course → Done Framed → Passed
after_entry course d = taken_by (state_of d.core d.exceptions d.held.bus) course d.result

-- the code that runs is interrupted, and goes on at `back` later
unfoldable pub preempted : State → Course → ℕ → Passed
preempted s course back =
    after_entry course (enters framed s.bus.board.profile s.core s.exceptions (framed_in course.negative s) back)

-- ---- faults

-- code goes on at the instruction that faulted; SVC, of two bytes, at the next
abbrev pub goes_on_at : Fault → ℕ → ℕ
goes_on_at Call pc = wrap (pc + 2)
goes_on_at fault pc = pc

-- and behind SVC in its IT block
abbrev pub passed_by : Fault → Core → Core
passed_by Call c = record c { registers = record c.registers { it = it_advanced c.registers.it } }
passed_by fault c = c

-- a fault that can't be taken locks the machine as it was before the instruction
abbrev pub after_raise : State → Course → Fault → Raised → Passed
after_raise s course fault r =
    if r.locks then locks (state_of r.core r.exceptions s.bus) course.touched None
    else preempted (state_of (passed_by fault r.core) r.exceptions s.bus) course (goes_on_at fault s.core.registers.pc)

-- a fault of the code that runs: it sets its status bits, pends its exception, and an exception is taken
unfoldable pub faults : State → Course → Fault → Passed
faults s course fault = with_handling (with_fault fault) (after_raise s course fault (faulted s.core.run.side fault s.core s.exceptions))

-- ---- return

-- an exception that returns, and one that is taken in its place, clear the monitor
abbrev pub left_by : State → Course → Code → ℕ → Left → Passed
left_by s course code value (left.Resumed touched) =
    record {
      state = released s;
      ending = record { touched = course.touched || touched; cause = Resumed; ran = Some code; handling = Some (by_value value None None) };
    }
left_by s course code value (left.Chained given refused x) = taken s (course.touched || x.touched) (Some (by_value value refused (Some x)))
left_by s course code value (left.Lockup refused x) = locks s (course.touched || x.touched) (Some (by_value value refused (Some x)))

abbrev pub after_return : Course → Code → ℕ → Leaving Framed → Passed
after_return course code value l = left_by (state_of l.core l.exceptions l.held.bus) course code value l.result

-- the exception that runs returns by a value
unfoldable pub returns : State → Course → Code → ℕ → Passed
returns s course code value =
    after_return course code value (leaves framed s.bus.board.profile s.core s.exceptions (framed_in course.negative s) value)
