-- Branches between the sides and back (DDI0553, `BXWritePC`, `BLXNS`).
use Rattle.std.specs.Prelude.{ℕ, ◌%◌, ◌==◌, Bool, true, ◌&&◌, if◌then◌else◌, Some, None, Result, Ok, Err}
use Rattle.tz_table.specs.declared.units.Code.{Code}
use Rattle.tz_model.specs.declared.report.Fault.{Fault}
use Rattle.tz_model.specs.Words.{even_of}
use Rattle.tz_regs.specs.declared.parts.Core.{Core}
use Rattle.tz_regs.specs.Registers.{is_handler}
use Rattle.tz_state.specs.Access.{Reached, reached_in, access}
use Rattle.tz_state.specs.State.{State, with_core, with_registers}
use Rattle.tz_frames.specs.Machine.{framed}
use Rattle.tz_frames.specs.Gate.{Called, branched_ns, calls_ns, is_fnc_return, function_returned}
use Rattle.tz_frames.specs.Leave.{is_exc_return}
use Rattle.tz_sem.specs.declared.ending.Cause.{Cause}
use Rattle.tz_sem.specs.declared.ending.Cause.TheVariants.{Went, Returned, Called as Calls, CameBack}
use Rattle.tz_sem.specs.declared.ending.Course.{Course}
use Rattle.tz_sem.specs.Ended.{Passed, Ended, with_stores}
use Rattle.tz_sem.specs.Taking.{with_value, with_handling, framed_in, faults, returns}

-- an instruction ran
abbrev pub ran_by : Cause → State → Course → Code → Passed
ran_by cause s course code = record { state = s; ending = record { touched = course.touched; cause = cause; ran = Some code; handling = None } }

abbrev pub ran : State → Course → Code → Passed
ran s course code = ran_by Went s course code

-- ---- BX, BXNS and loads of PC

-- the code of an exchange goes on at a target, with T
abbrev pub branched : State → ℕ → Bool → State
branched s target t = with_registers s (record s.core.registers { pc = even_of target; t = t })

-- Secure code returned to Non-secure code where it ends so
abbrev pub cause_of_branch : ℕ → Cause
cause_of_branch target = if target % 2 == 0 then Returned else Went

-- BXNS in Secure state
abbrev pub branch_ns : State → Course → Code → ℕ → Passed
branch_ns s course code target = ran_by (cause_of_branch target) (with_core s (branched_ns s.core target)) course code

abbrev pub moves_to : State → Course → Code → ℕ → Bool → Passed
moves_to s course code target ns =
    if ns then branch_ns s course code target else ran (branched s target (target % 2 == 1)) course code

-- ---- FNC_RETURN

-- what accesses wrote of the core stays, and the rest is as it was before the instruction
abbrev pub core_back : Core → Core → Core
core_back before after = record before { status = after.status }

abbrev pub back_with : Core → State → Course → Code → Result Core Fault → Passed
back_with before s course code (Ok c) = ran_by CameBack (with_core s c) course code
back_with before s course code (Err fault) = faults (with_core s (core_back before s.core)) course fault

-- the course of a step that touches Secure state
abbrev pub touching : Course → Course
touching course = record course { touched = true }

-- by a value; it touches Secure state
unfoldable pub comes_back : Core → State → Course → Code → ℕ → Passed
comes_back before s course code value =
    with_handling (with_value value) (back_with before s (touching course) code (function_returned framed s.core (framed_in course.negative s)))

-- ---- all exchanges

-- from the state after an instruction's own writes, which is `past` once the IT state has moved on too
unfoldable pub exchanged : Core → State → State → Course → Code → ℕ → Bool → Passed
exchanged before s past course code target ns =
    if is_fnc_return target then comes_back before s course code target
    else if is_handler s.core.registers.ipsr && is_exc_return target then returns past course code target
    else moves_to past course code target ns

-- ---- BLXNS

-- the state with what the port holds
abbrev pub through_port : State → Core → Reached → State
through_port s c r =
    record {
      core = record c { status = r.system.status };
      exceptions = r.system.exceptions;
      bus = r.system.bus;
    }

abbrev pub called_with : (State → State) → State → Course → Code → Called Reached → Ended
called_with past s course code p = go p.outcome where
  after : State
  after = through_port s p.core p.held

  go : Result Unit Fault → Ended
  go (Ok done) = with_stores p.held.stores (ran_by Calls (past after) course code)
  go (Err fault) = with_stores p.held.stores (faults after course fault)

-- its two stores are those of the step
unfoldable pub calls : (State → State) → State → Course → Code → ℕ → ℕ → Ended
calls past s course code target next = called_with past s course code (calls_ns access s.core (reached_in s) target next)
