-- One step of the machine, stage by stage, each of which gives how the step ends.
use Rattle.std.specs.Prelude.{ℕ, ◌+◌, Bool, true, false, ◌&&◌, ◌||◌, not, if◌then◌else◌, List, [], Option, Some, None, Result, Ok, Err}
use Rattle.tz_table.specs.declared.units.Side.{Side}
use Rattle.tz_table.specs.declared.units.Side.TheVariants.{Secure, NonSecure}
use Rattle.tz_table.specs.declared.units.Code.{Code}
use Rattle.tz_table.specs.declared.instruction.Insn.{Insn}
use Rattle.tz_table.specs.declared.instruction.Insn.TheVariants.{IfThen}
use Rattle.tz_table.specs.declared.decoded.Decoded.{Decoded}
use Rattle.tz_table.specs.declared.decoded.Decoded.TheVariants.{One, NoCoprocessor, Undefined}
use Rattle.tz_model.specs.declared.report.Fault.{Fault}
use Rattle.tz_model.specs.declared.report.Fault.TheVariants.{Undef, NoCp, InvState, EntryPoint}
use Rattle.tz_model.specs.declared.report.Outcome.{Outcome}
use Rattle.tz_model.specs.declared.report.Outcome.TheVariants.{Next, Jump, Exchange, Call, Sleep}
use Rattle.tz_model.specs.declared.report.ScriptEvent.{ScriptEvent}
use Rattle.tz_model.specs.declared.report.Sleep.{Sleep as Sleeping}
use Rattle.tz_model.specs.declared.report.Sleep.TheVariants.{Awake, Wfi, Wfe}
use Rattle.tz_model.specs.declared.report.Store.{Store}
use Rattle.tz_model.specs.declared.report.Report.{Report}
use Rattle.tz_model.specs.declared.fetch.Fetched.{Fetched}
use Rattle.tz_model.specs.declared.fetch.FetchAnswer.{FetchAnswer}
use Rattle.tz_model.specs.Codes.{meaning_of}
use Rattle.tz_model.specs.Words.{wrap}
use Rattle.tz_regs.specs.declared.parts.Before.{Before}
use Rattle.tz_regs.specs.declared.parts.Core.{Core}
use Rattle.tz_regs.specs.Registers.{before_in}
use Rattle.tz_regs.specs.ItState.{it_advanced}
use Rattle.tz_state.specs.declared.fetcher.Fetcher.{Fetcher}
use Rattle.tz_state.specs.State.{State, map_of, is_privileged_in, priority_in, is_negative_at, with_core, with_exceptions, with_run, with_registers, with_pc}
use Rattle.tz_state.specs.Due.{begun}
use Rattle.tz_state.specs.Moves.{after_moves}
use Rattle.tz_state.specs.Execution.{takes_first, wakes}
use Rattle.tz_state.specs.Fetch.{fetch, is_own_fetch}
use Rattle.tz_sem.specs.ItRules.{is_misplaced, is_passed_over, ignores_condition}
use Rattle.tz_sem.specs.Exec.{Executed, executed}
use Rattle.tz_frames.specs.Gate.{gateway_entered}
use Rattle.tz_frames.specs.Enter.{is_secure}
use Rattle.tz_sem.specs.declared.ending.Cause.TheVariants.{Went}
use Rattle.tz_sem.specs.declared.ending.Course.{Course}
use Rattle.tz_sem.specs.Ended.{Passed, Ended, with_stores, report_of}
use Rattle.tz_sem.specs.Taking.{locks, preempted, faults}
use Rattle.tz_sem.specs.Exchange.{ran, exchanged, calls}

-- the number of bytes of a code
abbrev pub length_with : Option ℕ → ℕ
length_with None = 2
length_with (Some second) = 4

abbrev pub length_of : Code → ℕ
length_of code = length_with code.second

-- ---- the instruction

-- each instruction but IT moves the IT state on
abbrev pub it_after : Insn → ℕ → ℕ
it_after (IfThen cond mask) it = it
it_after insn it = it_advanced it

abbrev pub with_it : State → ℕ → State
with_it s it = with_registers s (record s.core.registers { it = it })

abbrev pub past : Insn → State → State
past i s = with_it s (it_after i s.core.registers.it)

-- to the next instruction
abbrev pub goes_next : State → Course → Code → Passed
goes_next s course code = ran (with_pc s (wrap (s.core.registers.pc + length_of code))) course code

-- an instruction that its IT block skips
abbrev pub skips : State → Course → Code → Ended
skips s course code = with_stores [] (goes_next (with_it s (it_advanced s.core.registers.it)) course code)

-- a core that waits for an event, or for an interrupt
abbrev pub sleep_of : Bool → Sleeping
sleep_of true = Wfe
sleep_of false = Wfi

abbrev pub asleep : Bool → State → State
asleep event s = with_run s (record s.core.run { sleep = sleep_of event })

-- how a step goes on after its instruction, which made no stores where it calls; `before` is the core before it
abbrev pub goes_on : Core → Insn → State → Course → Code → List Store → Outcome → Ended
goes_on before i s course code stores Next = with_stores stores (goes_next (past i s) course code)
goes_on before i s course code stores (Jump to) = with_stores stores (ran (with_pc (past i s) to) course code)
goes_on before i s course code stores (Exchange target ns) = with_stores stores (exchanged before s (past i s) course code target ns)
goes_on before i s course code stores (Call target) = calls (past i) s course code target (wrap (s.core.registers.pc + length_of code))
goes_on before i s course code stores (Sleep event) = with_stores stores (goes_next (asleep event (past i s)) course code)

abbrev pub concludes : Core → Insn → State → Course → Code → List Store → Result Outcome Fault → Ended
concludes before i s course code stores (Ok outcome) = goes_on before i s course code stores outcome
concludes before i s course code stores (Err fault) = with_stores stores (faults s course fault)

abbrev pub executes : Core → Course → Code → Insn → Executed → Ended
executes before course code i x = concludes before i x.state course code x.stores x.outcome

abbrev pub faulting : State → Course → Fault → Ended
faulting s course fault = with_stores [] (faults s course fault)

-- an instruction by where it stands: one that may not stand there is undefined, and one whose condition
-- fails is skipped
abbrev pub placed : State → Course → Code → Insn → Ended
placed s course code i =
    if is_misplaced i s.core.registers then faulting s course Undef
    else if is_passed_over s.core.registers && not (ignores_condition s.core.run.side i) then skips s course code
    else executes s.core course code i (executed s i)

-- a code by what it means; one of a coprocessor is skipped as an instruction is
abbrev pub decoded : State → Course → Code → Decoded → Ended
decoded s course code (One i width) = placed s course code i
decoded s course code NoCoprocessor = if is_passed_over s.core.registers then skips s course code else faulting s course NoCp
decoded s course code (Undefined width) = faulting s course Undef

-- SG reached from Non-secure state: Secure code runs on
abbrev pub runs_gateway : State → Course → Code → Ended
runs_gateway s course code = with_stores [] (ran (with_core s (gateway_entered s.core)) course code)

-- ---- the fetch

abbrev pub fetched : State → Course → Result Fetched Fault → Ended
fetched s course (Err fault) = faulting s course fault
fetched s course (Ok f) = if f.gateway then runs_gateway s course f.code else decoded s course f.code (meaning_of f.code)

-- the running code as it fetches
abbrev pub fetcher_in : State → Fetcher
fetcher_in s =
    record {
      side = s.core.run.side;
      privileged = is_privileged_in s.core.run.side s.core;
      secure_privileged = is_privileged_in Secure s.core;
      negative = is_negative_at (priority_in s);
    }

-- its fetch
abbrev pub fetch_in : State → FetchAnswer
fetch_in s = fetch s.bus (fetcher_in s) s.core.registers.pc

-- the course of a step that has touched Secure state, or hasn't
abbrev pub course_in : State → Bool → Course
course_in s touched = record { touched = touched; negative = is_negative_at (priority_in s) }

abbrev pub fetches : State → FetchAnswer → Ended
fetches s f = fetched s (course_in s f.touched) f.answer

-- a step that fetches nothing touches Secure state where it starts Secure, or at a Secure address
abbrev pub touches_secure : Side → State → Bool
touches_secure Secure s = true
touches_secure NonSecure s = not (is_own_fetch (map_of s) NonSecure s.core.registers.pc)

-- (own) its fault: of an entry to Secure code, or of the instruction set
abbrev pub unready : Bool → Side → Fault
unready true NonSecure = EntryPoint
unready looked side = InvState

-- an instruction; (own) where T is 0 it faults before anything is fetched
abbrev pub instructs : State → Ended
instructs s =
    if s.core.registers.t then fetches s (fetch_in s)
    else faulting s (course_in s (touches_secure s.core.run.side s)) (unready (touches_secure s.core.run.side s) s.core.run.side)

-- ---- exceptions and sleep

abbrev pub awake : State → State
awake s = with_run s (record s.core.run { sleep = Awake })

-- what comes first is taken before an instruction, and ends a sleep
abbrev pub takes_exception : State → Ended
takes_exception s = with_stores [] (preempted (awake s) (course_in s (is_secure s.core.run.side)) s.core.registers.pc)

-- the core sleeps on
abbrev pub idles : State → Ended
idles s =
    record {
      state = s;
      stores = [];
      ending = record { touched = is_secure s.core.run.side; cause = Went; ran = None; handling = None };
    }

-- the event flag is cleared
abbrev pub without_event : State → State
without_event s = record s { core = record s.core { event = false } }

-- an exception could be taken now if neither PRIMASK were set
abbrev pub is_woken : State → Bool
is_woken s = wakes s.exceptions s.core.masks

-- a sleep that ends goes on with an instruction in the same step; (own) WFE's ends by the event flag too, and
-- clears it
abbrev pub by_sleep : Sleeping → State → Ended
by_sleep Awake s = instructs s
by_sleep Wfi s = if is_woken s then instructs (awake s) else idles s
by_sleep Wfe s = if s.core.event || is_woken s then instructs (without_event (awake s)) else idles s

-- how a step ends, after what it begins with: a locked machine stays so; then an exception that can be taken
-- comes before an instruction
unfoldable pub ended : State → Ended
ended s =
    if s.core.run.locked then with_stores [] (locks s true None)
    else if takes_first s.exceptions s.core.masks then takes_exception s
    else by_sleep s.core.run.sleep s

-- ---- the step

pub record Stepped : Type 0 where
  pub state : State
  pub report : Report

abbrev pub stepped : Before → Ended → Stepped
stepped b e = record { state = e.state; report = report_of b e }

-- at its beginning, of a locked machine too, the events that are due pend, and the timers count; then the mover moves
abbrev pub started : State → List ScriptEvent → State
started s events = after_moves (with_exceptions s (begun s.exceptions events))

-- one step
abbrev pub step : State → List ScriptEvent → Stepped
step s events = stepped (before_in s.core) (ended (started s events))
