-- Each step keeps the number of the exception within 9 bits.
use Rattle.std.proofs.Common.{ℕ, ◌+◌, ◌%◌, Bool, true, false, ◌&&◌, ◌||◌, not, cond, List, [], None, Result, Ok, Err, sym}
use Rattle.std.specs.Prelude.{nat_lt}
use Rattle.tz_table.specs.declared.units.Side.TheVariants.{Secure}
use Rattle.tz_table.specs.declared.units.Code.{Code}
use Rattle.tz_table.specs.declared.instruction.Insn.{Insn}
use Rattle.tz_table.specs.declared.decoded.Decoded.{Decoded}
use Rattle.tz_table.specs.declared.decoded.Decoded.TheVariants.{One, NoCoprocessor, Undefined}
use Rattle.tz_model.specs.declared.fetch.Fetched.{Fetched}
use Rattle.tz_model.specs.declared.report.Fault.{Fault}
use Rattle.tz_model.specs.declared.report.Fault.TheVariants.{Undef, NoCp, InvPc, StackLimit, Call}
use Rattle.tz_model.specs.declared.report.Outcome.{Outcome}
use Rattle.tz_model.specs.declared.report.Outcome.TheVariants.{Next, Jump, Exchange, Call as Calls, Sleep}
use Rattle.tz_model.specs.declared.report.Sleep.{Sleep as Sleeping}
use Rattle.tz_model.specs.declared.report.Sleep.TheVariants.{Awake, Wfi, Wfe}
use Rattle.tz_model.specs.declared.report.Store.{Store}
use Rattle.tz_model.specs.Codes.{meaning_of}
use Rattle.tz_regs.specs.declared.parts.Core.{Core}
use Rattle.tz_state.specs.Access.{Reached}
use Rattle.tz_state.specs.Execution.{takes_first}
use Rattle.tz_state.specs.State.{State, with_core}
use Rattle.tz_regs.specs.Registers.{is_handler, pointer_limit_of}
use Rattle.tz_state.specs.Access.{access, reached_in}
use Rattle.tz_frames.specs.Machine.{Framed, framed}
use Rattle.tz_frames.specs.Gate.{is_fnc_return, function_returned, after_call, call_base, call_stores}
use Rattle.tz_frames.specs.Leave.{is_exc_return}
use Rattle.tz_frames.specs.Status.{Raised, faulted}
use Rattle.tz_sem.specs.declared.ending.Course.{Course}
use Rattle.tz_sem.specs.Ended.{Ended, with_stores}
use Rattle.tz_sem.specs.Exec.{executed}
use Rattle.tz_model.specs.Words.{wrap}
use Rattle.tz_frames.specs.Enter.{Done, is_secure, enters as frames_enter}
use Rattle.tz_frames.specs.declared.entering.Entered.{Entered}
use Rattle.tz_frames.specs.declared.entering.Entered.TheVariants as entered
use Rattle.tz_sem.specs.ItRules.{is_misplaced, is_passed_over, ignores_condition}
use Rattle.tz_model.specs.Ports.{answers}
use Rattle.tz_sem.specs.Exchange.{through_port, exchanged, comes_back, back_with, touching, core_back, moves_to, calls, called_with}
use Rattle.tz_sem.specs.Taking.{taken_by, after_entry, after_raise, passed_by, goes_on_at, framed_in, state_of, locks, preempted, faults, returns}
use Rattle.tz_sem.specs.Step.{past, length_of, fetch_in, touches_secure, unready, is_woken, without_event, runs_gateway, ended, takes_exception, by_sleep, instructs, fetches, fetched, decoded, placed, executes, concludes, faulting, skips, awake, course_in, idles}
use Rattle.std.proofs.Common.{◌<◌, ◌^◌, arith, subst}
use Rattle.tz_sem.specs.Ended.{Passed}
use Rattle.tz_sem.specs.Step.{executes, concludes}
use Rattle.tz_state.specs.Access.{Reached}
use Rattle.tz_model.specs.declared.report.ScriptEvent.{ScriptEvent}
use Rattle.tz_frames.specs.Leave.{Leaving, leaves}
use Rattle.tz_frames.specs.declared.leaving.Left.{Left}
use Rattle.tz_frames.specs.declared.leaving.Left.TheVariants as lefts
use Rattle.tz_frames.specs.Gate.{after_first, after_second, numbers_agree, came_back, return_base}
use Rattle.tz_frames.specs.FrameAccess.{SecureLoad}
use Rattle.tz_sem.specs.Taking.{left_by, after_return}
use Rattle.tz_sem.specs.Step.{started, step}
use Rattle.tz_resume.specs.Number.{IsNumbered}
use Rattle.tz_sem.proofs.Kept.{executed_number}
use Rattle.tz_resume.proofs.Numbers.{enters_numbered, leaves_numbered, faulted_numbered}

abbrev Ends : Ended → Type 0
Ends e = IsNumbered e.state.core

abbrev Passes : Passed → Type 0
Passes p = IsNumbered p.state.core

-- ---- entries, faults, returns

entry_fits : (s : State) (course : Course) (back : ℕ) → IsNumbered s.core → Passes (preempted s course back)
unfolding preempted
entry_fits s course back k = by (frames_enter framed s.bus.board.profile s.core s.exceptions (framed_in course.negative s) back) (enters_numbered s.bus.board.profile s.core s.exceptions (framed_in course.negative s) back k) where
  by : (d : Done Framed) → IsNumbered d.core → Passes (after_entry course d)
  by d k' = result d.result where
    result : (x : Entered) → Passes (taken_by (state_of d.core d.exceptions d.held.bus) course x)
    result (entered.Taken given touched) = k'
    result (entered.Lockup touched) = k'

passed_fits : (fault : Fault) (c : Core) → IsNumbered c → IsNumbered (passed_by fault c)
passed_fits Call c k = k
passed_fits fault c k = k

faults_fit : (s : State) (course : Course) (fault : Fault) → IsNumbered s.core → Passes (faults s course fault)
unfolding faults
faults_fit s course fault k = by (faulted s.core.run.side fault s.core s.exceptions) (faulted_numbered s.core.run.side fault s.core s.exceptions k) where
  by : (r : Raised) → IsNumbered r.core → Passes (after_raise s course fault r)
  by r k' = locked r.locks where
    locked : (t : Bool) → Passes (cond t (locks (state_of r.core r.exceptions s.bus) course.touched None) (preempted (state_of (passed_by fault r.core) r.exceptions s.bus) course (goes_on_at fault s.core.registers.pc)))
    locked true = k'
    locked false = entry_fits (state_of (passed_by fault r.core) r.exceptions s.bus) course (goes_on_at fault s.core.registers.pc) (passed_fits fault r.core k')

return_fits : (s : State) (course : Course) (code : Code) (value : ℕ) → IsNumbered s.core → Passes (returns s course code value)
unfolding returns
return_fits s course code value k = by (leaves framed s.bus.board.profile s.core s.exceptions (framed_in course.negative s) value) (leaves_numbered s.bus.board.profile s.core s.exceptions (framed_in course.negative s) value k) where
  by : (l : Leaving Framed) → IsNumbered l.core → Passes (after_return course code value l)
  by l k' = result l.result where
    result : (x : Left) → Passes (left_by (state_of l.core l.exceptions l.held.bus) course code value x)
    result (lefts.Resumed touched) = k'
    result (lefts.Chained given refused y) = k'
    result (lefts.Lockup refused y) = k'

-- ---- exchanges

abbrev Comes : Result Core Fault → Type 0
Comes (Ok c) = IsNumbered c
Comes (Err fault) = Unit

agreed_fits : (c : Core) (back word : ℕ) (t : Bool) → Comes (cond t (Ok (came_back c back (word % 2 ^ 9))) (Err (InvPc c.run.side)))
agreed_fits c back word true = omega arith
agreed_fits c back word false = tt

second_fits : (c : Core) (back : ℕ) (second : Result ℕ Fault) → Comes (after_second c back second)
second_fits c back (Ok word) = agreed_fits c back word (numbers_agree c.registers.ipsr (word % 2 ^ 9))
second_fits c back (Err fault) = tt

first_fits : (c : Core) (first second : Result ℕ Fault) → Comes (after_first c first second)
first_fits c (Ok back) second = second_fits c back second
first_fits c (Err fault) second = tt

back_fits : (before : Core) (s : State) (course : Course) (code : Code) (o : Result Core Fault) → IsNumbered before → Comes o → Passes (back_with before s course code o)
back_fits before s course code (Ok c) k small = small
back_fits before s course code (Err fault) k small = faults_fit (with_core s (core_back before s.core)) course fault k

moves_fit : (s : State) (course : Course) (code : Code) (target : ℕ) (ns : Bool) → IsNumbered s.core → Passes (moves_to s course code target ns)
moves_fit s course code target true k = k
moves_fit s course code target false k = k

exchanged_fits : (before : Core) (s past : State) (course : Course) (code : Code) (target : ℕ) (ns : Bool) → IsNumbered before → IsNumbered past.core → Passes (exchanged before s past course code target ns)
unfolding exchanged comes_back
exchanged_fits before s past course code target ns k k' = by (is_fnc_return target) (is_handler s.core.registers.ipsr && is_exc_return target) where
  f : Framed
  f = framed_in course.negative s

  by : (t u : Bool) → Passes (cond t (comes_back before s course code target) (cond u (returns past course code target) (moves_to past course code target ns)))
  by true u = back_fits before s (touching course) code (function_returned framed s.core f) k
      (first_fits s.core (framed f (SecureLoad (return_base s.core))).1 (framed f (SecureLoad (wrap (return_base s.core + 4)))).1)
  by false true = return_fits past course code target k'
  by false false = moves_fit past course code target ns k'

past_fits : (i : Insn) (s : State) → IsNumbered s.core → IsNumbered (past i s).core
past_fits i s k = k

shown_small : (t : Bool) → cond t 1 0 < 2 ^ 9
shown_small true = omega arith
shown_small false = omega arith

calls_fit : (i : Insn) (s : State) (course : Course) (code : Code) (target next : ℕ) → IsNumbered s.core → Ends (calls (past i) s course code target next)
unfolding calls
calls_fit i s course code target next k = by (nat_lt (call_base s.core) (pointer_limit_of s.core.registers.ipsr s.core.stacks_s)) (answers access (reached_in s) (call_stores s.core next)) where
  by : (t : Bool) (a : Reached × Result (List ℕ) Fault)
      → Ends (called_with (past i) s course code (cond t (record { core = s.core; held = reached_in s; outcome = Err (StackLimit Secure) }) (after_call s.core target a)))
  by true a = faults_fit (through_port s s.core (reached_in s)) course (StackLimit Secure) k
  by false (g, Ok words) = shown_small (is_handler s.core.registers.ipsr)
  by false (g, Err fault) = faults_fit (through_port s s.core g) course fault k

-- ---- instructions

concludes_fit : (before : Core) (i : Insn) (s : State) (course : Course) (code : Code) (stores : List Store) (o : Result Outcome Fault) → IsNumbered before → IsNumbered s.core → Ends (concludes before i s course code stores o)
concludes_fit before i s course code stores (Ok Next) k k' = k'
concludes_fit before i s course code stores (Ok (Jump to)) k k' = k'
concludes_fit before i s course code stores (Ok (Exchange target ns)) k k' = exchanged_fits before s (past i s) course code target ns k (past_fits i s k')
concludes_fit before i s course code stores (Ok (Calls target)) k k' = calls_fit i s course code target (wrap (s.core.registers.pc + length_of code)) k'
concludes_fit before i s course code stores (Ok (Sleep event)) k k' = k'
concludes_fit before i s course code stores (Err fault) k k' = faults_fit s course fault k'

placed_fits : (s : State) (course : Course) (code : Code) (i : Insn) → IsNumbered s.core → Ends (placed s course code i)
placed_fits s course code i k = by (is_misplaced i s.core.registers) (is_passed_over s.core.registers && not (ignores_condition s.core.run.side i)) where
  by : (t u : Bool) → Ends (cond t (faulting s course Undef) (cond u (skips s course code) (executes s.core course code i (executed s i))))
  by true u = faults_fit s course Undef k
  by false true = k
  by false false =
      concludes_fit s.core i (executed s i).state course code (executed s i).stores (executed s i).outcome k (subst (λ (n : ℕ). n < 2 ^ 9) (sym (executed_number s i)) k)

decoded_fits : (s : State) (course : Course) (code : Code) (d : Decoded) → IsNumbered s.core → Ends (decoded s course code d)
decoded_fits s course code (One i width) k = placed_fits s course code i k
decoded_fits s course code NoCoprocessor k = by (is_passed_over s.core.registers) where
  by : (t : Bool) → Ends (cond t (skips s course code) (faulting s course NoCp))
  by true = k
  by false = faults_fit s course NoCp k
decoded_fits s course code (Undefined width) k = faults_fit s course Undef k

fetched_fits : (s : State) (course : Course) (f : Result Fetched Fault) → IsNumbered s.core → Ends (fetched s course f)
fetched_fits s course (Err fault) k = faults_fit s course fault k
fetched_fits s course (Ok f) k = by f.gateway where
  by : (t : Bool) → Ends (cond t (runs_gateway s course f.code) (decoded s course f.code (meaning_of f.code)))
  by true = k
  by false = decoded_fits s course f.code (meaning_of f.code) k

instructs_fit : (s : State) → IsNumbered s.core → Ends (instructs s)
instructs_fit s k = by s.core.registers.t where
  by : (t : Bool) → Ends (cond t (fetches s (fetch_in s)) (faulting s (course_in s (touches_secure s.core.run.side s)) (unready (touches_secure s.core.run.side s) s.core.run.side)))
  by true = fetched_fits s (course_in s (fetch_in s).touched) (fetch_in s).answer k
  by false = faults_fit s (course_in s (touches_secure s.core.run.side s)) (unready (touches_secure s.core.run.side s) s.core.run.side) k

-- ---- steps

sleep_fits : (sleep : Sleeping) (s : State) → IsNumbered s.core → Ends (by_sleep sleep s)
sleep_fits Awake s k = instructs_fit s k
sleep_fits Wfi s k = by (is_woken s) where
  by : (t : Bool) → Ends (cond t (instructs (awake s)) (idles s))
  by true = instructs_fit (awake s) k
  by false = k
sleep_fits Wfe s k = by (s.core.event || is_woken s) where
  by : (t : Bool) → Ends (cond t (instructs (without_event (awake s))) (idles s))
  by true = instructs_fit (without_event (awake s)) k
  by false = k

ended_fits : (s : State) → IsNumbered s.core → Ends (ended s)
unfolding ended
ended_fits s k = by s.core.run.locked (takes_first s.exceptions s.core.masks) where
  by : (t u : Bool) → Ends (cond t (with_stores [] (locks s true None)) (cond u (takes_exception s) (by_sleep s.core.run.sleep s)))
  by true u = k
  by false true = entry_fits (awake s) (course_in s (is_secure s.core.run.side)) s.core.registers.pc k
  by false false = sleep_fits s.core.run.sleep s k

pub numbers_fit : (s : State) (events : List ScriptEvent) → IsNumbered s.core → IsNumbered (step s events).state.core
numbers_fit s events k = ended_fits (started s events) k
