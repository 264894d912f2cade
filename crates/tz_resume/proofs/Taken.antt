-- How a step comes to take an exception.
use Rattle.std.proofs.Common.{◌≡◌, ℕ, ◌+◌, ◌%◌, Bool, true, false, ◌&&◌, ◌||◌, not, cond, List, [], Option, Some, None, Result, Ok, Err, refl, sym, ap, ◌∙◌, subst}
use Rattle.std.specs.Prelude.{◌==◌, nat_lt}
use Rattle.tz_table.specs.declared.units.Side.{Side}
use Rattle.tz_table.specs.declared.units.Side.TheVariants.{Secure, NonSecure}
use Rattle.tz_table.specs.declared.units.Code.{Code}
use Rattle.tz_table.specs.declared.instruction.Insn.{Insn}
use Rattle.tz_table.specs.declared.decoded.Decoded.{Decoded}
use Rattle.tz_table.specs.declared.decoded.Decoded.TheVariants.{One, NoCoprocessor, Undefined}
use Rattle.tz_model.specs.declared.fetch.Fetched.{Fetched}
use Rattle.tz_model.specs.declared.report.Fault.{Fault}
use Rattle.tz_model.specs.declared.report.Fault.TheVariants.{Undef, NoCp, Unaligned, StackLimit, Call}
use Rattle.tz_model.specs.declared.report.Outcome.{Outcome}
use Rattle.tz_model.specs.declared.report.Outcome.TheVariants.{Next, Jump, Exchange, Call as Calls, Sleep}
use Rattle.tz_model.specs.declared.report.Sleep.{Sleep as Sleeping}
use Rattle.tz_model.specs.declared.report.Sleep.TheVariants.{Awake, Wfi, Wfe}
use Rattle.tz_model.specs.declared.report.Slot.{Slot}
use Rattle.tz_model.specs.declared.report.Store.{Store}
use Rattle.tz_model.specs.Codes.{meaning_of}
use Rattle.tz_regs.specs.declared.parts.Core.{Core}
use Rattle.tz_regs.specs.declared.parts.Registers.{Registers}
use Rattle.tz_state.specs.declared.taken.Taken.{Taken as Becomes}
use Rattle.tz_state.specs.declared.taken.Taken.TheVariants.{AsIs, Hard, Lockup}
use Rattle.tz_state.specs.Access.{Reached}
use Rattle.tz_state.specs.Slots.{ExceptionsValue}
use Rattle.tz_state.specs.Execution.{takes_first}
use Rattle.tz_state.specs.State.{State, is_held, priority_in, with_core}
use Rattle.tz_regs.specs.Registers.{is_handler, pointer_limit_of}
use Rattle.tz_state.specs.Access.{is_aligned, access, reached_in}
use Rattle.tz_frames.specs.Machine.{Framed, framed}
use Rattle.tz_frames.specs.Gate.{is_fnc_return, function_returned, calls_ns, after_call, call_base, call_stores}
use Rattle.tz_frames.specs.Leave.{is_exc_return}
use Rattle.tz_frames.specs.Status.{Raised, raised_as, faulted, with_status, status_after, exception_of}
use Rattle.tz_state.specs.Escalation.{escalated}
use Rattle.tz_sem.specs.declared.ending.Cause.TheVariants.{Went, Returned, Called, CameBack, Resumed, Taken}
use Rattle.tz_sem.specs.declared.ending.Cause.{Cause}
use Rattle.tz_sem.specs.declared.ending.Course.{Course}
use Rattle.tz_sem.specs.declared.family.Family.{Family}
use Rattle.tz_sem.specs.declared.family.Family.TheVariants.{Alu, LoadStore, Branch, System}
use Rattle.tz_sem.specs.Ended.{Ended, with_stores}
use Rattle.tz_sem.specs.Local.{Finished, FinishedNamed, local_of, finished_in, finished_named}
use Rattle.tz_sem.specs.Exec.{load_store_over, branch_over, over, unless_refused, alone, probed, Executed, Ported, after_accesses, through, loads_stores, exclusively, Exclusivity, Free, Marks, Takes, not_stored, released, executed, executed_by, family_of, exclusivity}
use Rattle.tz_sem.specs.Alu.{finish_alu}
use Rattle.tz_sem.specs.LoadStore.{refusal, plan_load_store, finish_load_store}
use Rattle.tz_sem.specs.Branch.{plan_branch, finish_branch}
use Rattle.tz_model.specs.Words.{wrap}
use Rattle.tz_frames.specs.Enter.{Done, is_secure, enters as frames_enter}
use Rattle.tz_frames.specs.declared.entering.Entered.{Entered}
use Rattle.tz_frames.specs.declared.entering.Entered.TheVariants as entered
use Rattle.tz_sem.specs.ItRules.{is_misplaced, is_passed_over, ignores_condition}
use Rattle.tz_sem.specs.System.{finish_system, probe_of}
use Rattle.tz_regs.specs.Special.{named_of}
use Rattle.tz_model.specs.Ports.{answers}
use Rattle.tz_sem.specs.Exchange.{through_port, exchanged, comes_back, back_with, touching, core_back, moves_to, branch_ns, calls, called_with}
use Rattle.tz_sem.specs.Taking.{with_value, with_handling, taken_by, after_entry, after_raise, passed_by, goes_on_at, framed_in, state_of, locks, preempted, faults, returns}
use Rattle.tz_sem.specs.Step.{past, length_of, fetch_in, fetcher_in, touches_secure, unready, is_woken, without_event, runs_gateway, ended, takes_exception, by_sleep, instructs, fetches, fetched, decoded, placed, executes, concludes, faulting, skips, awake, course_in, idles}
use Rattle.tz_resume.specs.Words.{IsWhole}
use Rattle.tz_resume.proofs.Held.{executed_whole, calls_whole}
use Rattle.tz_resume.specs.Steps.{Entry, AtCode, BehindCall, behind_call, IsReturn, HowEnded, ByEntry, ByReturn}
use Rattle.tz_sem.proofs.Faulted.{is_call, Uncalled, uncalled_fault}
use Rattle.tz_sem.proofs.Kept.{executed_call}
use Rattle.tz_resume.proofs.Uncalled.{alu_uncalled, access_family_uncalled, branch_uncalled, calls_uncalled, returned_uncalled, fetch_uncalled}

-- an exception was taken, or one returned
abbrev is_exceptional : Cause → Bool
is_exceptional Went = false
is_exceptional Returned = false
is_exceptional Called = false
is_exceptional CameBack = false
is_exceptional Resumed = true
is_exceptional Taken = true

-- where an end took an exception, it came to it so
abbrev Tells : State → Ended → Type 0
Tells s e = is_exceptional e.ending.cause ≡ true → HowEnded s e

-- the side that runs, registers and the Secure stack are those of a state
record Keeps (s : State) (c : Core) : Type 0 where
  side : c.run.side ≡ s.core.run.side
  registers : c.registers ≡ s.core.registers
  stacks : c.stacks_s ≡ s.core.stacks_s

-- the map is still whole, if it was
abbrev Holds : State → State → Type 0
Holds s x = IsWhole s.bus → IsWhole x.bus

-- no exception comes before an instruction, and masks and exceptions are as they were
record Quiet (s x : State) : Type 0 where
  masks : x.core.masks ≡ s.core.masks
  exceptions : x.exceptions ≡ s.exceptions
  first : takes_first s.exceptions s.core.masks ≡ false

-- so it is where the fault is that of SVC
abbrev CallsQuiet : Fault → State → State → Type 0
CallsQuiet Call s x = Quiet s x
CallsQuiet fault s x = Unit {0}

quiet_call : (fault : Fault) (s x : State) → Quiet s x → CallsQuiet fault s x
quiet_call Call s x q = q
quiet_call fault s x q = tt

no_call : (fault : Fault) (s x : State) → is_call fault ≡ false → CallsQuiet fault s x
no_call Call s x e = cc
no_call fault s x e = tt

-- ---- faults

raised_keeps : (t : Becomes) (given : Slot) (s : State) (c : Core) (e : ExceptionsValue) → Keeps s c → Keeps s (raised_as t given c e).core
raised_keeps AsIs given s c e k = record { side = k.side; registers = k.registers; stacks = k.stacks }
raised_keeps (Hard side) given s c e k = record { side = k.side; registers = k.registers; stacks = k.stacks }
raised_keeps Lockup given s c e k = record { side = k.side; registers = k.registers; stacks = k.stacks }

-- the entry for a fault that goes on where it was
raise_tells : (s x : State) (course : Course) (r : Raised) (e : Ended) (back : ℕ) → Keeps s r.core → Holds s x → back ≡ s.core.registers.pc
    → let p = cond r.locks (locks (state_of r.core r.exceptions x.bus) course.touched None) (preempted (state_of r.core r.exceptions x.bus) course back) in
    e.state ≡ p.state → e.ending.cause ≡ p.ending.cause → Tells s e
raise_tells s x course r e back k w at = by r.locks where
  from : State
  from = state_of r.core r.exceptions x.bus

  by : (t : Bool) → e.state ≡ (cond t (locks from course.touched None) (preempted from course back)).state → e.ending.cause ≡ (cond t (locks from course.touched None) (preempted from course back)).ending.cause → Tells s e
  by true state cause is = cc
  by false state cause is =
      ByEntry from course s.core.registers.pc
      (AtCode (record {
        state = state ∙ ap (λ (pc : ℕ). (preempted from course pc).state) at;
        cause = cause ∙ ap (λ (pc : ℕ). (preempted from course pc).ending.cause) at;
        side = k.side;
        registers = k.registers;
        stacks = k.stacks;
        whole = w;
      }) refl)

faulted_keeps : (s x : State) (fault : Fault) → Keeps s x.core → Keeps s (faulted x.core.run.side fault x.core x.exceptions).core
faulted_keeps s x fault k =
    let c = with_status x.core (status_after x.core.run.side fault x.core.status) in
    raised_keeps (escalated x.exceptions c.masks (exception_of x.exceptions x.core.run.side fault)) (exception_of x.exceptions x.core.run.side fault) s c x.exceptions
    (record { side = k.side; registers = k.registers; stacks = k.stacks })

-- an end whose state and cause are those that a fault leaves; SVC is an entry behind itself
ends_tell : (fault : Fault) (s x : State) (course : Course) (e : Ended) → Keeps s x.core → Holds s x → CallsQuiet fault s x → e.state ≡ (faults x course fault).state → e.ending.cause ≡ (faults x course fault).ending.cause
    → Tells s e
unfolding faults
ends_tell Call s x course e k w q state cause is =
    ByEntry (behind_call x) course (goes_on_at Call x.core.registers.pc)
    (BehindCall x (record { state = state; cause = cause; side = k.side; masks = q.masks; exceptions = q.exceptions; first = q.first }) refl refl)
ends_tell fault s x course e k w q state cause is =
    raise_tells s x course (faulted x.core.run.side fault x.core x.exceptions) e x.core.registers.pc (faulted_keeps s x fault k) w (ap (λ (r : Registers). r.pc) k.registers) state cause is

faults_tell : (fault : Fault) (s x : State) (course : Course) (stores : List Store) → Keeps s x.core → Holds s x → CallsQuiet fault s x → Tells s (with_stores stores (faults x course fault))
faults_tell fault s x course stores k w q e = ends_tell fault s x course (with_stores stores (faults x course fault)) k w q refl refl e

-- ---- an instruction that faulted left registers and the Secure stack

abbrev KeepsOnFault : State → Executed → Type 0
KeepsOnFault s x = (fault : Fault) → x.outcome ≡ Err fault → Keeps s x.state.core

finished_keeps : (s : State) (c : Core) (f : Finished) (fault : Fault) → Keeps s c → (finished_in c f).1 ≡ Err fault → Keeps s (finished_in c f).0
finished_keeps s c (Ok f) fault k e = cc
finished_keeps s c (Err _) fault k e = k

named_keeps : (s : State) (c : Core) (f : FinishedNamed) (fault : Fault) → Keeps s c → (finished_named c f).1 ≡ Err fault → Keeps s (finished_named c f).0
named_keeps s c (Ok f) fault k e = cc
named_keeps s c (Err _) fault k e = k

accesses_keep : {H : Type 0} → (s : State) (c : Core) (a : H × Result (List ℕ) Fault) (finish : List ℕ → Finished) (fault : Fault) → Keeps s c → (after_accesses c a finish).outcome ≡ Err fault → Keeps s (after_accesses c a finish).core
accesses_keep s c (h, Ok words) finish fault k e = finished_keeps s c (finish words) fault k e
accesses_keep s c (h, Err _) finish fault k e = k

through_keeps : (s x : State) (p : Ported Reached) → ((fault : Fault) → p.outcome ≡ Err fault → Keeps s p.core) → KeepsOnFault s (through x p)
through_keeps s x p keeps fault e = let k = keeps fault e in record { side = k.side; registers = k.registers; stacks = k.stacks }

load_store_keeps : (s x : State) (i : Insn) → Keeps s x.core → KeepsOnFault s (loads_stores x i)
load_store_keeps s x i k = through_keeps s x (load_store_over access i x.core (reached_in x)) (by (refusal i (local_of x.core))) where
  by : (o : Option Fault) (fault : Fault)
      → (unless_refused o x.core (reached_in x) (over access x.core (reached_in x) (plan_load_store i (local_of x.core)) (finish_load_store i (local_of x.core)))).outcome ≡ Err fault
      → Keeps s (unless_refused o x.core (reached_in x) (over access x.core (reached_in x) (plan_load_store i (local_of x.core)) (finish_load_store i (local_of x.core)))).core
  by (Some _) fault e = k
  by None fault e = accesses_keep s x.core (answers access (reached_in x) (plan_load_store i (local_of x.core))) (finish_load_store i (local_of x.core)) fault k e

exclusive_keeps : (s : State) (i : Insn) (x : Exclusivity) → KeepsOnFault s (exclusively x s i)
exclusive_keeps s i Free = load_store_keeps s s i (record { side = refl; registers = refl; stacks = refl })
exclusive_keeps s i (Marks m) = load_store_keeps s s i (record { side = refl; registers = refl; stacks = refl })
exclusive_keeps s i (Takes m rd) = by (is_aligned m.size m.addr) (is_held s.bus.monitor m) where
  by : (t u : Bool) → KeepsOnFault s (cond (not t) (alone s (s.core, Err Unaligned)) (cond u (loads_stores (released s) i) (not_stored (released s) rd)))
  by false u fault e = record { side = refl; registers = refl; stacks = refl }
  by true true fault e = load_store_keeps s (released s) i (record { side = refl; registers = refl; stacks = refl }) fault e
  by true false fault e = cc

family_keeps : (family : Family) (s : State) (i : Insn) → KeepsOnFault s (executed_by family s i)
family_keeps Alu s i fault e = finished_keeps s s.core (finish_alu i (local_of s.core)) fault (record { side = refl; registers = refl; stacks = refl }) e
family_keeps LoadStore s i fault e = exclusive_keeps s i (exclusivity i (local_of s.core)) fault e
family_keeps Branch s i fault e =
    through_keeps s s (branch_over access i s.core (reached_in s))
    (λ fault' e'. accesses_keep s s.core (answers access (reached_in s) (plan_branch i (local_of s.core))) (finish_branch i (local_of s.core)) fault' (record { side = refl; registers = refl; stacks = refl }) e') fault e
family_keeps System s i fault e =
    named_keeps s s.core (finish_system (priority_in s) i (named_of s.core) (probed s.bus (probe_of (priority_in s) i (named_of s.core)))) fault (record { side = refl; registers = refl; stacks = refl }) e

-- where one is SVC, it left all as it was
abbrev QuietOnFault : State → Executed → Type 0
QuietOnFault s x = (fault : Fault) → x.outcome ≡ Err fault → CallsQuiet fault s x.state

uncalled_quiet : (s : State) (x : Executed) → Uncalled x.outcome → QuietOnFault s x
uncalled_quiet s x k fault e = no_call fault s x.state (uncalled_fault x.outcome fault k e)

named_same : (c : Core) (f : FinishedNamed) (fault : Fault) → (finished_named c f).1 ≡ Err fault → (finished_named c f).0 ≡ c
named_same c (Ok f) fault e = cc
named_same c (Err _) fault e = refl

system_quiet : (s x : State) (i : Insn) → Quiet s x → QuietOnFault s (executed_by System x i)
system_quiet s x i q fault e =
    let f = finish_system (priority_in x) i (named_of x.core) (probed x.bus (probe_of (priority_in x) i (named_of x.core))) in
    quiet_call fault s (executed_by System x i).state
    (record { masks = ap (λ (c : Core). c.masks) (named_same x.core f fault e) ∙ q.masks; exceptions = q.exceptions; first = q.first })

family_quiet : (family : Family) (s x : State) (i : Insn) → Quiet s x → QuietOnFault s (executed_by family x i)
family_quiet Alu s x i q = uncalled_quiet s (executed_by Alu x i) (alu_uncalled x i)
family_quiet LoadStore s x i q = uncalled_quiet s (executed_by LoadStore x i) (access_family_uncalled x i)
family_quiet Branch s x i q = uncalled_quiet s (executed_by Branch x i) (branch_uncalled x i)
family_quiet System s x i q = system_quiet s x i q

-- ---- exchanges

back_tells : (s : State) (before : Core) (x : State) (course : Course) (code : Code) (stores : List Store) (value : ℕ) (o : Result Core Fault) → Keeps s before → Holds s x → Uncalled o
    → Tells s (with_stores stores (with_handling (with_value value) (back_with before x course code o)))
back_tells s before x course code stores value (Ok c) k w u e = cc
back_tells s before x course code stores value (Err fault) k w u e =
    let y = with_core x (core_back before x.core) in
    ends_tell fault s y course (with_stores stores (with_handling (with_value value) (faults y course fault))) (record { side = k.side; registers = k.registers; stacks = k.stacks }) w (no_call fault s y u) refl refl e

moves_tell : (s x : State) (course : Course) (code : Code) (stores : List Store) (target : ℕ) (ns : Bool) → Tells s (with_stores stores (moves_to x course code target ns))
moves_tell s x course code stores target false e = cc
moves_tell s x course code stores target true e = by (target % 2 == 0) e where
  by : (t : Bool) → is_exceptional (cond t Returned Went) ≡ true → HowEnded s (with_stores stores (branch_ns x course code target))
  by true e' = cc
  by false e' = cc

exchanged_tells : (s : State) (before : Core) (x past : State) (course : Course) (code : Code) (stores : List Store) (target : ℕ) (ns : Bool) → Keeps s before → Holds s x
    → Tells s (with_stores stores (exchanged before x past course code target ns))
unfolding exchanged comes_back
exchanged_tells s before x past course code stores target ns k w = by (is_fnc_return target) (is_handler x.core.registers.ipsr && is_exc_return target) where
  by : (t u : Bool) → Tells s (with_stores stores (cond t (comes_back before x course code target) (cond u (returns past course code target) (moves_to past course code target ns))))
  by true u e = back_tells s before x (touching course) code stores target (function_returned framed x.core (framed_in course.negative x)) k w (returned_uncalled x.core (framed_in course.negative x)) e
  by false true e = ByReturn past target (returns past course code target) (record { course = course; code = code; stores = stores; returned = refl; ends = refl })
  by false false e = moves_tell s past course code stores target ns e

called_tells : (s : State) (past : State → State) (x : State) (course : Course) (code : Code) (c : Core) (held : Reached) (o : Result Unit Fault) → ((fault : Fault) → o ≡ Err fault → Keeps s c) → (IsWhole s.bus → IsWhole held.system.bus) → Uncalled o
    → Tells s (called_with past x course code (record { core = c; held = held; outcome = o }))
called_tells s past x course code c held (Ok done) keeps w u e = cc
called_tells s past x course code c held (Err fault) keeps w u e =
    let k = keeps fault refl in
    faults_tell fault s (through_port x c held) course held.stores (record { side = k.side; registers = k.registers; stacks = k.stacks }) w (no_call fault s (through_port x c held) u) e

calls_keep : (s : State) (c : Core) (h : Reached) (target next : ℕ) (fault : Fault) → Keeps s c → (calls_ns access c h target next).outcome ≡ Err fault → Keeps s (calls_ns access c h target next).core
calls_keep s c h target next fault k = by (nat_lt (call_base c) (pointer_limit_of c.registers.ipsr c.stacks_s)) (answers access h (call_stores c next)) where
  by : (t : Bool) (a : Reached × Result (List ℕ) Fault) → (cond t (record { core = c; held = h; outcome = Err (StackLimit Secure) }) (after_call c target a)).outcome ≡ Err fault
      → Keeps s (cond t (record { core = c; held = h; outcome = Err (StackLimit Secure) }) (after_call c target a)).core
  by true a e = k
  by false (g, Ok words) e = cc
  by false (g, Err _) e = k

calls_tell : (s : State) (past : State → State) (x : State) (course : Course) (code : Code) (target next : ℕ) → Keeps s x.core → Holds s x → Tells s (calls past x course code target next)
unfolding calls
calls_tell s past x course code target next k w e =
    let p = calls_ns access x.core (reached_in x) target next in
    called_tells s past x course code p.core p.held p.outcome (λ fault e'. calls_keep s x.core (reached_in x) target next fault k e') (λ h. calls_whole x.core (reached_in x) target next (w h)) (calls_uncalled x.core (reached_in x) target next) e

-- ---- instructions

carried : (s x : State) (c : Core) → Keeps s x.core → Keeps x c → Keeps s c
carried s x c k l = record { side = l.side ∙ k.side; registers = l.registers ∙ k.registers; stacks = l.stacks ∙ k.stacks }

executes_tell : (i : Insn) (s x : State) (course : Course) (code : Code) → Keeps s x.core → Holds s x → Quiet s x → Tells s (executes x.core course code i (executed x i))
executes_tell i s x course code k w q = by (executed x i).outcome refl where
  by : (o : Result Outcome Fault) → (executed x i).outcome ≡ o → Tells s (concludes x.core i (executed x i).state course code (executed x i).stores o)
  by (Ok Next) is e = cc
  by (Ok (Jump to)) is e = cc
  by (Ok (Exchange target ns)) is e =
      exchanged_tells s x.core (executed x i).state (past i (executed x i).state) course code (executed x i).stores target ns k (λ h. executed_whole x i (w h)) e
  by (Ok (Calls target)) is e =
      let y = (executed x i).state in
      calls_tell s (past i) y course code target (wrap (y.core.registers.pc + length_of code)) (subst (λ (z : State). Keeps s z.core) (sym (executed_call x i target is).state) k) (λ h. executed_whole x i (w h)) e
  by (Ok (Sleep event)) is e = cc
  by (Err fault) is e = faults_tell fault s (executed x i).state course (executed x i).stores (carried s x (executed x i).state.core k (family_keeps (family_of i) x i fault is)) (λ h. executed_whole x i (w h)) (family_quiet (family_of i) s x i q fault is) e

placed_tells : (s x : State) (course : Course) (code : Code) (i : Insn) → Keeps s x.core → Holds s x → Quiet s x → Tells s (placed x course code i)
placed_tells s x course code i k w q = by (is_misplaced i x.core.registers) (is_passed_over x.core.registers && not (ignores_condition x.core.run.side i)) where
  by : (t u : Bool) → Tells s (cond t (faulting x course Undef) (cond u (skips x course code) (executes x.core course code i (executed x i))))
  by true u e = faults_tell Undef s x course [] k w tt e
  by false true e = cc
  by false false e = executes_tell i s x course code k w q e

decoded_tells : (s x : State) (course : Course) (code : Code) (d : Decoded) → Keeps s x.core → Holds s x → Quiet s x → Tells s (decoded x course code d)
decoded_tells s x course code (One i width) k w q e = placed_tells s x course code i k w q e
decoded_tells s x course code NoCoprocessor k w q e = by (is_passed_over x.core.registers) e where
  by : (t : Bool) → Tells s (cond t (skips x course code) (faulting x course NoCp))
  by true e' = cc
  by false e' = faults_tell NoCp s x course [] k w tt e'
decoded_tells s x course code (Undefined width) k w q e = faults_tell Undef s x course [] k w tt e

fetched_tells : (s x : State) (course : Course) (f : Result Fetched Fault) → Keeps s x.core → Holds s x → Quiet s x → Uncalled f → Tells s (fetched x course f)
fetched_tells s x course (Err fault) k w q u e = faults_tell fault s x course [] k w (no_call fault s x u) e
fetched_tells s x course (Ok f) k w q u e = by f.gateway e where
  by : (t : Bool) → Tells s (cond t (runs_gateway x course f.code) (decoded x course f.code (meaning_of f.code)))
  by true e' = cc
  by false e' = decoded_tells s x course f.code (meaning_of f.code) k w q e'

unready_uncalled : (looked : Bool) (side : Side) → is_call (unready looked side) ≡ false
unready_uncalled true NonSecure = refl
unready_uncalled true Secure = refl
unready_uncalled false side = refl

instructs_tell : (s x : State) → Keeps s x.core → Holds s x → Quiet s x → Tells s (instructs x)
instructs_tell s x k w q = by x.core.registers.t where
  by : (t : Bool) → Tells s (cond t (fetches x (fetch_in x)) (faulting x (course_in x (touches_secure x.core.run.side x)) (unready (touches_secure x.core.run.side x) x.core.run.side)))
  by true e = fetched_tells s x (course_in x (fetch_in x).touched) (fetch_in x).answer k w q (fetch_uncalled x.bus (fetcher_in x) x.core.registers.pc) e
  by false e = faults_tell (unready (touches_secure x.core.run.side x) x.core.run.side) s x (course_in x (touches_secure x.core.run.side x)) [] k w (no_call (unready (touches_secure x.core.run.side x) x.core.run.side) s x (unready_uncalled (touches_secure x.core.run.side x) x.core.run.side)) e

-- ---- steps

sleep_tells : (s : State) (sleep : Sleeping) → takes_first s.exceptions s.core.masks ≡ false → Tells s (by_sleep sleep s)
sleep_tells s Awake f e = instructs_tell s s (record { side = refl; registers = refl; stacks = refl }) (λ h. h) (record { masks = refl; exceptions = refl; first = f }) e
sleep_tells s Wfi f e = by (is_woken s) e where
  by : (t : Bool) → Tells s (cond t (instructs (awake s)) (idles s))
  by true e' = instructs_tell s (awake s) (record { side = refl; registers = refl; stacks = refl }) (λ h. h) (record { masks = refl; exceptions = refl; first = f }) e'
  by false e' = cc
sleep_tells s Wfe f e = by (s.core.event || is_woken s) e where
  by : (t : Bool) → Tells s (cond t (instructs (without_event (awake s))) (idles s))
  by true e' = instructs_tell s (without_event (awake s)) (record { side = refl; registers = refl; stacks = refl }) (λ h. h) (record { masks = refl; exceptions = refl; first = f }) e'
  by false e' = cc

ended_so : (s : State) → Tells s (ended s)
unfolding ended
ended_so s = by s.core.run.locked (takes_first s.exceptions s.core.masks) refl where
  by : (t u : Bool) → takes_first s.exceptions s.core.masks ≡ u → Tells s (cond t (with_stores [] (locks s true None)) (cond u (takes_exception s) (by_sleep s.core.run.sleep s)))
  by true u f e = cc
  by false true f e =
      ByEntry (awake s) (course_in s (is_secure s.core.run.side)) s.core.registers.pc
      (AtCode (record { state = refl; cause = refl; side = refl; registers = refl; stacks = refl; whole = λ h. h }) refl)
  by false false f e = sleep_tells s s.core.run.sleep f e

pub taken_so : (s : State) → (ended s).ending.cause ≡ Taken → HowEnded s (ended s)
taken_so s e = ended_so s (ap is_exceptional e)

-- ---- what resumed was a return

entry_not : (s : State) (course : Course) (back : ℕ) → (preempted s course back).ending.cause ≡ Resumed → ⊥
unfolding preempted
entry_not s course back = by (frames_enter framed s.bus.board.profile s.core s.exceptions (framed_in course.negative s) back) where
  by_result : (d : Done Framed) (x : Entered) → (taken_by (state_of d.core d.exceptions d.held.bus) course x).ending.cause ≡ Resumed → ⊥
  by_result d (entered.Taken given touched) e = cc
  by_result d (entered.Lockup touched) e = cc

  by : (d : Done Framed) → (after_entry course d).ending.cause ≡ Resumed → ⊥
  by d e = by_result d d.result e

call_not : (s : State) (course : Course) → (faults s course Call).ending.cause ≡ Resumed → ⊥
unfolding faults
call_not s course = by (faulted s.core.run.side Call s.core s.exceptions) where
  from : Raised → State
  from r = state_of (passed_by Call r.core) r.exceptions s.bus

  by : (r : Raised) → (after_raise s course Call r).ending.cause ≡ Resumed → ⊥
  by r = by_locks r.locks where
    by_locks : (t : Bool) → (cond t (locks (state_of r.core r.exceptions s.bus) course.touched None) (preempted (from r) course (goes_on_at Call s.core.registers.pc))).ending.cause ≡ Resumed → ⊥
    by_locks true e = cc
    by_locks false e = entry_not (from r) course (goes_on_at Call s.core.registers.pc) e

entry_so : (s : State) (e : Ended) (from : State) (course : Course) (back : ℕ) → Entry s e from course back → e.ending.cause ≡ Resumed → ⊥
entry_so s e from course back (AtCode i at) is = entry_not from course s.core.registers.pc (sym i.cause ∙ is)
entry_so s e from course back (BehindCall x i same at) is = call_not x course (sym i.cause ∙ is)

pub returned_so : (s : State) → (ended s).ending.cause ≡ Resumed → IsReturn (ended s)
returned_so s e = by (ended_so s (ap is_exceptional e)) where
  by : HowEnded s (ended s) → IsReturn (ended s)
  by (ByEntry from course back i) = absurd (entry_so s (ended s) from course back i e)
  by (ByReturn later value p r) = record { later = later; value = value; passed = p; by = r }
