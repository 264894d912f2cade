-- A step changes no byte but those of its stores and of frames, stage by stage; nor, without a store to the system
-- registers, the SAU, nor what stands for exceptions unless one is taken or returns.
use Rattle.std.proofs.Common.{◌≡◌, ℕ, ◌+◌, Bool, true, false, ◌&&◌, ◌||◌, not, cond, List, [], Result, Ok, Err, refl, sym, ap, ◌∙◌, subst, Option, None}
use Rattle.std.specs.Prelude.{nat_lt}
use Rattle.std.specs.FinMap.{get}
use Rattle.tz_table.specs.declared.units.Side.{Side}
use Rattle.tz_table.specs.declared.units.Code.{Code}
use Rattle.tz_table.specs.declared.decoded.Decoded.{Decoded}
use Rattle.tz_table.specs.declared.decoded.Decoded.TheVariants.{One, NoCoprocessor, Undefined}
use Rattle.tz_table.specs.declared.instruction.Insn.{Insn}
use Rattle.tz_model.specs.declared.fetch.Fetched.{Fetched}
use Rattle.tz_model.specs.declared.report.Fault.{Fault}
use Rattle.tz_model.specs.declared.report.Fault.TheVariants as faults_of
use Rattle.tz_model.specs.declared.report.Outcome.{Outcome}
use Rattle.tz_model.specs.declared.report.Outcome.TheVariants.{Next, Jump, Exchange, Call, Sleep}
use Rattle.tz_model.specs.declared.report.ScriptEvent.{ScriptEvent}
use Rattle.tz_model.specs.declared.report.Sleep.{Sleep as Sleeping}
use Rattle.tz_model.specs.declared.report.Sleep.TheVariants.{Awake, Wfi, Wfe}
use Rattle.tz_model.specs.declared.report.Store.{Store}
use Rattle.tz_model.specs.Codes.{meaning_of}
use Rattle.tz_model.specs.Ports.{answers}
use Rattle.tz_model.specs.Words.{wrap}
use Rattle.tz_regs.specs.declared.parts.Core.{Core}
use Rattle.tz_regs.specs.Banks.{stacks_of}
use Rattle.tz_regs.specs.Registers.{is_handler, pointer_limit_of}
use Rattle.tz_state.specs.Access.{Reached, reached_in, access}
use Rattle.tz_state.specs.Execution.{takes_first}
use Rattle.tz_state.specs.Slots.{ExceptionsValue}
use Rattle.tz_state.specs.State.{Bus, State, with_core}
use Rattle.tz_frames.specs.declared.entering.Entered.{Entered}
use Rattle.tz_frames.specs.declared.entering.Entered.TheVariants as entered
use Rattle.tz_frames.specs.declared.leaving.Left.{Left}
use Rattle.tz_frames.specs.declared.leaving.Left.TheVariants as left
use Rattle.tz_frames.specs.Enter.{enters}
use Rattle.tz_frames.specs.Gate.{Called, call_base, call_stores, called_ns, after_call, is_fnc_return, function_returned}
use Rattle.tz_frames.specs.Leave.{is_exc_return, leaves}
use Rattle.tz_frames.specs.Machine.{framed}
use Rattle.tz_frames.specs.Status.{faulted}
use Rattle.tz_sem.specs.declared.ending.Handling.{Handling}
use Rattle.tz_sem.specs.declared.ending.Cause.{Cause}
use Rattle.tz_sem.specs.declared.ending.Course.{Course}
use Rattle.tz_sem.specs.Ended.{Passed, Ended, with_stores}
use Rattle.tz_sem.specs.Exchange.{ran_by, branch_ns, moves_to, core_back, back_with, touching, comes_back, exchanged, called_with, calls}
use Rattle.tz_sem.specs.Exec.{Executed, executed}
use Rattle.tz_sem.specs.ItRules.{is_misplaced, is_passed_over, ignores_condition}
use Rattle.tz_sem.specs.Step.{length_of, past, skips, goes_on, concludes, executes, faulting, placed, decoded, runs_gateway, fetched, fetches, fetch_in, course_in, touches_secure, unready, instructs, awake, takes_exception, idles, without_event, is_woken, by_sleep, ended, started}
use Rattle.tz_sem.specs.Taking.{state_of, locks, framed_in, taken_by, preempted, passed_by, faults, left_by, returns, with_fault, with_value, with_handling, after_raise}
use Rattle.tz_sem.proofs.Kept.{WhereCalls, CallsFirst, executed_call}
use Rattle.tz_twin.specs.Writing.{is_framed, is_exceptional, with_timers_of, KeepsElsewhere, WritesTold}
use Rattle.tz_twin.proofs.Held.{enters_held, leaves_held}
use Rattle.tz_twin.proofs.Spared.{faulted_side}
use Rattle.tz_twin.proofs.Noted.{Told, told_nothing, timers_then, Reaches, answers_told, reached_told, Executes, executed_told}
use Rattle.tz_twin.proofs.Framing.{enters_kept, leaves_kept}

-- ---- stages without stores

-- of code of a side, from a bus and exceptions on
record Passes (side : Side) (b : Bus) (e : ExceptionsValue) (p : Passed) : Type 0 where
  pub bytes : (a : ℕ) → (is_exceptional p.state.core p.ending.cause && is_framed (stacks_of side p.state.core) a) ≡ false → get p.state.bus.memory a ≡ get b.memory a
  pub board : p.state.bus.board ≡ b.board
  pub sau : p.state.bus.sau ≡ b.sau
  pub exceptions : is_exceptional p.state.core p.ending.cause ≡ false → p.state.exceptions ≡ with_timers_of p.state.exceptions e

-- with stores before it
with_told : (side : Side) (s : State) (stores : List Store) (b : Bus) (e : ExceptionsValue) (p : Passed) → Told stores s.bus b s.exceptions e → Passes side b e p → KeepsElsewhere side s (with_stores stores p)
with_told side s stores b e p h k = record {
  bytes = λ a beside out. k.bytes a out ∙ h.bytes a beside;
  board = k.board ∙ h.board;
  sau = λ inside. k.sau ∙ h.sau inside;
  exceptions = λ inside plain. timers_then s.exceptions e p.state.exceptions (h.exceptions inside) (k.exceptions plain);
}

without_stores : (side : Side) (s : State) (p : Passed) → Passes side s.bus s.exceptions p → KeepsElsewhere side s (with_stores [] p)
without_stores side s p h = with_told side s [] s.bus s.exceptions p (told_nothing [] s.bus s.exceptions) h

-- an instruction ran
passes_ran : (side : Side) (cause : Cause) (s : State) (course : Course) (code : Code) → Passes side s.bus s.exceptions (ran_by cause s course code)
passes_ran side cause s course code = record { bytes = λ a out. refl; board = refl; sau = refl; exceptions = λ plain. refl }

true_false : {P : Type 0} → true ≡ false → P
true_false e = cc

or_true : {P : Type 0} (t : Bool) → (t || true) ≡ false → P
or_true true e = cc
or_true false e = cc

out_of_frames : (t u : Bool) → ((t || true) && u) ≡ false → u ≡ false
out_of_frames true u e = e
out_of_frames false u e = e

-- the machine locks
passes_locks : (side : Side) (s : State) (e : ExceptionsValue) (touched : Bool) (handling : Option Handling) → Passes side s.bus e (locks s touched handling)
passes_locks side s e touched handling = record { bytes = λ a out. refl; board = refl; sau = refl; exceptions = true_false }

-- what is noted of how exceptions came into it is no part of that
passes_handling : (side : Side) (b : Bus) (e : ExceptionsValue) (change : Handling → Handling) (p : Passed) → Passes side b e p → Passes side b e (with_handling change p)
passes_handling side b e change p h = record { bytes = h.bytes; board = h.board; sau = h.sau; exceptions = h.exceptions }

-- what an entry or a return left
record FramesKept (side : Side) (b : Bus) (s : State) : Type 0 where
  pub bytes : (a : ℕ) → is_framed (stacks_of side s.core) a ≡ false → get s.bus.memory a ≡ get b.memory a
  pub board : s.bus.board ≡ b.board
  pub sau : s.bus.sau ≡ b.sau

passes_taken : (side : Side) (b : Bus) (e : ExceptionsValue) (s : State) (course : Course) (r : Entered) → FramesKept side b s → Passes side b e (taken_by s course r)
passes_taken side b e s course (entered.Taken given entry) h = record {
  bytes = λ a out. h.bytes a (out_of_frames s.core.run.locked (is_framed (stacks_of side s.core) a) out);
  board = h.board;
  sau = h.sau;
  exceptions = or_true s.core.run.locked;
}
passes_taken side b e s course (entered.Lockup entry) h = record { bytes = h.bytes; board = h.board; sau = h.sau; exceptions = true_false }

passes_left : (side : Side) (b : Bus) (e : ExceptionsValue) (s : State) (course : Course) (code : Code) (value : ℕ) (r : Left) → FramesKept side b s → Passes side b e (left_by s course code value r)
passes_left side b e s course code value (left.Resumed touched) h = record {
  bytes = λ a out. h.bytes a (out_of_frames s.core.run.locked (is_framed (stacks_of side s.core) a) out);
  board = h.board;
  sau = h.sau;
  exceptions = or_true s.core.run.locked;
}
passes_left side b e s course code value (left.Chained given refused entry) h = record {
  bytes = λ a out. h.bytes a (out_of_frames s.core.run.locked (is_framed (stacks_of side s.core) a) out);
  board = h.board;
  sau = h.sau;
  exceptions = or_true s.core.run.locked;
}
passes_left side b e s course code value (left.Lockup refused entry) h = record { bytes = h.bytes; board = h.board; sau = h.sau; exceptions = true_false }

passes_preempted : (s : State) (e : ExceptionsValue) (course : Course) (back : ℕ) → Passes s.core.run.side s.bus e (preempted s course back)
unfolding preempted
passes_preempted s e course back =
    let f = framed_in course.negative s in
    let d = enters framed s.bus.board.profile s.core s.exceptions f back in
    let held = enters_held s.bus.board.profile s.core s.exceptions f back in
    passes_taken s.core.run.side s.bus e (state_of d.core d.exceptions d.held.bus) course d.result
    (record {
      bytes = enters_kept s.bus.board.profile s.core s.exceptions f back;
      board = ap (λ (b : Bus). b.board) held;
      sau = ap (λ (b : Bus). b.sau) held;
    })

passes_returns : (s : State) (e : ExceptionsValue) (course : Course) (code : Code) (value : ℕ) → Passes s.core.run.side s.bus e (returns s course code value)
unfolding returns
passes_returns s e course code value =
    let f = framed_in course.negative s in
    let l = leaves framed s.bus.board.profile s.core s.exceptions f value in
    let held = leaves_held s.bus.board.profile s.core s.exceptions f value in
    passes_left s.core.run.side s.bus e (state_of l.core l.exceptions l.held.bus) course code value l.result
    (record {
      bytes = leaves_kept s.bus.board.profile s.core s.exceptions f value;
      board = ap (λ (b : Bus). b.board) held;
      sau = ap (λ (b : Bus). b.sau) held;
    })

of_side_that_ran : (side side' : Side) (b : Bus) (e : ExceptionsValue) (p : Passed) → side ≡ side' → Passes side b e p → Passes side' b e p
of_side_that_ran side side' b e p is h = subst (λ (x : Side). Passes x b e p) is h

passes_cond : (side : Side) (b : Bus) (e : ExceptionsValue) (t : Bool) (p q : Passed) → Passes side b e p → Passes side b e q → Passes side b e (cond t p q)
passes_cond side b e true p q h k = h
passes_cond side b e false p q h k = k

passed_side : (fault : Fault) (c : Core) → (passed_by fault c).run.side ≡ c.run.side
passed_side faults_of.Call c = refl
passed_side _ c = refl

passes_faults : (s : State) (e : ExceptionsValue) (course : Course) (fault : Fault) → Passes s.core.run.side s.bus e (faults s course fault)
unfolding faults
passes_faults s e course fault =
    let r = faulted s.core.run.side fault s.core s.exceptions in
    let s' = state_of (passed_by fault r.core) r.exceptions s.bus in
    passes_handling s.core.run.side s.bus e (with_fault fault) (after_raise s course fault r)
    (passes_cond s.core.run.side s.bus e r.locks _ _ (passes_locks s.core.run.side (state_of r.core r.exceptions s.bus) e course.touched None)
    (of_side_that_ran s'.core.run.side s.core.run.side s.bus e _ (passed_side fault r.core ∙ faulted_side s.core.run.side fault s.core s.exceptions) (passes_preempted s' e course _)))

-- ---- exchanges

passes_back : (before : Core) (s : State) (course : Course) (code : Code) (r : Result Core Fault) → Passes before.run.side s.bus s.exceptions (back_with before s course code r)
passes_back before s course code (Ok c) = record { bytes = λ a out. refl; board = refl; sau = refl; exceptions = λ plain. refl }
passes_back before s course code (Err fault) = passes_faults (with_core s (core_back before s.core)) s.exceptions course fault

passes_comes_back : (before : Core) (s : State) (course : Course) (code : Code) (value : ℕ) → Passes before.run.side s.bus s.exceptions (comes_back before s course code value)
unfolding comes_back
passes_comes_back before s course code value =
    let r = function_returned framed s.core (framed_in course.negative s) in
    passes_handling before.run.side s.bus s.exceptions (with_value value) (back_with before s (touching course) code r) (passes_back before s (touching course) code r)

passes_moves : (side : Side) (s : State) (course : Course) (code : Code) (target : ℕ) (ns : Bool) → Passes side s.bus s.exceptions (moves_to s course code target ns)
passes_moves side s course code target ns =
    passes_cond side s.bus s.exceptions ns (branch_ns s course code target) _ (record { bytes = λ a out. refl; board = refl; sau = refl; exceptions = λ plain. refl })
    (record { bytes = λ a out. refl; board = refl; sau = refl; exceptions = λ plain. refl })

passes_exchanged : (side : Side) (before : Core) (i : Insn) (s : State) (course : Course) (code : Code) (target : ℕ) (ns : Bool) → before.run.side ≡ side → s.core.run.side ≡ side
    → Passes side s.bus s.exceptions (exchanged before s (past i s) course code target ns)
unfolding exchanged
passes_exchanged side before i s course code target ns was is =
    passes_cond side s.bus s.exceptions (is_fnc_return target) _ _ (of_side_that_ran before.run.side side s.bus s.exceptions _ was (passes_comes_back before s course code target))
    (passes_cond side s.bus s.exceptions (is_handler s.core.registers.ipsr && is_exc_return target) _ _
    (of_side_that_ran s.core.run.side side s.bus s.exceptions _ is (passes_returns (past i s) s.exceptions course code target))
    (passes_moves side (past i s) course code target ns))

-- ---- calls

-- from what the call left of the core and of what its port holds
keeps_called : (side : Side) (s : State) (i : Insn) (course : Course) (code : Code) (c : Core) (r : Reached) → Reaches s.bus s.exceptions r
    → KeepsElsewhere side s (called_with (past i) s course code (record { core = c; held = r; outcome = Ok tt }))
keeps_called side s i course code c r h =
    with_told side s r.stores r.system.bus r.system.exceptions _ h (record { bytes = λ a out. refl; board = refl; sau = refl; exceptions = λ plain. refl })

keeps_uncalled : (s : State) (i : Insn) (course : Course) (code : Code) (r : Reached) (fault : Fault) → Reaches s.bus s.exceptions r
    → KeepsElsewhere s.core.run.side s (called_with (past i) s course code (record { core = s.core; held = r; outcome = Err fault }))
keeps_uncalled s i course code r fault h =
    let after : State = record { core = record s.core { status = r.system.status }; exceptions = r.system.exceptions; bus = r.system.bus } in
    with_told s.core.run.side s r.stores r.system.bus r.system.exceptions (faults after course fault) h (passes_faults after r.system.exceptions course fault)

keeps_after_call : (s : State) (i : Insn) (course : Course) (code : Code) (target : ℕ) (a : Reached × Result (List ℕ) Fault) → Reaches s.bus s.exceptions a.0
    → KeepsElsewhere s.core.run.side s (called_with (past i) s course code (after_call s.core target a))
keeps_after_call s i course code target (r, Ok words) h = keeps_called s.core.run.side s i course code (called_ns s.core target) r h
keeps_after_call s i course code target (r, Err fault) h = keeps_uncalled s i course code r fault h

keeps_either_call : (s : State) (i : Insn) (course : Course) (code : Code) (t : Bool) (p q : Called Reached) → KeepsElsewhere s.core.run.side s (called_with (past i) s course code p)
    → KeepsElsewhere s.core.run.side s (called_with (past i) s course code q) → KeepsElsewhere s.core.run.side s (called_with (past i) s course code (cond t p q))
keeps_either_call s i course code true p q h k = h
keeps_either_call s i course code false p q h k = k

keeps_calls : (s : State) (i : Insn) (course : Course) (code : Code) (target next : ℕ) → KeepsElsewhere s.core.run.side s (calls (past i) s course code target next)
unfolding calls
keeps_calls s i course code target next =
    keeps_either_call s i course code (nat_lt (call_base s.core) (pointer_limit_of s.core.registers.ipsr s.core.stacks_s)) _ (after_call s.core target (answers access (reached_in s) (call_stores s.core next)))
    (keeps_uncalled s i course code (reached_in s) _ (reached_told s))
    (keeps_after_call s i course code target (answers access (reached_in s) (call_stores s.core next)) (answers_told s.bus s.exceptions (call_stores s.core next) (reached_in s) (reached_told s)))

-- ---- an instruction

keeps_cond : (side : Side) (s : State) (t : Bool) (e f : Ended) → KeepsElsewhere side s e → KeepsElsewhere side s f → KeepsElsewhere side s (cond t e f)
keeps_cond side s true e f h k = h
keeps_cond side s false e f h k = k

keeps_goes_on : (s : State) (i : Insn) (x : Executed) (course : Course) (code : Code) (outcome : Outcome) → WhereCalls (Ok outcome) (CallsFirst s x) → Executes s x
    → KeepsElsewhere s.core.run.side s (goes_on s.core i x.state course code x.stores outcome)
keeps_goes_on s i x course code Next first h =
    with_told s.core.run.side s x.stores x.state.bus x.state.exceptions _ h.told (record { bytes = λ a out. refl; board = refl; sau = refl; exceptions = λ plain. refl })
keeps_goes_on s i x course code (Jump to) first h =
    with_told s.core.run.side s x.stores x.state.bus x.state.exceptions _ h.told (record { bytes = λ a out. refl; board = refl; sau = refl; exceptions = λ plain. refl })
keeps_goes_on s i x course code (Exchange target ns) first h =
    with_told s.core.run.side s x.stores x.state.bus x.state.exceptions _ h.told (passes_exchanged s.core.run.side s.core i x.state course code target ns refl h.side)
keeps_goes_on s i x course code (Call target) first h =
    subst (λ (y : State). KeepsElsewhere s.core.run.side s (calls (past i) y course code target (wrap (y.core.registers.pc + length_of code)))) (sym (first target refl).state)
    (keeps_calls s i course code target (wrap (s.core.registers.pc + length_of code)))
keeps_goes_on s i x course code (Sleep event) first h =
    with_told s.core.run.side s x.stores x.state.bus x.state.exceptions _ h.told (record { bytes = λ a out. refl; board = refl; sau = refl; exceptions = λ plain. refl })

keeps_concludes : (s : State) (i : Insn) (x : Executed) (course : Course) (code : Code) (outcome : Result Outcome Fault) → WhereCalls outcome (CallsFirst s x) → Executes s x
    → KeepsElsewhere s.core.run.side s (concludes s.core i x.state course code x.stores outcome)
keeps_concludes s i x course code (Ok outcome) first h = keeps_goes_on s i x course code outcome first h
keeps_concludes s i x course code (Err fault) first h =
    with_told s.core.run.side s x.stores x.state.bus x.state.exceptions _ h.told
    (of_side_that_ran x.state.core.run.side s.core.run.side x.state.bus x.state.exceptions _ h.side (passes_faults x.state x.state.exceptions course fault))

keeps_faulting : (s : State) (course : Course) (fault : Fault) → KeepsElsewhere s.core.run.side s (faulting s course fault)
keeps_faulting s course fault = without_stores s.core.run.side s (faults s course fault) (passes_faults s s.exceptions course fault)

keeps_skips : (s : State) (course : Course) (code : Code) → KeepsElsewhere s.core.run.side s (skips s course code)
keeps_skips s course code = without_stores s.core.run.side s _ (record { bytes = λ a out. refl; board = refl; sau = refl; exceptions = λ plain. refl })

keeps_placed : (s : State) (course : Course) (code : Code) (i : Insn) → KeepsElsewhere s.core.run.side s (placed s course code i)
keeps_placed s course code i =
    let side = s.core.run.side in
    keeps_cond side s (is_misplaced i s.core.registers) _ _ (keeps_faulting s course faults_of.Undef)
    (keeps_cond side s (is_passed_over s.core.registers && not (ignores_condition side i)) (skips s course code) (executes s.core course code i (executed s i)) (keeps_skips s course code)
    (keeps_concludes s i (executed s i) course code (executed s i).outcome (executed_call s i) (executed_told s i)))

keeps_decoded : (s : State) (course : Course) (code : Code) (d : Decoded) → KeepsElsewhere s.core.run.side s (decoded s course code d)
keeps_decoded s course code (One i width) = keeps_placed s course code i
keeps_decoded s course code NoCoprocessor =
    keeps_cond s.core.run.side s (is_passed_over s.core.registers) _ _ (keeps_skips s course code) (keeps_faulting s course faults_of.NoCp)
keeps_decoded s course code (Undefined width) = keeps_faulting s course faults_of.Undef

-- ---- the fetch

keeps_fetched : (s : State) (course : Course) (a : Result Fetched Fault) → KeepsElsewhere s.core.run.side s (fetched s course a)
keeps_fetched s course (Err fault) = keeps_faulting s course fault
keeps_fetched s course (Ok f) =
    keeps_cond s.core.run.side s f.gateway (runs_gateway s course f.code) _
    (without_stores s.core.run.side s _ (record { bytes = λ a out. refl; board = refl; sau = refl; exceptions = λ plain. refl }))
    (keeps_decoded s course f.code (meaning_of f.code))

keeps_instructs : (s : State) → KeepsElsewhere s.core.run.side s (instructs s)
keeps_instructs s =
    keeps_cond s.core.run.side s s.core.registers.t (fetches s (fetch_in s)) _ (keeps_fetched s (course_in s (fetch_in s).touched) (fetch_in s).answer)
    (keeps_faulting s (course_in s (touches_secure s.core.run.side s)) (unready (touches_secure s.core.run.side s) s.core.run.side))

-- ---- exceptions and sleep

-- sleep and the event flag are no part of what is told
keeps_awake : (s : State) (e : Ended) → KeepsElsewhere s.core.run.side (awake s) e → KeepsElsewhere s.core.run.side s e
keeps_awake s e h = record { bytes = h.bytes; board = h.board; sau = h.sau; exceptions = h.exceptions }

keeps_roused : (s : State) (e : Ended) → KeepsElsewhere s.core.run.side (without_event (awake s)) e → KeepsElsewhere s.core.run.side s e
keeps_roused s e h = record { bytes = h.bytes; board = h.board; sau = h.sau; exceptions = h.exceptions }

keeps_idles : (s : State) → KeepsElsewhere s.core.run.side s (idles s)
keeps_idles s = record { bytes = λ a beside out. refl; board = refl; sau = λ inside. refl; exceptions = λ inside plain. refl }

keeps_by_sleep : (s : State) (sleep : Sleeping) → KeepsElsewhere s.core.run.side s (by_sleep sleep s)
keeps_by_sleep s Awake = keeps_instructs s
keeps_by_sleep s Wfi = keeps_cond s.core.run.side s (is_woken s) _ _ (keeps_awake s _ (keeps_instructs (awake s))) (keeps_idles s)
keeps_by_sleep s Wfe =
    keeps_cond s.core.run.side s (s.core.event || is_woken s) _ _ (keeps_roused s _ (keeps_instructs (without_event (awake s)))) (keeps_idles s)

keeps_takes : (s : State) → KeepsElsewhere s.core.run.side s (takes_exception s)
keeps_takes s =
    keeps_awake s (takes_exception s) (without_stores s.core.run.side (awake s) _ (passes_preempted (awake s) s.exceptions _ s.core.registers.pc))

pub keeps_ended : (s : State) → KeepsElsewhere s.core.run.side s (ended s)
unfolding ended
keeps_ended s =
    keeps_cond s.core.run.side s s.core.run.locked _ _ (without_stores s.core.run.side s (locks s true None) (passes_locks s.core.run.side s s.exceptions true None))
    (keeps_cond s.core.run.side s (takes_first s.exceptions s.core.masks) (takes_exception s) _ (keeps_takes s) (keeps_by_sleep s s.core.run.sleep))

-- of a step, after what it begins with
pub writes_told : (s : State) (events : List ScriptEvent) → WritesTold s events
writes_told s events = keeps_ended (started s events)
