-- PC stays even through a step, and so through a run.
use Rattle.std.proofs.Common.{◌≡◌, ℕ, zero, suc, ◌+◌, ◌%◌, ◌^◌, Bool, true, false, ◌&&◌, ◌||◌, not, cond, List, [], Option, Some, None, Result, Ok, Err, refl, sym, subst, arith}
use Rattle.tz_table.specs.declared.units.Code.{Code}
use Rattle.tz_table.specs.declared.instruction.Insn.{Insn}
use Rattle.tz_table.specs.declared.decoded.Decoded.{Decoded}
use Rattle.tz_table.specs.declared.decoded.Decoded.TheVariants.{One, NoCoprocessor, Undefined}
use Rattle.tz_model.specs.declared.report.Fault.{Fault}
use Rattle.tz_model.specs.declared.report.Outcome.{Outcome}
use Rattle.tz_model.specs.declared.report.Outcome.TheVariants.{Next, Jump, Exchange, Call, Sleep}
use Rattle.tz_model.specs.declared.report.ScriptEvent.{ScriptEvent}
use Rattle.tz_model.specs.declared.report.Sleep.{Sleep as Sleeping}
use Rattle.tz_model.specs.declared.report.Sleep.TheVariants.{Awake, Wfi, Wfe}
use Rattle.tz_model.specs.declared.report.Store.{Store}
use Rattle.tz_model.specs.declared.fetch.Fetched.{Fetched}
use Rattle.tz_model.specs.Codes.{meaning_of, second_of}
use Rattle.tz_model.specs.Words.{wrap}
use Rattle.tz_regs.specs.declared.parts.Core.{Core}
use Rattle.tz_regs.specs.Registers.{is_handler}
use Rattle.tz_state.specs.Access.{Reached, reached_in, access}
use Rattle.tz_state.specs.Execution.{takes_first}
use Rattle.tz_state.specs.State.{State, with_core}
use Rattle.tz_frames.specs.Machine.{framed}
use Rattle.tz_frames.specs.Leave.{is_exc_return}
use Rattle.tz_frames.specs.Gate.{Called, calls_ns, call_stores, after_call, is_fnc_return, numbers_agree, after_second, after_first, function_returned}
use Rattle.tz_model.specs.Ports.{answers}
use Rattle.tz_sem.specs.declared.ending.Course.{Course}
use Rattle.tz_sem.specs.Ended.{Ended, with_stores}
use Rattle.tz_sem.specs.Exec.{executed}
use Rattle.tz_sem.specs.ItRules.{is_misplaced, is_passed_over, ignores_condition}
use Rattle.tz_sem.specs.Taking.{framed_in, locks, preempted, returns}
use Rattle.tz_sem.specs.Exchange.{core_back, back_with, touching, comes_back, moves_to, exchanged, through_port, called_with, calls}
use Rattle.tz_sem.specs.Run.{Events, state_after}
use Rattle.tz_sem.specs.Step.{length_with, length_of, past, concludes, executes, placed, decoded, runs_gateway, fetched, fetches, fetch_in, course_in, instructs, idles, by_sleep, is_woken, awake, without_event, ended, started, step, faulting, skips}
use Rattle.tz_gates.proofs.EvenOffsets.{goes_evenly, decoded_even}
use Rattle.tz_gates.proofs.EvenTaken.{Even, EvenState, even_down, even_cond, even_preempted, even_faults, even_returns}
use Rattle.tz_gates.proofs.EvenExecuted.{OutcomeEven, executed_stays}

abbrev EvenEnd : Ended → Type 0
EvenEnd e = EvenState e.state

even_end : (t : Bool) (p q : Ended) → EvenEnd p → EvenEnd q → EvenEnd (cond t p q)
even_end true p q h k = h
even_end false p q h k = k

-- ---- to the next instruction

past_second : (pc : ℕ) (second : Option ℕ) → Even pc → Even (wrap (pc + length_with second))
past_second pc None h = let p : pc % 2 ≡ 0 = h.even in record { even = omega arith }
past_second pc (Some second) h = let p : pc % 2 ≡ 0 = h.even in record { even = omega arith }

past_code : (pc : ℕ) (code : Code) → Even pc → Even (wrap (pc + length_of code))
past_code pc code h = past_second pc code.second h

-- ---- exchanges

even_back_with : (before : Core) (s : State) (course : Course) (code : Code) (r : Result Core Fault) → Even before.registers.pc → ((c : Core) → r ≡ Ok c → Even c.registers.pc) → EvenState (back_with before s course code r).state
even_back_with before s course code (Ok c) h all = all c refl
even_back_with before s course code (Err fault) h all = even_faults (with_core s (core_back before s.core)) course fault h

came_even : (t : Bool) (c : Core) (x : Core) (fault : Fault) → Even x.registers.pc → cond t (Ok x) (Err fault) ≡ Ok c → Even c.registers.pc
came_even true c x fault h e = let same : x ≡ c = cc in subst (λ (y : Core). Even y.registers.pc) same h
came_even false c x fault h e = absurd (cc)

second_even : (c c' : Core) (back : ℕ) (r : Result ℕ Fault) → after_second c back r ≡ Ok c' → Even c'.registers.pc
second_even c c' back (Ok word) e = came_even (numbers_agree c.registers.ipsr (word % 2 ^ 9)) c' _ _ (even_down back) e
second_even c c' back (Err fault) e = absurd (cc)

first_even : (c c' : Core) (r q : Result ℕ Fault) → after_first c r q ≡ Ok c' → Even c'.registers.pc
first_even c c' (Ok back) q e = second_even c c' back q e
first_even c c' (Err fault) q e = absurd (cc)

even_comes_back : (before : Core) (s : State) (course : Course) (code : Code) (value : ℕ) → Even before.registers.pc → EvenState (comes_back before s course code value).state
unfolding comes_back
even_comes_back before s course code value h =
    even_back_with before s (touching course) code (function_returned framed s.core (framed_in course.negative s)) h (λ c e. first_even s.core c _ _ e)

even_moves : (s : State) (course : Course) (code : Code) (target : ℕ) (ns : Bool) → EvenState (moves_to s course code target ns).state
even_moves s course code target true = even_down target
even_moves s course code target false = even_down target

even_exchanged : (before : Core) (s past : State) (course : Course) (code : Code) (target : ℕ) (ns : Bool) → Even before.registers.pc → EvenState past → EvenState (exchanged before s past course code target ns).state
unfolding exchanged
even_exchanged before s past course code target ns h k =
    even_cond (is_fnc_return target) (comes_back before s course code target) _ (even_comes_back before s course code target h)
    (even_cond (is_handler s.core.registers.ipsr && is_exc_return target) (returns past course code target) (moves_to past course code target ns) (even_returns past course code target k)
    (even_moves past course code target ns))

even_called : (i : Insn) (s : State) (course : Course) (code : Code) (core : Core) (held : Reached) (outcome : Result (Unit {0}) Fault) → Even core.registers.pc
    → EvenState (called_with (past i) s course code (record { core = core; held = held; outcome = outcome })).state
even_called i s course code core held (Ok done) h = h
even_called i s course code core held (Err fault) h = even_faults (through_port s core held) course fault h

after_call_even : (c : Core) (target : ℕ) (a : Reached × Result (List ℕ) Fault) → Even c.registers.pc → Even (after_call c target a).core.registers.pc
after_call_even c target (h, Ok words) k = even_down target
after_call_even c target (h, Err fault) k = k

called_cond : (t : Bool) (x y : Called Reached) → Even x.core.registers.pc → Even y.core.registers.pc → Even (cond t x y).core.registers.pc
called_cond true x y p q = p
called_cond false x y p q = q

calls_ns_even : (s : State) (target next : ℕ) → EvenState s → Even (calls_ns access s.core (reached_in s) target next).core.registers.pc
calls_ns_even s target next h = called_cond _ _ (after_call s.core target (answers access (reached_in s) (call_stores s.core next))) h (after_call_even s.core target (answers access (reached_in s) (call_stores s.core next)) h)

even_calls : (i : Insn) (s : State) (course : Course) (code : Code) (target next : ℕ) → EvenState s → EvenEnd (calls (past i) s course code target next)
unfolding calls
even_calls i s course code target next h =
    let p = calls_ns access s.core (reached_in s) target next in even_called i s course code p.core p.held p.outcome (calls_ns_even s target next h)

-- ---- an instruction

even_concludes : (before : Core) (i : Insn) (s : State) (course : Course) (code : Code) (stores : List Store) (outcome : Result Outcome Fault) → Even before.registers.pc → EvenState s → OutcomeEven outcome
    → EvenEnd (concludes before i s course code stores outcome)
even_concludes before i s course code stores (Ok Next) b h o = past_code s.core.registers.pc code h
even_concludes before i s course code stores (Ok (Jump to)) b h o = o
even_concludes before i s course code stores (Ok (Exchange target ns)) b h o = even_exchanged before s (past i s) course code target ns b h
even_concludes before i s course code stores (Ok (Call target)) b h o = even_calls i s course code target _ h
even_concludes before i s course code stores (Ok (Sleep event)) b h o = past_code s.core.registers.pc code h
even_concludes before i s course code stores (Err fault) b h o = even_faults s course fault h

even_placed : (s : State) (course : Course) (code : Code) (i : Insn) → EvenState s → goes_evenly i ≡ true → EvenEnd (placed s course code i)
even_placed s course code i h e =
    let x = executed s i in
    let k = executed_stays s i h e in
    even_end (is_misplaced i s.core.registers) (faulting s course _) _ (even_faults s course _ h)
    (even_end (is_passed_over s.core.registers && not (ignores_condition s.core.run.side i)) (skips s course code) (executes s.core course code i x) (past_code s.core.registers.pc code h)
    (even_concludes s.core i x.state course code x.stores x.outcome h (subst (λ (n : ℕ). Even n) (sym k.pc) h) k.outcome))

even_decoded : (s : State) (course : Course) (code : Code) (d : Decoded) → meaning_of code ≡ d → EvenState s → EvenEnd (decoded s course code d)
even_decoded s course code (One i width) means h = even_placed s course code i h (decoded_even code.first (second_of code) i width means)
even_decoded s course code NoCoprocessor means h =
    even_end (is_passed_over s.core.registers) (skips s course code) (faulting s course _) (past_code s.core.registers.pc code h) (even_faults s course _ h)
even_decoded s course code (Undefined width) means h = even_faults s course _ h

even_gateway : (s : State) (course : Course) (code : Code) → EvenState s → EvenEnd (runs_gateway s course code)
even_gateway s course code h = let p : s.core.registers.pc % 2 ≡ 0 = h.even in record { even = omega arith }

even_fetched : (s : State) (course : Course) (answer : Result Fetched Fault) → EvenState s → EvenEnd (fetched s course answer)
even_fetched s course (Err fault) h = even_faults s course fault h
even_fetched s course (Ok f) h =
    even_end f.gateway (runs_gateway s course f.code) (decoded s course f.code (meaning_of f.code)) (even_gateway s course f.code h) (even_decoded s course f.code (meaning_of f.code) refl h)

even_instructs : (s : State) → EvenState s → EvenEnd (instructs s)
even_instructs s h =
    even_end s.core.registers.t (fetches s (fetch_in s)) (faulting s _ _) (even_fetched s (course_in s (fetch_in s).touched) (fetch_in s).answer h) (even_faults s _ _ h)

even_by_sleep : (sleep : Sleeping) (s : State) → EvenState s → EvenEnd (by_sleep sleep s)
even_by_sleep Awake s h = even_instructs s h
even_by_sleep Wfi s h = even_end (is_woken s) (instructs (awake s)) (idles s) (even_instructs (awake s) h) h
even_by_sleep Wfe s h = even_end (s.core.event || is_woken s) (instructs (without_event (awake s))) (idles s) (even_instructs (without_event (awake s)) h) h

-- ---- a step, and a run

even_ended : (s : State) → EvenState s → EvenEnd (ended s)
unfolding ended
even_ended s h =
    even_end s.core.run.locked (with_stores [] (locks s true None)) _ h
    (even_end (takes_first s.exceptions s.core.masks) (with_stores [] (preempted (awake s) _ _)) (by_sleep s.core.run.sleep s) (even_preempted (awake s) _ _ h) (even_by_sleep s.core.run.sleep s h))

even_step : (s : State) (events : List ScriptEvent) → EvenState s → EvenState (step s events).state
even_step s events h = even_ended (started s events) h

pub even_after : (events : Events) (n k : ℕ) (s : State) → EvenState s → EvenState (state_after events k s n)
even_after events zero k s h = h
even_after events (suc n) k s h = even_after events n (k + 1) (step s (events k)).state (even_step s (events k) h)
