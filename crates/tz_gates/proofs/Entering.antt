-- A step that enters does so by SG at a gate: what ran is told by its code alone.
use Rattle.std.proofs.Common.{◌≡◌, ℕ, Bool, true, false, ◌&&◌, ◌||◌, not, cond, List, [], Option, Some, None, Result, Ok, Err, refl, sym, subst, arith}
use Rattle.std.specs.Prelude.{◌==◌}
use Rattle.std.proofs.lemmas.Bool.{and_parts, eqb-true}
use Rattle.tz_table.specs.declared.units.Code.{Code}
use Rattle.tz_table.specs.declared.units.Width.TheVariants.{Wide}
use Rattle.tz_table.specs.declared.instruction.Insn.{Insn}
use Rattle.tz_table.specs.declared.instruction.Insn.TheVariants.{SecureGateway}
use Rattle.tz_table.specs.declared.decoded.Decoded.{Decoded}
use Rattle.tz_table.specs.declared.decoded.Decoded.TheVariants.{One, NoCoprocessor, Undefined}
use Rattle.tz_decode.proofs.MultipleLaws.{gateway_sg}
use Rattle.tz_model.specs.declared.report.Fault.{Fault}
use Rattle.tz_model.specs.declared.report.Outcome.{Outcome}
use Rattle.tz_model.specs.declared.report.Outcome.TheVariants.{Next, Jump, Exchange, Call, Sleep}
use Rattle.tz_model.specs.declared.report.Sleep.{Sleep as Sleeping}
use Rattle.tz_model.specs.declared.report.Sleep.TheVariants.{Awake, Wfi, Wfe}
use Rattle.tz_model.specs.declared.report.Store.{Store}
use Rattle.tz_model.specs.declared.fetch.Fetched.{Fetched}
use Rattle.tz_model.specs.Codes.{meaning_of}
use Rattle.tz_regs.specs.declared.parts.Core.{Core}
use Rattle.tz_regs.specs.Registers.{is_handler}
use Rattle.tz_state.specs.Access.{Reached, reached_in, access}
use Rattle.tz_state.specs.Execution.{takes_first}
use Rattle.tz_state.specs.State.{State, with_core}
use Rattle.tz_frames.specs.declared.entering.Entered.{Entered}
use Rattle.tz_frames.specs.declared.entering.Entered.TheVariants as entered
use Rattle.tz_frames.specs.declared.leaving.Left.{Left}
use Rattle.tz_frames.specs.declared.leaving.Left.TheVariants as left
use Rattle.tz_frames.specs.Machine.{framed}
use Rattle.tz_frames.specs.Status.{faulted}
use Rattle.tz_frames.specs.Enter.{enters}
use Rattle.tz_frames.specs.Leave.{leaves, is_exc_return}
use Rattle.tz_frames.specs.Gate.{calls_ns, is_fnc_return, function_returned}
use Rattle.tz_sem.specs.declared.ending.Handling.{Handling}
use Rattle.tz_sem.specs.declared.ending.Cause.TheVariants as causes
use Rattle.tz_sem.specs.declared.ending.Course.{Course}
use Rattle.tz_sem.specs.declared.ending.Ending.{Ending}
use Rattle.tz_sem.specs.Ended.{Passed, Ended, with_stores}
use Rattle.tz_sem.specs.Exec.{executed}
use Rattle.tz_sem.specs.ItRules.{is_misplaced, is_passed_over, ignores_condition}
use Rattle.tz_sem.specs.Taking.{state_of, locks, framed_in, taken_by, preempted, goes_on_at, passed_by, faults, left_by, returns, with_value, with_handling}
use Rattle.tz_sem.specs.Exchange.{core_back, back_with, touching, comes_back, moves_to, exchanged, called_with, calls}
use Rattle.tz_sem.specs.Step.{past, concludes, executes, placed, decoded, fetched, fetches, fetch_in, course_in, instructs, idles, by_sleep, is_woken, awake, without_event, ended, faulting, skips}
use Rattle.tz_gates.specs.Entries.{is_sg, is_sg_second}

-- no instruction ran, or the one of this code
pub data TellsCode (code : Code) (e : Ending) : Type 0 where
  Silent : e.ran ≡ None → TellsCode code e
  Tells : e.ran ≡ Some code → TellsCode code e

-- SG ran by going on to what stands behind it
pub record GoesOn (e : Ending) : Type 0 where
  pub goes : (code : Code) → e.ran ≡ Some code → is_sg code ≡ true → e.cause ≡ causes.Went

-- no instruction ran
abbrev pub IsSilent : Ending → Type 0
IsSilent e = e.ran ≡ None

silent_goes : (e : Ending) → e.ran ≡ None → GoesOn e
silent_goes e none = record { goes = λ code is sg. absurd (cc) }

-- ---- exceptions

silent_taken : (s : State) (course : Course) (result : Entered) → IsSilent (taken_by s course result).ending
silent_taken s course (entered.Taken given entry) = refl
silent_taken s course (entered.Lockup entry) = refl

silent_preempted : (s : State) (course : Course) (back : ℕ) → IsSilent (preempted s course back).ending
unfolding preempted
silent_preempted s course back =
    let d = enters framed s.bus.board.profile s.core s.exceptions (framed_in course.negative s) back in
    silent_taken (state_of d.core d.exceptions d.held.bus) course d.result

silent_cond : (t : Bool) (p q : Passed) → IsSilent p.ending → IsSilent q.ending → IsSilent (cond t p q).ending
silent_cond true p q h k = h
silent_cond false p q h k = k

silent_faults : (s : State) (course : Course) (fault : Fault) → IsSilent (faults s course fault).ending
unfolding faults
silent_faults s course fault =
    let r = faulted s.core.run.side fault s.core s.exceptions in
    let entry = preempted (state_of (passed_by fault r.core) r.exceptions s.bus) course (goes_on_at fault s.core.registers.pc) in
    silent_cond r.locks (locks (state_of r.core r.exceptions s.bus) course.touched None) entry refl
    (silent_preempted (state_of (passed_by fault r.core) r.exceptions s.bus) course (goes_on_at fault s.core.registers.pc))

-- ---- what an instruction tells

tells_cond : (code : Code) (t : Bool) (p q : Passed) → TellsCode code p.ending → TellsCode code q.ending → TellsCode code (cond t p q).ending
tells_cond code true p q h k = h
tells_cond code false p q h k = k

tells_ended : (code : Code) (t : Bool) (p q : Ended) → TellsCode code p.ending → TellsCode code q.ending → TellsCode code (cond t p q).ending
tells_ended code true p q h k = h
tells_ended code false p q h k = k

-- whatever is noted of how exceptions came into the step
tells_handling : (code : Code) (change : Handling → Handling) (p : Passed) → TellsCode code p.ending → TellsCode code (with_handling change p).ending
tells_handling code change p (Silent none) = Silent none
tells_handling code change p (Tells some) = Tells some

tells_left : (s : State) (course : Course) (code : Code) (value : ℕ) (result : Left) → TellsCode code (left_by s course code value result).ending
tells_left s course code value (left.Resumed touched) = Tells refl
tells_left s course code value (left.Chained given refused entry) = Silent refl
tells_left s course code value (left.Lockup refused entry) = Silent refl

tells_returns : (s : State) (course : Course) (code : Code) (value : ℕ) → TellsCode code (returns s course code value).ending
unfolding returns
tells_returns s course code value =
    let l = leaves framed s.bus.board.profile s.core s.exceptions (framed_in course.negative s) value in
    tells_left (state_of l.core l.exceptions l.held.bus) course code value l.result

tells_back : (before : Core) (s : State) (course : Course) (code : Code) (r : Result Core Fault) → TellsCode code (back_with before s course code r).ending
tells_back before s course code (Ok c) = Tells refl
tells_back before s course code (Err fault) = Silent (silent_faults (with_core s (core_back before s.core)) course fault)

tells_comes_back : (before : Core) (s : State) (course : Course) (code : Code) (value : ℕ) → TellsCode code (comes_back before s course code value).ending
unfolding comes_back
tells_comes_back before s course code value =
    let r = function_returned framed s.core (framed_in course.negative s) in
    tells_handling code (with_value value) (back_with before s (touching course) code r) (tells_back before s (touching course) code r)

tells_moves : (s : State) (course : Course) (code : Code) (target : ℕ) (ns : Bool) → TellsCode code (moves_to s course code target ns).ending
tells_moves s course code target true = Tells refl
tells_moves s course code target false = Tells refl

tells_exchanged : (before : Core) (s past : State) (course : Course) (code : Code) (target : ℕ) (ns : Bool) → TellsCode code (exchanged before s past course code target ns).ending
unfolding exchanged
tells_exchanged before s past course code target ns =
    tells_cond code (is_fnc_return target) (comes_back before s course code target) _ (tells_comes_back before s course code target)
    (tells_cond code (is_handler s.core.registers.ipsr && is_exc_return target) (returns past course code target) (moves_to past course code target ns)
    (tells_returns past course code target) (tells_moves past course code target ns))

tells_called : (past : State → State) (s : State) (course : Course) (code : Code) (core : Core) (held : Reached) (outcome : Result (Unit {0}) Fault)
    → TellsCode code (called_with past s course code (record { core = core; held = held; outcome = outcome })).ending
tells_called past s course code core held (Ok done) = Tells refl
tells_called past s course code core held (Err fault) = Silent (silent_faults _ course fault)

tells_calls : (past : State → State) (s : State) (course : Course) (code : Code) (target next : ℕ) → TellsCode code (calls past s course code target next).ending
unfolding calls
tells_calls past s course code target next =
    let p = calls_ns access s.core (reached_in s) target next in tells_called past s course code p.core p.held p.outcome

tells_concludes : (before : Core) (i : Insn) (s : State) (course : Course) (code : Code) (stores : List Store) (outcome : Result Outcome Fault) → TellsCode code (concludes before i s course code stores outcome).ending
tells_concludes before i s course code stores (Ok Next) = Tells refl
tells_concludes before i s course code stores (Ok (Jump to)) = Tells refl
tells_concludes before i s course code stores (Ok (Exchange target ns)) = tells_exchanged before s (past i s) course code target ns
tells_concludes before i s course code stores (Ok (Call target)) = tells_calls (past i) s course code target _
tells_concludes before i s course code stores (Ok (Sleep event)) = Tells refl
tells_concludes before i s course code stores (Err fault) = Silent (silent_faults s course fault)

tells_placed : (s : State) (course : Course) (code : Code) (i : Insn) → TellsCode code (placed s course code i).ending
tells_placed s course code i =
    let x = executed s i in
    tells_ended code (is_misplaced i s.core.registers) (faulting s course _) _ (Silent (silent_faults s course _))
    (tells_ended code (is_passed_over s.core.registers && not (ignores_condition s.core.run.side i)) (skips s course code) (executes s.core course code i x) (Tells refl)
    (tells_concludes s.core i x.state course code x.stores x.outcome))

tells_decoded : (s : State) (course : Course) (code : Code) (d : Decoded) → TellsCode code (decoded s course code d).ending
tells_decoded s course code (One i width) = tells_placed s course code i
tells_decoded s course code NoCoprocessor = tells_ended code (is_passed_over s.core.registers) (skips s course code) (faulting s course _) (Tells refl) (Silent (silent_faults s course _))
tells_decoded s course code (Undefined width) = Silent (silent_faults s course _)

-- ---- SG

goes_cond : (t : Bool) (p q : Ended) → GoesOn p.ending → GoesOn q.ending → GoesOn (cond t p q).ending
goes_cond true p q h k = h
goes_cond false p q h k = k

went : (e : Ending) → e.cause ≡ causes.Went → GoesOn e
went e is = record { goes = λ code ran sg. is }

goes_placed : (s : State) (course : Course) (code : Code) → GoesOn (placed s course code SecureGateway).ending
goes_placed s course code =
    goes_cond (is_misplaced SecureGateway s.core.registers) (faulting s course _) _ (silent_goes _ (silent_faults s course _))
    (goes_cond (is_passed_over s.core.registers && not (ignores_condition s.core.run.side SecureGateway)) (skips s course code) (executes s.core course code SecureGateway (executed s SecureGateway)) (went _ refl)
    (went _ refl))

-- the code of SG means SG
sg_means : (code : Code) → is_sg code ≡ true → meaning_of code ≡ One SecureGateway Wide
sg_means code is = go code.first code.second is where
  go : (first : ℕ) (second : Option ℕ) → (first == 0xE97F && is_sg_second second) ≡ true → meaning_of (record { first = first; second = second }) ≡ One SecureGateway Wide
  go first None e = absurd (elim (first == 0xE97F) as (λ t. (t && false) ≡ true → ⊥) [ true ↦ λ h. cc | false ↦ λ h. cc ] e)
  go first (Some second) e =
      let p = and_parts (first == 0xE97F) (second == 0xE97F) e in
      gateway_means first second (eqb-true first 0xE97F p.0) (eqb-true second 0xE97F p.1)
    where
      gateway_means : (f s : ℕ) → f ≡ 0xE97F → s ≡ 0xE97F → meaning_of (record { first = f; second = Some s }) ≡ One SecureGateway Wide
      gateway_means f s e g = gateway_sg f s (omega arith) (omega arith)

same_code : (code other : Code) (e : Ending) → TellsCode code e → e.ran ≡ Some other → other ≡ code
same_code code other e (Silent none) is = absurd (cc)
same_code code other e (Tells some) is = cc

goes_decoded : (s : State) (course : Course) (code : Code) → GoesOn (decoded s course code (meaning_of code)).ending
goes_decoded s course code = record {
  goes = λ other ran sg.
      let same : other ≡ code = same_code code other (decoded s course code (meaning_of code)).ending (tells_decoded s course code (meaning_of code)) ran in
      let its : is_sg code ≡ true = subst (λ (c : Code). is_sg c ≡ true) same sg in
      let means : meaning_of code ≡ One SecureGateway Wide = sg_means code its in
      (subst (λ (d : Decoded). GoesOn (decoded s course code d).ending) (sym means) (goes_placed s course code)).goes other ran sg;
}

goes_fetched : (s : State) (course : Course) (answer : Result Fetched Fault) → GoesOn (fetched s course answer).ending
goes_fetched s course (Err fault) = silent_goes _ (silent_faults s course fault)
goes_fetched s course (Ok f) = goes_cond f.gateway _ (decoded s course f.code (meaning_of f.code)) (went _ refl) (goes_decoded s course f.code)

goes_instructs : (s : State) → GoesOn (instructs s).ending
goes_instructs s =
    goes_cond s.core.registers.t (fetches s (fetch_in s)) (faulting s _ _) (goes_fetched s (course_in s (fetch_in s).touched) (fetch_in s).answer) (silent_goes _ (silent_faults s _ _))

goes_by_sleep : (sleep : Sleeping) (s : State) → GoesOn (by_sleep sleep s).ending
goes_by_sleep Awake s = goes_instructs s
goes_by_sleep Wfi s = goes_cond (is_woken s) (instructs (awake s)) (idles s) (goes_instructs (awake s)) (went _ refl)
goes_by_sleep Wfe s = goes_cond (s.core.event || is_woken s) (instructs (without_event (awake s))) (idles s) (goes_instructs (without_event (awake s))) (went _ refl)

pub goes_ended : (s : State) → GoesOn (ended s).ending
unfolding ended
goes_ended s =
    goes_cond s.core.run.locked (with_stores [] (locks s true None)) _ (went _ refl)
    (goes_cond (takes_first s.exceptions s.core.masks) (with_stores [] (preempted _ _ _)) (by_sleep s.core.run.sleep s) (silent_goes _ (silent_preempted _ _ _)) (goes_by_sleep s.core.run.sleep s))
