-- A step of Secure code looks at Secure state, and what is seen after it is fixed by its crossing: one
-- fact for each stage of the step, of one run alone.
use Rattle.std.specs.Prelude.{nat_lt}
use Rattle.std.proofs.Common.{◌≡◌, ℕ, ◌+◌, ◌%◌, ◌==◌, Bool, true, false, ◌&&◌, ◌||◌, not, cond, List, [], ◌∷◌, Result, Ok, Err, refl, sym, ap, ◌∙◌, subst, Option, Some, None}
use Rattle.tz_table.specs.declared.units.Side.{Side}
use Rattle.tz_table.specs.declared.units.Side.TheVariants.{Secure, NonSecure}
use Rattle.tz_table.specs.declared.units.Size.{Size}
use Rattle.tz_table.specs.declared.units.Size.TheVariants.{Byte, Half, Word}
use Rattle.tz_table.specs.declared.units.Code.{Code}
use Rattle.tz_table.specs.declared.decoded.Decoded.{Decoded}
use Rattle.tz_table.specs.declared.decoded.Decoded.TheVariants.{One, NoCoprocessor, Undefined}
use Rattle.tz_table.specs.declared.instruction.Insn.{Insn}
use Rattle.tz_model.specs.declared.report.Fault.{Fault}
use Rattle.tz_model.specs.declared.report.Fault.TheVariants.{Undef, NoCp, InvState, StackLimit}
use Rattle.tz_model.specs.declared.report.Outcome.{Outcome}
use Rattle.tz_model.specs.declared.report.Outcome.TheVariants.{Next, Jump, Exchange, Call, Sleep}
use Rattle.tz_model.specs.declared.report.Store.{Store}
use Rattle.tz_model.specs.declared.fetch.Fetched.{Fetched}
use Rattle.tz_model.specs.Words.{wrap, is_nonsecure_side}
use Rattle.tz_model.specs.Codes.{meaning_of}
use Rattle.tz_model.specs.Ports.{Access, Load, Store as Write, after_answer, answers}
use Rattle.tz_regs.specs.ItState.{it_advanced}
use Rattle.tz_regs.specs.Special.{named_of}
use Rattle.tz_state.specs.declared.request.Exclusive.{Exclusive}
use Rattle.tz_regs.specs.declared.parts.Core.{Core}
use Rattle.tz_state.specs.State.{State, priority_in, is_negative_at, is_held, side_of, with_pc}
use Rattle.tz_state.specs.Access.{is_aligned, is_private, Reached, reached_in, permitted_read, read_by, stored_in, write_by, access}
use Rattle.tz_state.specs.Fetch.{fetch, own_fetch}
use Rattle.tz_sem.specs.declared.family.Family.{Family}
use Rattle.tz_sem.specs.declared.family.Family.TheVariants.{Alu, LoadStore, Branch, System}
use Rattle.tz_sem.specs.Local.{Finished, FinishedNamed, local_of, finished_in, finished_named}
use Rattle.tz_sem.specs.Alu.{finish_alu}
use Rattle.tz_sem.specs.LoadStore.{refusal, plan_load_store, finish_load_store}
use Rattle.tz_sem.specs.Branch.{plan_branch, finish_branch}
use Rattle.tz_sem.specs.System.{finish_system, clears_monitor, probe_of}
use Rattle.tz_sem.specs.ItRules.{is_misplaced, is_passed_over, ignores_condition}
use Rattle.tz_sem.specs.Exec.{Ported, ported, unless_refused, after_accesses, probed, Executed, alone, beside, through, Exclusivity, Free, Marks, Takes, exclusivity, marked, released, loads_stores, exclusively, family_of, executed_by}
use Rattle.tz_sem.specs.Ended.{Passed, Ended, with_stores}
use Rattle.tz_regs.specs.declared.parts.Before.{Before}
use Rattle.tz_regs.specs.Registers.{is_handler, pointer_limit_of, side_in, before_in}
use Rattle.tz_state.specs.Execution.{takes_first}
use Rattle.tz_state.specs.Protection.{MpuState}
use Rattle.tz_state.specs.State.{Bus, with_mpu}
use Rattle.tz_state.specs.declared.register.Register.{Register}
use Rattle.tz_state.specs.declared.register.Register.TheVariants.{Ictr, Control, Mpu}
use Rattle.tz_state.specs.declared.register.ControlRegister.TheVariants.{Cpuid}
use Rattle.tz_state.specs.declared.register.ViewedRegister.{ViewedRegister}
use Rattle.tz_state.specs.declared.register.Narrow.{Narrow}
use Rattle.tz_state.specs.declared.register.Narrow.TheVariants.{Keeps, Zeros, Ignored}
use Rattle.tz_state.specs.SystemRegisters.{SystemState, after_read, written}
use Rattle.tz_state.specs.Views.{narrow_of, narrow_written, sized_written, found_at, found_read, found_written}
use Rattle.tz_model.specs.declared.report.Sleep.{Sleep as Sleeping}
use Rattle.tz_model.specs.declared.report.Sleep.TheVariants.{Awake, Wfi, Wfe}
use Rattle.tz_frames.specs.Gate.{call_base, call_stores, called_ns, after_call, is_fnc_return}
use Rattle.tz_frames.specs.Leave.{is_exc_return}
use Rattle.tz_sem.specs.declared.ending.Cause.TheVariants.{Went, Returned}
use Rattle.tz_sem.specs.declared.ending.Course.{Course}
use Rattle.tz_sem.specs.Taking.{faults}
use Rattle.tz_sem.specs.Exchange.{ran, branched, branch_ns, exchanged, through_port, called_with, calls}
use Rattle.tz_sem.specs.Step.{length_of, with_it, past, skips, goes_on, concludes, executes, placed, decoded, fetched, fetcher_in, course_in, asleep, instructs, awake, without_event, takes_exception, idles, is_woken, by_sleep, stepped, ended}
use Rattle.tz_twin.specs.Seen.{crossing, Seen}
use Rattle.tz_twin.proofs.Split.{board_seen}
use Rattle.tz_twin.proofs.After.{general_seen, after}
use Rattle.tz_twin.proofs.Both.{Touching}
use Rattle.tz_twin.proofs.Arriving.{runs_secure}
use Rattle.tz_twin.proofs.Halting.{halts_locks, halts_preempted, halts_returns, halts_comes_back, touching_halts, touching_secure}
use Rattle.tz_twin.proofs.Entering.{touching_faults, touching_enters}
use Rattle.tz_twin.proofs.Returning.{secured, never, touching_returned, touching_called}

-- the board that is seen is that of a state
abbrev pub Of : Seen → State → Type 0
Of before s = board_seen before ≡ s.bus.board

touching_cond : (s0 : State) (before : Seen) (t : Bool) (x y : Ended) → Touching s0 before x → Touching s0 before y → Touching s0 before (cond t x y)
touching_cond s0 before true x y p q = p
touching_cond s0 before false x y p q = q

-- system registers leave the board
mpu_board : (b : Bus) (side : Side) (m : MpuState) → (with_mpu b side m).board ≡ b.board
mpu_board b Secure m = refl
mpu_board b NonSecure m = refl

word_board : (side : Side) (s : SystemState) (r : Register) (value : ℕ) → (written side s r value).bus.board ≡ s.bus.board
word_board side s (Mpu r) value = mpu_board s.bus side _
word_board side s (Control Cpuid) value = refl
word_board side s (Control _) value = refl
word_board side s _ value = refl

narrow_board : (side : Side) (s : SystemState) (r : Register) (n : Narrow) (lane : ℕ) (size : Size) (value : ℕ) → (narrow_written side s r n lane size value).bus.board ≡ s.bus.board
narrow_board side s r Keeps lane size value = word_board side s r _
narrow_board side s r Zeros lane size value = word_board side s r _
narrow_board side s r Ignored lane size value = refl

sized_board : (side : Side) (s : SystemState) (r : Register) (lane : ℕ) (size : Size) (value : ℕ) → (sized_written side s r lane size value).bus.board ≡ s.bus.board
sized_board side s r lane Byte value = narrow_board side s r (narrow_of r) lane Byte value
sized_board side s r lane Half value = narrow_board side s r (narrow_of r) lane Half value
sized_board side s r lane Word value = word_board side s r value

found_written_board : (s : SystemState) (f : Option ViewedRegister) (lane : ℕ) (size : Size) (value : ℕ) → (found_written s f lane size value).bus.board ≡ s.bus.board
found_written_board s None lane size value = refl
found_written_board s (Some f) lane size value = sized_board f.view s f.register lane size value

after_read_board : (side : Side) (s : SystemState) (r : Register) → (after_read side s r).bus.board ≡ s.bus.board
after_read_board side s Ictr = refl
after_read_board side s _ = refl

found_read_board : (s : SystemState) (f : Option ViewedRegister) → (found_read s f).bus.board ≡ s.bus.board
found_read_board s None = refl
found_read_board s (Some f) = after_read_board f.view s f.register

-- and so do accesses
loaded_board : (private : Bool) (r : Reached) (size : Size) (a : ℕ) → (permitted_read private r size a).0.system.bus.board ≡ r.system.bus.board
loaded_board true r size a = found_read_board r.system (found_at r.asker.side a)
loaded_board false r size a = refl

read_board : (v : Option Fault) (r : Reached) (size : Size) (a : ℕ) → (read_by v r size a).0.system.bus.board ≡ r.system.bus.board
read_board None r size a = loaded_board (is_private a) r size a
read_board (Some fault) r size a = refl

stored_board : (private : Bool) (side : Side) (s : SystemState) (size : Size) (a value : ℕ) → (stored_in private side s size a value).bus.board ≡ s.bus.board
stored_board true side s size a value = found_written_board s (found_at side a) (a % 4) size value
stored_board false side s size a value = refl

write_board : (v : Option Fault) (r : Reached) (size : Size) (a value : ℕ) → (write_by v r size a value).0.system.bus.board ≡ r.system.bus.board
write_board None r size a value = stored_board (is_private a) r.asker.side r.system size a value
write_board (Some fault) r size a value = refl

access_board : (r : Reached) (q : Access) → (access r q).0.system.bus.board ≡ r.system.bus.board
unfolding access
access_board r (Load size a must_align user) = read_board _ r size a
access_board r (Write size a value must_align user) = write_board _ r size a _

after_board : (a : Reached × Result ℕ Fault) (r : Reached) (later : Reached → Reached × Result (List ℕ) Fault) → a.0.system.bus.board ≡ r.system.bus.board → ((h : Reached) → (later h).0.system.bus.board ≡ h.system.bus.board)
    → (after_answer a later).0.system.bus.board ≡ r.system.bus.board
after_board (h, Ok word) r later e more = more h ∙ e
after_board (h, Err fault) r later e more = e

answers_board : (qs : List Access) (r : Reached) → (answers access r qs).0.system.bus.board ≡ r.system.bus.board
unfolding answers
answers_board [] r = refl
answers_board (q ∷ more) r = after_board (access r q) r (λ left. answers access left more) (access_board r q) (λ h. answers_board more h)

-- the course of a step that has looked at Secure state
abbrev pub seeing : Bool → Course
seeing negative = record { touched = true; negative = negative }

-- an instruction after which Secure code runs on
stays : (s0 s : State) (before : Seen) (negative : Bool) (code : Code) (stores : List Store) → Of before s → Touching s0 before (with_stores stores (ran (secured s) (seeing negative) code))
stays s0 s before negative code stores e = touching_secure s0 before _ refl e refl

-- what faults in a step that began in Secure code
fault_touching : (s0 s : State) (before : Seen) (negative : Bool) (fault : Fault) (stores : List Store) → s0.core.run.side ≡ Secure → Of before s → Touching s0 before (with_stores stores (faults s (seeing negative) fault))
fault_touching s0 s before negative fault stores starts e = touching_faults s0 s before negative fault stores e (λ h. absurd (never s0 starts h))

touching_branch : (s0 s : State) (before : Seen) (negative : Bool) (code : Code) (stores : List Store) (target : ℕ) → s0.core.run.side ≡ Secure → Of before s
    → Touching s0 before (with_stores stores (branch_ns (secured s) (seeing negative) code target))
touching_branch s0 s before negative code stores target starts e = go (target % 2 == 0) where
  r : State
  r = branched s target true

  to : Bool → Ended
  to t =
      record {
        state = record r { core = record r.core { run = record r.core.run { side = cond t NonSecure Secure; locked = false } } };
        stores = stores;
        ending = record { touched = true; cause = cond t Returned Went; ran = Some code; handling = None };
      }

  go : (t : Bool) → Touching s0 before (to t)
  go true = touching_returned s0 r before negative code stores starts e
  go false = stays s0 r before negative code stores e

touching_passed : (s0 : State) (before : Seen) (stores : List Store) (t : Bool) (p q : Passed) → Touching s0 before (with_stores stores p) → Touching s0 before (with_stores stores q) → Touching s0 before (with_stores stores (cond t p q))
touching_passed s0 before stores true p q h g = h
touching_passed s0 before stores false p q h g = g

touching_exchanged : (s0 s p : State) (before : Seen) (core : Core) (negative : Bool) (code : Code) (stores : List Store) (target : ℕ) (ns : Bool) → s0.core.run.side ≡ Secure → Of before s → Of before p
    → Touching s0 before (with_stores stores (exchanged core (secured s) (secured p) (seeing negative) code target ns))
unfolding exchanged
touching_exchanged s0 s p before core negative code stores target ns starts e f =
    let back = halts_comes_back (side_in s0.core) core (secured s) (seeing negative) code target in
    let leaving = halts_returns (side_in s0.core) (secured p) (seeing negative) code target (λ h. absurd (never s0 starts h)) in
    touching_passed s0 before stores (is_fnc_return target) _ _
    (touching_halts s0 (secured s) before true core.registers.general stores _ e (λ h. absurd (never s0 starts h)) (back.touched refl) back)
    (touching_passed s0 before stores (is_handler s.core.registers.ipsr && is_exc_return target) _ _
    (touching_halts s0 (secured p) before true p.core.registers.general stores _ f (λ h. absurd (never s0 starts h)) (leaving.touched refl) leaving)
    (touching_passed s0 before stores ns _ _ (touching_branch s0 p before negative code stores target starts f)
    (stays s0 (branched p target (target % 2 == 1)) before negative code stores f)))

-- ---- a call of Non-secure code

touching_refused : (s0 s : State) (before : Seen) (i : Insn) (negative : Bool) (code : Code) (c : Core) (h : Reached) (fault : Fault) → s0.core.run.side ≡ Secure → board_seen before ≡ h.system.bus.board
    → Touching s0 before (called_with (past i) s (seeing negative) code (record { core = c; held = h; outcome = Err fault }))
touching_refused s0 s before i negative code c h fault starts e = fault_touching s0 (through_port s c h) before negative fault h.stores starts e

touching_after_call : (s0 s : State) (before : Seen) (i : Insn) (negative : Bool) (code : Code) (target : ℕ) (a : Reached × Result (List ℕ) Fault) → s0.core.run.side ≡ Secure → board_seen before ≡ a.0.system.bus.board
    → Touching s0 before (called_with (past i) s (seeing negative) code (after_call s.core target a))
touching_after_call s0 s before i negative code target (h, Ok words) starts e =
    touching_called s0 (past i (through_port s (called_ns s.core target) h)) before negative code h.stores starts e refl
touching_after_call s0 s before i negative code target (h, Err fault) starts e = touching_refused s0 s before i negative code s.core h fault starts e

touching_calls : (s0 s : State) (before : Seen) (i : Insn) (negative : Bool) (code : Code) (target next : ℕ) → s0.core.run.side ≡ Secure → Of before s → Touching s0 before (calls (past i) s (seeing negative) code target next)
unfolding calls
touching_calls s0 s before i negative code target next starts e = go (nat_lt (call_base s.core) (pointer_limit_of s.core.registers.ipsr s.core.stacks_s)) where
  a : Reached × Result (List ℕ) Fault
  a = answers access (reached_in s) (call_stores s.core next)

  board : board_seen before ≡ a.0.system.bus.board
  board = e ∙ sym (answers_board (call_stores s.core next) (reached_in s))

  go : (t : Bool)
      → Touching s0 before (called_with (past i) s (seeing negative) code (cond t (record { core = s.core; held = reached_in s; outcome = Err (StackLimit Secure) }) (after_call s.core target a)))
  go true = touching_refused s0 s before i negative code s.core (reached_in s) (StackLimit Secure) starts e
  go false = touching_after_call s0 s before i negative code target a starts board

touching_goes_on : (s0 s : State) (before : Seen) (core : Core) (negative : Bool) (code : Code) (i : Insn) (stores : List Store) (out : Outcome) → s0.core.run.side ≡ Secure → Of before s
    → Touching s0 before (goes_on core i (secured s) (seeing negative) code stores out)
touching_goes_on s0 s before core negative code i stores Next starts e = stays s0 (with_pc (past i s) (wrap (s.core.registers.pc + length_of code))) before negative code stores e
touching_goes_on s0 s before core negative code i stores (Jump to) starts e = stays s0 (with_pc (past i s) to) before negative code stores e
touching_goes_on s0 s before core negative code i stores (Exchange target ns) starts e =
    touching_exchanged s0 s (past i s) before core negative code stores target ns starts e e
touching_goes_on s0 s before core negative code i stores (Call target) starts e =
    touching_calls s0 (secured s) before i negative code target (wrap (s.core.registers.pc + length_of code)) starts e
touching_goes_on s0 s before core negative code i stores (Sleep event) starts e =
    stays s0 (with_pc (asleep event (past i s)) (wrap (s.core.registers.pc + length_of code))) before negative code stores e

touching_skips : (s0 s : State) (before : Seen) (negative : Bool) (code : Code) → Of before s → Touching s0 before (skips (secured s) (seeing negative) code)
touching_skips s0 s before negative code e = stays s0 (with_pc (with_it s (it_advanced s.core.registers.it)) (wrap (s.core.registers.pc + length_of code))) before negative code [] e

-- ---- the instruction

-- an instruction after which Secure code still runs, on the same board
record Stays (s : State) (e : Executed) : Type 0 where
  pub side : e.state.core.run.side ≡ Secure
  pub locked : e.state.core.run.locked ≡ false
  pub board : e.state.bus.board ≡ s.bus.board

touching_concludes : (s0 s : State) (before : Seen) (core : Core) (negative : Bool) (code : Code) (i : Insn) (stores : List Store) (out : Result Outcome Fault) → s0.core.run.side ≡ Secure → Of before s
    → Touching s0 before (concludes core i (secured s) (seeing negative) code stores out)
touching_concludes s0 s before core negative code i stores (Ok outcome) starts e = touching_goes_on s0 s before core negative code i stores outcome starts e
touching_concludes s0 s before core negative code i stores (Err fault) starts e = fault_touching s0 (secured s) before negative fault stores starts e

touching_executes : (s0 s : State) (before : Seen) (core : Core) (negative : Bool) (code : Code) (i : Insn) (e : Executed) → s0.core.run.side ≡ Secure → Of before s → Stays s e
    → Touching s0 before (executes core (seeing negative) code i e)
touching_executes s0 s before core negative code i e starts is h =
    let same : e.state ≡ secured e.state =
    λ j. record e.state { core = record e.state.core { run = record e.state.core.run { side = h.side j; locked = h.locked j } } } in
    subst (λ (r : State). Touching s0 before (concludes core i r (seeing negative) code e.stores e.outcome)) (sym same)
    (touching_concludes s0 e.state before core negative code i e.stores e.outcome starts (is ∙ sym h.board))

stays_cond : (s : State) (t : Bool) (e f : Executed) → Stays s e → Stays s f → Stays s (cond t e f)
stays_cond s true e f p q = p
stays_cond s false e f p q = q

stays_alone : (s : State) (f : Finished) → Stays s (alone (secured s) (finished_in (secured s).core f))
stays_alone s (Ok f) = record { side = refl; locked = refl; board = refl }
stays_alone s (Err fault) = record { side = refl; locked = refl; board = refl }

stays_named : (s : State) (clears : Bool) (f : FinishedNamed) → Stays s (beside (secured s) (ported (cond clears (record s.bus { monitor = None }) s.bus) (finished_named (secured s).core f)))
stays_named s true (Ok f) = record { side = refl; locked = refl; board = refl }
stays_named s false (Ok f) = record { side = refl; locked = refl; board = refl }
stays_named s true (Err fault) = record { side = refl; locked = refl; board = refl }
stays_named s false (Err fault) = record { side = refl; locked = refl; board = refl }

stays_ported : (s : State) (h : Reached) (f : Finished) → h.system.bus.board ≡ s.bus.board → Stays s (through (secured s) (ported h (finished_in (secured s).core f)))
stays_ported s h (Ok f) e = record { side = refl; locked = refl; board = e }
stays_ported s h (Err fault) e = record { side = refl; locked = refl; board = e }

stays_accesses : (s : State) (a : Reached × Result (List ℕ) Fault) (finish : List ℕ → Finished) → a.0.system.bus.board ≡ s.bus.board → Stays s (through (secured s) (after_accesses (secured s).core a finish))
stays_accesses s (h, Ok words) finish e = stays_ported s h (finish words) e
stays_accesses s (h, Err fault) finish e = record { side = refl; locked = refl; board = e }

stays_refused : (s : State) (refused : Option Fault) (p : Ported Reached) → Stays s (through (secured s) p) → Stays s (through (secured s) (unless_refused refused (secured s).core (reached_in (secured s)) p))
stays_refused s (Some fault) p h = record { side = refl; locked = refl; board = refl }
stays_refused s None p h = h

stays_loads : (s : State) (i : Insn) → Stays s (loads_stores (secured s) i)
stays_loads s i =
    let l = local_of (secured s).core in
    stays_refused s (refusal i l) _ (stays_accesses s _ (finish_load_store i l) (answers_board (plan_load_store i l) (reached_in (secured s))))

stays_marked : (s : State) (m : Exclusive) (e : Executed) → Stays s e → Stays s (marked m e)
stays_marked s m e h = record { side = h.side; locked = h.locked; board = h.board }

-- with the monitor cleared before
stays_before : (s : State) (e : Executed) → Stays (released s) e → Stays s e
stays_before s e h = record { side = h.side; locked = h.locked; board = h.board }

stays_exclusive : (s : State) (u : Exclusivity) (i : Insn) → Stays s (exclusively u (secured s) i)
stays_exclusive s Free i = stays_loads s i
stays_exclusive s (Marks m) i = stays_marked s m _ (stays_loads s i)
stays_exclusive s (Takes m rd) i =
    stays_cond s (not (is_aligned m.size m.addr)) _ _ (record { side = refl; locked = refl; board = refl })
    (stays_cond s (is_held s.bus.monitor m) _ _ (stays_before s _ (stays_loads (released s) i)) (record { side = refl; locked = refl; board = refl }))

stays_family : (s : State) (i : Insn) (family : Family) → Stays s (executed_by family (secured s) i)
stays_family s i Alu = stays_alone s (finish_alu i (local_of (secured s).core))
stays_family s i LoadStore = stays_exclusive s (exclusivity i (local_of (secured s).core)) i
stays_family s i Branch =
    let l = local_of (secured s).core in
    stays_accesses s _ (finish_branch i l) (answers_board (plan_branch i l) (reached_in (secured s)))
stays_family s i System =
    let p = priority_in (secured s) in
    let n = named_of (secured s).core in
    stays_named s (clears_monitor i) (finish_system p i n (probed s.bus (probe_of p i n)))

touching_placed : (s : State) (before : Seen) (negative : Bool) (code : Code) (i : Insn) → Of before s → Touching (secured s) before (placed (secured s) (seeing negative) code i)
touching_placed s before negative code i e =
    touching_cond (secured s) before (is_misplaced i s.core.registers) _ _ (fault_touching (secured s) (secured s) before negative Undef [] refl e)
    (touching_cond (secured s) before (is_passed_over s.core.registers && not (ignores_condition Secure i)) _ _ (touching_skips (secured s) s before negative code e)
    (touching_executes (secured s) s before (secured s).core negative code i _ refl e (stays_family s i (family_of i))))

touching_decoded : (s : State) (before : Seen) (negative : Bool) (code : Code) (d : Decoded) → Of before s → Touching (secured s) before (decoded (secured s) (seeing negative) code d)
touching_decoded s before negative code (One i width) e = touching_placed s before negative code i e
touching_decoded s before negative code NoCoprocessor e =
    touching_cond (secured s) before (is_passed_over s.core.registers) _ _ (touching_skips (secured s) s before negative code e)
    (fault_touching (secured s) (secured s) before negative NoCp [] refl e)
touching_decoded s before negative code (Undefined width) e = fault_touching (secured s) (secured s) before negative Undef [] refl e

-- ---- the step

touching_fetched : (s : State) (before : Seen) (negative : Bool) (f : Result Fetched Fault) → Of before s → Touching (secured s) before (fetched (secured s) (seeing negative) f)
touching_fetched s before negative (Err fault) e = fault_touching (secured s) (secured s) before negative fault [] refl e
touching_fetched s before negative (Ok f) e =
    touching_cond (secured s) before f.gateway _ _ (touching_enters (secured s) (secured s) before negative f.code e) (touching_decoded s before negative f.code (meaning_of f.code) e)

-- an instruction of Secure code, with what comes where T is 0
touching_instructs : (s : State) (before : Seen) → Of before s → Touching (secured s) before (instructs (secured s))
unfolding fetch
touching_instructs s before e =
    touching_cond (secured s) before s.core.registers.t _ _
    (touching_fetched s before (is_negative_at (priority_in (secured s))) (own_fetch s.bus (fetcher_in (secured s)) s.core.registers.pc) e)
    (fault_touching (secured s) (secured s) before (is_negative_at (priority_in (secured s))) InvState [] refl e)

-- what is told before doesn't know of sleep and the event flag
touching_woken : (s r : State) (before : Seen) (x : Ended) → before_in (secured r).core ≡ before_in (secured s).core → Touching (secured r) before x → Touching (secured s) before x
touching_woken s r before x same t =
    record { touched = t.touched; seen = t.seen ∙ ap (λ (b : Before). after before (crossing (stepped b x))) same }

touching_idles : (s : State) (before : Seen) → Of before s → Touching (secured s) before (idles (secured s))
touching_idles s before e = touching_secure (secured s) before _ refl e refl

touching_sleeps : (s : State) (before : Seen) (sleep : Sleeping) → Of before s → Touching (secured s) before (by_sleep sleep (secured s))
touching_sleeps s before Awake e = touching_instructs s before e
touching_sleeps s before Wfi e =
    touching_cond (secured s) before (is_woken (secured s)) _ _ (touching_woken s (awake s) before _ refl (touching_instructs (awake s) before e)) (touching_idles s before e)
touching_sleeps s before Wfe e =
    touching_cond (secured s) before (s.core.event || is_woken (secured s)) _ _
    (touching_woken s (without_event (awake s)) before _ refl (touching_instructs (without_event (awake s)) before e)) (touching_idles s before e)

-- an exception that comes before an instruction
touching_taken : (s : State) (before : Seen) → Of before s → Touching (secured s) before (takes_exception (secured s))
touching_taken s before e =
    let h = halts_preempted Secure (awake (secured s)) (course_in (secured s) true) s.core.registers.pc in
    touching_halts (secured s) (awake (secured s)) before true s.core.registers.general [] _ e (λ is. absurd (never (secured s) refl is)) (h.touched refl) h

-- a step of Secure code
touching_secured : (s : State) (before : Seen) → Of before s → Touching (secured s) before (ended (secured s))
unfolding ended
touching_secured s before e =
    touching_cond (secured s) before (takes_first s.exceptions s.core.masks) _ _ (touching_taken s before e)
    (touching_sleeps s before s.core.run.sleep e)

false_is_true : {P : Type 0} → false ≡ true → P
false_is_true e = cc

touching_first : (s0 : State) (before : Seen) (t : Bool) (x y : Ended) → t ≡ true → Touching s0 before x → Touching s0 before (cond t x y)
touching_first s0 before true x y h p = p
touching_first s0 before false x y h p = false_is_true h

-- a step of a locked machine
touching_locked : (s : State) (before : Seen) → s.core.run.locked ≡ true → Of before s → Touching s before (ended s)
unfolding ended
touching_locked s before is e = touching_first s before s.core.run.locked _ _ is
    (touching_halts s s before true (general_seen before) [] _ e (λ h. refl) refl (halts_locks (side_in s.core) (general_seen before) s true None))

-- a step that starts Secure, or locked
pub touching_step : (s : State) (before : Seen) → is_nonsecure_side (side_of s) ≡ false → Of before s → Touching s before (ended s)
touching_step s before is e = go s.core.run.locked refl is where
  go : (locked : Bool) → s.core.run.locked ≡ locked → is_nonsecure_side (cond locked Secure s.core.run.side) ≡ false → Touching s before (ended s)
  go true l h = touching_locked s before l e
  go false l h =
      let side = runs_secure s.core.run.side h in
      let same : s ≡ secured s = λ i. record s { core = record s.core { run = record s.core.run { side = side i; locked = l i } } } in
      subst (λ (r : State). Touching r before (ended r)) (sym same) (touching_secured s before e)
