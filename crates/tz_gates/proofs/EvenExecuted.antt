-- PC through an instruction: it is as it was, and where the instruction jumps the target is even.
use Rattle.std.proofs.Common.{◌≡◌, ℕ, ℤ, pos, negsuc, ◌+◌, ◌*◌, ◌%◌, Bool, true, false, ◌&&◌, not, cond, List, [], ◌∷◌, Option, Some, None, Result, Ok, Err, refl, ◌∙◌, arith}
use Rattle.std.specs.Prelude.{◌==◌, nat_lt, slice_set, slice_index}
use Rattle.std.proofs.lemmas.Bool.Decides.{nat_tests}
use Rattle.tz_table.specs.declared.units.Side.{Side}
use Rattle.tz_table.specs.declared.units.Side.TheVariants.{Secure, NonSecure}
use Rattle.tz_table.specs.declared.instruction.DataOp.{DataOp}
use Rattle.tz_table.specs.declared.instruction.DataOp.TheVariants.{Add, Sub, Mov}
use Rattle.tz_table.specs.declared.instruction.Flags.{Flags}
use Rattle.tz_table.specs.declared.instruction.Flags.TheVariants.{Never}
use Rattle.tz_table.specs.declared.instruction.Address.{Address}
use Rattle.tz_table.specs.declared.instruction.Address.TheVariants.{Pre, Post}
use Rattle.tz_table.specs.declared.instruction.Insn.{Insn}
use Rattle.tz_table.specs.declared.instruction.Insn.TheVariants as insns
use Rattle.tz_model.specs.declared.report.Fault.{Fault}
use Rattle.tz_model.specs.declared.report.Outcome.{Outcome}
use Rattle.tz_model.specs.declared.report.Outcome.TheVariants.{Jump}
use Rattle.tz_model.specs.Ports.{answers}
use Rattle.tz_model.specs.Words.{wrap, word_of}
use Rattle.tz_regs.specs.declared.parts.Registers.{Registers}
use Rattle.tz_state.specs.declared.request.Exclusive.{Exclusive}
use Rattle.tz_regs.specs.ItState.{condition_holds}
use Rattle.tz_regs.specs.Registers.{is_privileged, pointer_limit_of, with_reg}
use Rattle.tz_regs.specs.Special.{Named, apsr_from, is_below_limit, named_of, with_special, written_ns, written_own}
use Rattle.tz_state.specs.Access.{is_aligned, Reached, reached_in, access}
use Rattle.tz_state.specs.State.{State, priority_in, is_held}
use Rattle.tz_sem.specs.declared.family.Family.{Family}
use Rattle.tz_sem.specs.declared.family.Family.TheVariants.{Alu, LoadStore, Branch, System}
use Rattle.tz_sem.specs.Operations.{computed}
use Rattle.tz_sem.specs.Local.{Local, Finished, FinishedNamed, local_of, reg, put, finished_in, finished_named}
use Rattle.tz_sem.specs.Alu.{constant_of, shifted_value, shifted_carry, flagged, is_comparison, is_limited, delivered, operated, is_width, is_field, traps_division, finish_alu}
use Rattle.tz_sem.specs.LoadStore.{offset_at, based, is_listed, listed, past_words, words_loaded, based_past, filled, register_loaded, refusal, plan_load_store, finish_load_store}
use Rattle.tz_sem.specs.Branch.{target_at, taken_if, exchange_ns, call_ns, plan_branch, finish_branch}
use Rattle.tz_sem.specs.System.{put_named, waits_for_event, finish_hint, finish_write, finish_lazy, finish_test, finish_system, probe_of}
use Rattle.tz_sem.specs.Exec.{Ported, ported, after_accesses, over, unless_refused, probed, cleared_by, Executed, alone, beside, through, Exclusivity, Free, Marks, Takes, exclusivity, released, not_stored, loads_stores, stores_exclusive, exclusively, family_of, executed_by, executed}
use Rattle.tz_gates.proofs.EvenOffsets.{is_even_number, goes_evenly}
use Rattle.tz_gates.proofs.EvenTaken.{Even, even_down}

abbrev pub JumpsEvenly : Outcome → Type 0
JumpsEvenly (Jump to) = Even to
JumpsEvenly outcome = Unit {0}

-- of what an instruction leaves, whose PC is told by `place`
Stays : {A : Type 0} → (A → ℕ) → ℕ → Result (A × Outcome) Fault → Type 0
Stays place n (Ok f) = (place f.0 ≡ n) × JumpsEvenly f.1
Stays place n (Err fault) = Unit {0}

stays_cond : {A : Type 0} (place : A → ℕ) (n : ℕ) (t : Bool) (x y : Result (A × Outcome) Fault) → Stays place n x → Stays place n y → Stays place n (cond t x y)
stays_cond place n true x y p q = p
stays_cond place n false x y p q = q

abbrev of_local : Local → ℕ
of_local l = l.registers.pc

abbrev of_named : Named → ℕ
of_named m = m.registers.pc

-- ---- registers

with_reg_pc : (r : Registers) (k value : ℕ) → (with_reg r k value).pc ≡ r.pc
with_reg_pc r k value = go (nat_lt k 13) (k == 14) where
  go : (low link : Bool) → (cond low (record r { general = slice_set r.general k value }) (cond link (record r { lr = value }) r)).pc ≡ r.pc
  go true link = refl
  go false true = refl
  go false false = refl

put_pc : (l : Local) (k value : ℕ) → (put l k value).registers.pc ≡ l.registers.pc
put_pc l k value = with_reg_pc l.registers k value

based_pc : (a : Address) (l : Local) → (based a l).registers.pc ≡ l.registers.pc
based_pc (Pre rn offset) l = put_pc l rn (offset_at l rn offset)
based_pc (Post rn offset) l = put_pc l rn (offset_at l rn offset)
based_pc _ l = refl

based_past_pc : (back : Bool) (rn value : ℕ) (l : Local) → (based_past back rn value l).registers.pc ≡ l.registers.pc
based_past_pc true rn value l = put_pc l rn value
based_past_pc false rn value l = refl

filled_pc : (l : Local) (ks words : List ℕ) → (filled l ks words).registers.pc ≡ l.registers.pc
filled_pc l [] words = refl
filled_pc l (k ∷ ks) [] = refl
filled_pc l (k ∷ ks) (word ∷ words) = filled_pc (put l k word) ks words ∙ put_pc l k word

-- ---- data processing

stays_delivered : (n : ℕ) (op : DataOp) (rd value : ℕ) (l : Local) → l.registers.pc ≡ n → Stays of_local n (delivered op rd value l)
unfolding Stays
stays_delivered n op rd value l e =
    stays_cond of_local n (is_comparison op) _ _ (e, tt)
    (stays_cond of_local n (rd == 15) _ _ (e, even_down value)
    (stays_cond of_local n (rd == 13 && is_limited op && nat_lt value (pointer_limit_of l.registers.ipsr l.own)) _ _ tt (put_pc l rd value ∙ e, tt)))

stays_operated : (op : DataOp) (flags : Flags) (rd x y : ℕ) (carry : Bool) (l : Local) → Stays of_local l.registers.pc (operated op flags rd x y carry l)
stays_operated op flags rd x y carry l =
    let c = computed op x y carry l.registers.apsr.c l.registers.apsr.v in stays_delivered l.registers.pc op rd c.value (flagged flags c l) refl

stays_alu : (i : Insn) (l : Local) → Stays of_local l.registers.pc (finish_alu i l)
unfolding Stays
stays_alu (insns.DataImm op flags rd rn imm12) l = stays_operated op flags rd (reg l rn) (constant_of l imm12).0 (constant_of l imm12).1 l
stays_alu (insns.DataReg op flags rd rn rm kind amount) l = stays_operated op flags rd (reg l rn) (shifted_value l rm kind amount) (shifted_carry l rm kind amount) l
stays_alu (insns.ShiftReg kind flags rd rn rm) l =
    stays_operated Mov flags rd 0 (shifted_value l rn kind (reg l rm % 256)) (shifted_carry l rn kind (reg l rm % 256)) l
stays_alu (insns.AddWide sub rd rn imm) l = stays_operated (cond sub Sub Add) Never rd (reg l rn) imm false l
stays_alu (insns.Saturate signed rd rn bits asr amount) l = stays_cond of_local l.registers.pc (is_width signed bits) _ _ (with_reg_pc _ rd _, tt) tt
stays_alu (insns.BitField op rd rn low width) l = stays_cond of_local l.registers.pc (is_field low width) _ _ (with_reg_pc _ rd _, tt) tt
stays_alu (insns.Divide signed rd rn rm) l = stays_cond of_local l.registers.pc (traps_division l.ccr && (reg l rm == 0)) _ _ tt (with_reg_pc _ rd _, tt)
stays_alu (insns.Adr rd offset) l = (with_reg_pc _ rd _, tt)
stays_alu (insns.MovWide top rd imm) l = (with_reg_pc _ rd _, tt)
stays_alu (insns.Extend op rd rm rotation) l = (with_reg_pc _ rd _, tt)
stays_alu (insns.Reverse op rd rm) l = (with_reg_pc _ rd _, tt)
stays_alu (insns.Multiply op flags rd rn rm ra) l = (with_reg_pc _ rd _, tt)
stays_alu (insns.MultiplyLong op lo hi rn rm) l = (with_reg_pc _ hi _ ∙ with_reg_pc _ lo _, tt)
stays_alu _ l = tt

-- ---- loads and stores

stays_loaded : (rt : ℕ) (l : Local) (value : ℕ) (n : ℕ) → l.registers.pc ≡ n → Stays of_local n (register_loaded rt l value)
unfolding Stays
stays_loaded rt l value n e = stays_cond of_local n (rt == 15) _ _ (e, tt) (put_pc l rt value ∙ e, tt)

stays_load_store : (i : Insn) (l : Local) (words : List ℕ) → Stays of_local l.registers.pc (finish_load_store i l words)
unfolding Stays
stays_load_store (insns.Load size signed rt address user) l words = stays_loaded rt (based address l) _ l.registers.pc (based_pc address l)
stays_load_store (insns.LoadMany rn list down back) l words =
    let to = based_past back rn (past_words down (reg l rn) (words_loaded list)) l in
    let same = filled_pc to (listed list) words ∙ based_past_pc back rn (past_words down (reg l rn) (words_loaded list)) l in
    stays_cond of_local l.registers.pc (is_listed list 15) _ _ (same, tt) (same, tt)
stays_load_store (insns.Store size rt address user) l words = (based_pc address l, tt)
stays_load_store (insns.LoadPair rt rt2 address) l words =
    (put_pc (put (based address l) rt (slice_index words 0)) rt2 (slice_index words 1) ∙ put_pc (based address l) rt (slice_index words 0) ∙ based_pc address l, tt)
stays_load_store (insns.StorePair rt rt2 address) l words = (based_pc address l, tt)
stays_load_store (insns.StoreMany rn list down back) l words = (based_past_pc back rn _ l, tt)
stays_load_store insns.Preload l words = (refl, tt)
stays_load_store (insns.LoadExclusive size acquire rt rn offset) l words = (put_pc l rt (slice_index words 0), tt)
stays_load_store (insns.StoreExclusive size release rd rt rn offset) l words = (put_pc l rd 0, tt)
stays_load_store (insns.LoadAcquire size rt rn) l words = (put_pc l rt (slice_index words 0), tt)
stays_load_store (insns.StoreRelease size rt rn) l words = (refl, tt)
stays_load_store _ l words = tt

-- ---- branches

even_word : (z : ℤ) → is_even_number z ≡ true → word_of z % 2 ≡ 0
even_word (pos n) e = grind (arith, nat_tests)
even_word (negsuc n) e = let h : n % 2 ≡ 1 = grind (arith, nat_tests) in omega arith

even_target : (l : Local) (offset : ℤ) → Even l.registers.pc → is_even_number offset ≡ true → Even (target_at l offset)
even_target l offset h e = let p : l.registers.pc % 2 ≡ 0 = h.even in let w : word_of offset % 2 ≡ 0 = even_word offset e in record { even = omega arith }

even_entry : (pc entry : ℕ) → Even pc → Even (wrap (wrap (pc + 4) + 2 * entry))
even_entry pc entry h = let p : pc % 2 ≡ 0 = h.even in record { even = omega arith }

stays_taken : (t : Bool) (offset : ℤ) (l : Local) → Even l.registers.pc → is_even_number offset ≡ true → Stays of_local l.registers.pc (taken_if t offset l)
unfolding Stays
stays_taken t offset l h e = stays_cond of_local l.registers.pc t _ _ (refl, even_target l offset h e) (refl, tt)

stays_exchange_ns : (side : Side) (l : Local) (target : ℕ) → Stays of_local l.registers.pc (exchange_ns side l target)
unfolding Stays
stays_exchange_ns Secure l target = (refl, tt)
stays_exchange_ns NonSecure l target = tt

stays_call_ns : (side : Side) (l : Local) (target : ℕ) → Stays of_local l.registers.pc (call_ns side l target)
unfolding Stays
stays_call_ns Secure l target = stays_cond of_local l.registers.pc (target % 2 == 1) _ _ (refl, even_down target) (refl, tt)
stays_call_ns NonSecure l target = tt

stays_branch : (i : Insn) (l : Local) (words : List ℕ) → Even l.registers.pc → goes_evenly i ≡ true → Stays of_local l.registers.pc (finish_branch i l words)
unfolding Stays
stays_branch (insns.Branch offset) l words h e = stays_taken true offset l h e
stays_branch (insns.BranchIf c offset) l words h e = stays_taken (condition_holds c l.registers.apsr) offset l h e
stays_branch (insns.BranchLink offset) l words h e = (refl, even_target l offset h e)
stays_branch (insns.BranchZero nonzero rn offset) l words h e = stays_taken (cond (reg l rn == 0) (not nonzero) nonzero) offset l h e
stays_branch (insns.TableBranch half rn rm) l words h e = (refl, even_entry l.registers.pc (slice_index words 0) h)
stays_branch (insns.BranchExchange rm true) l words h e = stays_exchange_ns l.side l (reg l rm)
stays_branch (insns.BranchExchange rm false) l words h e = (refl, tt)
stays_branch (insns.CallExchange rm true) l words h e = stays_call_ns l.side l (reg l rm)
stays_branch (insns.CallExchange rm false) l words h e = (refl, even_down (reg l rm))
stays_branch (insns.IfThen c mask) l words h e = (refl, tt)
stays_branch _ l words h e = tt

-- ---- system instructions

put_named_pc : (m : Named) (k value : ℕ) → (put_named m k value).registers.pc ≡ m.registers.pc
put_named_pc m k value = with_reg_pc m.registers k value

named_cond : (n : ℕ) (t : Bool) (x y : Named) → x.registers.pc ≡ n → y.registers.pc ≡ n → (cond t x y).registers.pc ≡ n
named_cond n true x y p q = p
named_cond n false x y p q = q

by_side : (n : ℕ) (side : Side) (x y : Named) → x.registers.pc ≡ n → y.registers.pc ≡ n → (elim side as (λ _. Named) [ Secure ↦ x | NonSecure ↦ y ]).registers.pc ≡ n
by_side n Secure x y p q = p
by_side n NonSecure x y p q = q

written_ns_pc : (m : Named) (sysm value : ℕ) (priority : ℤ) → (written_ns m sysm value priority).registers.pc ≡ m.registers.pc
written_ns_pc m sysm value priority = by_side m.registers.pc m.side _ m refl refl

special_pc : (m : Named) (sysm value : ℕ) (priority : ℤ) → (with_special m sysm value priority).registers.pc ≡ m.registers.pc
special_pc m sysm value priority =
    let n = m.registers.pc in
    named_cond n (nat_lt sysm 4) (record m { registers = record m.registers { apsr = apsr_from value } }) _ refl
    (named_cond n (nat_lt sysm 8) m _ refl
    (named_cond n (not (is_privileged m.registers.ipsr m.own)) m _ refl
    (named_cond n (nat_lt sysm 128) (written_own m sysm value priority) (written_ns m sysm value priority) refl (written_ns_pc m sysm value priority))))

stays_waits : (m : Named) → Stays of_named m.registers.pc (waits_for_event m)
unfolding Stays
stays_waits m = stays_cond of_named m.registers.pc m.event _ _ (refl, tt) (refl, tt)

stays_hint : (op : ℕ) (m : Named) → Stays of_named m.registers.pc (finish_hint op m)
unfolding Stays
stays_hint op m =
    let n = m.registers.pc in
    stays_cond of_named n (op == 2) _ _ (stays_waits m) (stays_cond of_named n (op == 3) _ _ (refl, tt) (stays_cond of_named n (op == 4) _ _ (refl, tt) (refl, tt)))

stays_written : (priority : ℤ) (sysm value : ℕ) (m : Named) → Stays of_named m.registers.pc (finish_write priority sysm value m)
unfolding Stays
stays_written priority sysm value m = stays_cond of_named m.registers.pc (is_below_limit m sysm value) _ _ tt (special_pc m sysm value priority, tt)

stays_lazy : (side : Side) (m : Named) → Stays of_named m.registers.pc (finish_lazy side m)
unfolding Stays
stays_lazy Secure m = (refl, tt)
stays_lazy NonSecure m = tt

stays_test : (side : Side) (a : Bool) (rd : ℕ) (m : Named) (word : ℕ) → Stays of_named m.registers.pc (finish_test side a rd m word)
unfolding Stays
stays_test Secure a rd m word = (put_named_pc m rd word, tt)
stays_test NonSecure a rd m word = stays_cond of_named m.registers.pc a _ _ tt (put_named_pc m rd word, tt)

stays_system : (priority : ℤ) (i : Insn) (m : Named) (word : ℕ) → Stays of_named m.registers.pc (finish_system priority i m word)
unfolding Stays
stays_system priority (insns.Hint op) m word = stays_hint op m
stays_system priority (insns.WriteSpecial rn sysm) m word = stays_written priority sysm _ m
stays_system priority (insns.TestTarget a t rd rn) m word = stays_test m.side a rd m word
stays_system priority (insns.LazyState load rn) m word = stays_lazy m.side m
stays_system priority (insns.Barrier op option) m word = (refl, tt)
stays_system priority (insns.ChangeState disable i f) m word = (refl, tt)
stays_system priority (insns.ReadSpecial rd sysm) m word = (put_named_pc m rd _, tt)
stays_system priority insns.SecureGateway m word = (refl, tt)
stays_system priority _ m word = tt

-- ---- on the state

abbrev pub OutcomeEven : Result Outcome Fault → Type 0
OutcomeEven (Ok outcome) = JumpsEvenly outcome
OutcomeEven (Err fault) = Unit {0}

-- PC is as it was, and where the instruction jumps the target is even
pub record StaysBy (n : ℕ) (x : Executed) : Type 0 where
  pub pc : x.state.core.registers.pc ≡ n
  pub outcome : OutcomeEven x.outcome

stays_alone : (s : State) (f : Finished) → Stays of_local s.core.registers.pc f → StaysBy s.core.registers.pc (alone s (finished_in s.core f))
unfolding Stays
stays_alone s (Ok f) h = record { pc = h.0; outcome = h.1 }
stays_alone s (Err fault) h = record { pc = refl; outcome = tt }

stays_ported : (s : State) (a : Reached × Result (List ℕ) Fault) (finish : List ℕ → Finished) → ((words : List ℕ) → Stays of_local s.core.registers.pc (finish words))
    → StaysBy s.core.registers.pc (through s (after_accesses s.core a finish))
unfolding Stays
stays_ported s (h, Err fault) finish all = record { pc = refl; outcome = tt }
stays_ported s (h, Ok words) finish all = go (finish words) (all words) where
  go : (f : Finished) → Stays of_local s.core.registers.pc f → StaysBy s.core.registers.pc (through s (ported h (finished_in s.core f)))
  go (Ok f) p = record { pc = p.0; outcome = p.1 }
  go (Err fault) p = record { pc = refl; outcome = tt }

stays_refused : (s : State) (refused : Option Fault) (p : Ported Reached) → StaysBy s.core.registers.pc (through s p) → StaysBy s.core.registers.pc (through s (unless_refused refused s.core (reached_in s) p))
stays_refused s (Some fault) p h = record { pc = refl; outcome = tt }
stays_refused s None p h = h

stays_loads : (s : State) (i : Insn) → StaysBy s.core.registers.pc (loads_stores s i)
stays_loads s i =
    let l = local_of s.core in
    stays_refused s (refusal i l) (over access s.core (reached_in s) (plan_load_store i l) (finish_load_store i l))
    (stays_ported s (answers access (reached_in s) (plan_load_store i l)) (finish_load_store i l) (λ words. stays_load_store i l words))

by_cond : (n : ℕ) (t : Bool) (x y : Executed) → StaysBy n x → StaysBy n y → StaysBy n (cond t x y)
by_cond n true x y p q = p
by_cond n false x y p q = q

stays_stores : (s : State) (i : Insn) (e : Exclusive) (rd : ℕ) → StaysBy s.core.registers.pc (stores_exclusive s i e rd)
stays_stores s i e rd =
    by_cond s.core.registers.pc (not (is_aligned e.size e.addr)) _ _ (record { pc = refl; outcome = tt })
    (by_cond s.core.registers.pc (is_held s.bus.monitor e) (loads_stores (released s) i) (not_stored (released s) rd) (stays_loads (released s) i)
    (record { pc = put_pc (local_of s.core) rd 1; outcome = tt }))

stays_exclusive : (u : Exclusivity) (s : State) (i : Insn) → StaysBy s.core.registers.pc (exclusively u s i)
stays_exclusive Free s i = stays_loads s i
stays_exclusive (Marks e) s i = let h = stays_loads s i in record { pc = h.pc; outcome = h.outcome }
stays_exclusive (Takes e rd) s i = stays_stores s i e rd

stays_beside : (s : State) (i : Insn) (f : FinishedNamed) → Stays of_named s.core.registers.pc f → StaysBy s.core.registers.pc (beside s (ported (cleared_by i s.bus) (finished_named s.core f)))
unfolding Stays
stays_beside s i (Ok f) h = record { pc = h.0; outcome = h.1 }
stays_beside s i (Err fault) h = record { pc = refl; outcome = tt }

stays_family : (family : Family) (s : State) (i : Insn) → Even s.core.registers.pc → goes_evenly i ≡ true → StaysBy s.core.registers.pc (executed_by family s i)
stays_family Alu s i h e = stays_alone s (finish_alu i (local_of s.core)) (stays_alu i (local_of s.core))
stays_family LoadStore s i h e = stays_exclusive (exclusivity i (local_of s.core)) s i
stays_family Branch s i h e =
    let l = local_of s.core in stays_ported s (answers access (reached_in s) (plan_branch i l)) (finish_branch i l) (λ words. stays_branch i l words h e)
stays_family System s i h e =
    let m = named_of s.core in
    let f = finish_system (priority_in s) i m (probed s.bus (probe_of (priority_in s) i m)) in
    stays_beside s i f (stays_system (priority_in s) i m (probed s.bus (probe_of (priority_in s) i m)))

pub executed_stays : (s : State) (i : Insn) → Even s.core.registers.pc → goes_evenly i ≡ true → StaysBy s.core.registers.pc (executed s i)
executed_stays s i h e = stays_family (family_of i) s i h e
