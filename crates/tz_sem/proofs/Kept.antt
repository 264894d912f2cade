-- What instructions keep: the number of the exception; in Non-secure state the Secure stacks; and where one calls
-- Non-secure code, which BLXNS alone does, all. SVC alone makes the fault of SVC.
use Rattle.std.proofs.Common.{◌≡◌, ℕ, Bool, true, false, ◌&&◌, not, cond, List, [], ◌∷◌, Option, Some, None, Result, Ok, Err, refl, ap, ◌∙◌}
use Rattle.std.specs.Prelude.{◌==◌, nat_lt, ℤ, slice_index, slice_set, length, ◌%◌}
use Rattle.tz_table.specs.declared.units.Side.{Side}
use Rattle.tz_table.specs.declared.units.Side.TheVariants.{Secure, NonSecure}
use Rattle.tz_table.specs.declared.instruction.Insn.{Insn}
use Rattle.tz_table.specs.declared.instruction.Insn.TheVariants as insns
use Rattle.tz_table.specs.declared.instruction.Address.{Address}
use Rattle.tz_table.specs.declared.instruction.Address.TheVariants.{Pre, Post}
use Rattle.tz_table.specs.declared.instruction.DataOp.{DataOp}
use Rattle.tz_table.specs.declared.instruction.DataOp.TheVariants.{Mov, Add, Sub}
use Rattle.tz_table.specs.declared.instruction.Flags.TheVariants.{Never}
use Rattle.tz_model.specs.Ports.{answers}
use Rattle.tz_model.specs.Words.{even_of}
use Rattle.tz_model.specs.declared.report.Fault.{Fault}
use Rattle.tz_model.specs.declared.report.Fault.TheVariants.{Undef, DivZero, StackLimit}
use Rattle.tz_model.specs.declared.report.Outcome.{Outcome}
use Rattle.tz_model.specs.declared.report.Outcome.TheVariants.{Next, Jump, Exchange, Call}
use Rattle.tz_regs.specs.declared.parts.Core.{Core}
use Rattle.tz_regs.specs.declared.parts.Registers.{Registers}
use Rattle.tz_regs.specs.declared.parts.Stacks.{Stacks}
use Rattle.tz_regs.specs.Banks.{secure_after}
use Rattle.tz_regs.specs.Registers.{with_reg, pointer_limit_of, is_privileged}
use Rattle.tz_regs.specs.Special.{Named, named_of, with_special, written_own, written_ns, stacks_written, masks_written, special_named, is_below_limit}
use Rattle.tz_state.specs.State.{State, is_held, priority_in}
use Rattle.tz_state.specs.Access.{is_aligned, access, reached_in}
use Rattle.tz_sem.specs.declared.family.Family.{Family}
use Rattle.tz_sem.specs.declared.family.Family.TheVariants.{Alu, LoadStore, Branch, System}
use Rattle.tz_sem.specs.Exec.{Ported, ported, unless_refused, through, probed, after_accesses, loads_stores, Executed, exclusively, Exclusivity, Free, Marks, Takes, not_stored, released, executed, executed_by, family_of, exclusivity}
use Rattle.tz_sem.specs.Local.{Local, Finished, FinishedNamed, local_of, put, gives, reg, with_registers, finished_in, finished_named}
use Rattle.tz_sem.specs.Operations.{computed}
use Rattle.tz_sem.specs.Alu.{finish_alu, delivered, flagged, is_comparison, is_limited, is_width, is_field, traps_division}
use Rattle.tz_sem.specs.LoadStore.{refusal, plan_load_store, finish_load_store, based, register_loaded, filled, listed, based_past, offset_at, past_words, words_loaded, is_listed}
use Rattle.tz_sem.specs.Branch.{plan_branch, finish_branch, taken_if, exchange_ns, call_ns, links}
use Rattle.tz_sem.specs.System.{probe_of, finish_system, finish_lazy, finish_test}
use Rattle.tz_sem.proofs.Faulted.{is_call, Uncalled}
use Rattle.tz_sem.proofs.Local.{core_kept}

-- ---- what a part of the core keeps

with_reg_keeps : (r : Registers) (k value : ℕ) → (with_reg r k value).ipsr ≡ r.ipsr
with_reg_keeps r k value = go (nat_lt k 13) (k == 14) where
  go : (t u : Bool) → (cond t (record r { general = slice_set r.general k value }) (cond u (record r { lr = value }) r)).ipsr ≡ r.ipsr
  go true u = refl
  go false true = refl
  go false false = refl

put_keeps : (l : Local) (k value : ℕ) → (put l k value).registers.ipsr ≡ l.registers.ipsr
put_keeps l k value = with_reg_keeps l.registers k value

based_keeps : (address : Address) (l : Local) → (based address l).registers.ipsr ≡ l.registers.ipsr
based_keeps (Pre rn offset) l = put_keeps l rn (offset_at l rn offset)
based_keeps (Post rn offset) l = put_keeps l rn (offset_at l rn offset)
based_keeps address l = refl

based_past_keeps : (back : Bool) (rn value : ℕ) (l : Local) → (based_past back rn value l).registers.ipsr ≡ l.registers.ipsr
based_past_keeps true rn value l = put_keeps l rn value
based_past_keeps false rn value l = refl

filled_keeps : (l : Local) (ks words : List ℕ) → (filled l ks words).registers.ipsr ≡ l.registers.ipsr
filled_keeps l [] words = refl
filled_keeps l (k ∷ ks) [] = refl
filled_keeps l (k ∷ ks) (w ∷ words) = filled_keeps (put l k w) ks words ∙ put_keeps l k w

-- ---- what an instruction leaves

abbrev pub is_blxns : Insn → Bool
is_blxns (insns.CallExchange rm ns) = ns
is_blxns insn = false

-- the number as it was; of an instruction that calls Non-secure code, that it may
abbrev Keeps : Bool → Outcome → ℕ → ℕ → Type 0
Keeps may (Call to) new old = (new ≡ old) × (may ≡ true)
Keeps may outcome new old = new ≡ old

abbrev Same : Bool → ℕ → Finished → Type 0
Same may n (Ok f) = Keeps may f.1 f.0.registers.ipsr n
Same may n (Err fault) = is_call fault ≡ false

pub same_uncalled : (may : Bool) (n : ℕ) (f : Finished) → Same may n f → Uncalled f
same_uncalled may n (Ok f) k = tt
same_uncalled may n (Err fault) k = k

same_if : (may : Bool) (n : ℕ) (t : Bool) (f g : Finished) → Same may n f → Same may n g → Same may n (cond t f g)
same_if may n true f g a b = a
same_if may n false f g a b = b

delivered_same : (op : DataOp) (rd value : ℕ) (l : Local) → Same false l.registers.ipsr (delivered op rd value l)
delivered_same op rd value l =
    same_if false l.registers.ipsr (is_comparison op) (Ok (l, Next)) _ refl
    (same_if false l.registers.ipsr (rd == 15) (Ok (l, Jump (even_of value))) _ refl
    (same_if false l.registers.ipsr (rd == 13 && is_limited op && nat_lt value (pointer_limit_of l.registers.ipsr l.own)) (Err (StackLimit l.side)) (gives l rd value) refl (put_keeps l rd value)))

pub alu_same : (i : Insn) (l : Local) → Same (is_blxns i) l.registers.ipsr (finish_alu i l)
alu_same (insns.DataImm op flags rd rn imm12) l = delivered_same op rd _ (flagged flags _ l)
alu_same (insns.DataReg op flags rd rn rm kind amount) l = delivered_same op rd _ (flagged flags _ l)
alu_same (insns.ShiftReg kind flags rd rn rm) l = delivered_same Mov rd _ (flagged flags _ l)
alu_same (insns.AddWide sub rd rn imm) l =
    let x = computed (cond sub Sub Add) (reg l rn) imm false l.registers.apsr.c l.registers.apsr.v in
    delivered_same (cond sub Sub Add) rd x.value (flagged Never x l)
alu_same (insns.Adr rd offset) l = put_keeps l rd _
alu_same (insns.MovWide top rd imm) l = put_keeps l rd _
alu_same (insns.Saturate signed rd rn bits asr amount) l = same_if false l.registers.ipsr (is_width signed bits) _ (Err Undef) (put_keeps (with_registers l _) rd _) refl
alu_same (insns.BitField op rd rn low width) l = same_if false l.registers.ipsr (is_field low width) _ (Err Undef) (put_keeps l rd _) refl
alu_same (insns.Extend op rd rm rotation) l = put_keeps l rd _
alu_same (insns.Reverse op rd rm) l = put_keeps l rd _
alu_same (insns.Multiply op flags rd rn rm ra) l = put_keeps (with_registers l _) rd _
alu_same (insns.MultiplyLong op lo hi rn rm) l = put_keeps (put l lo _) hi _ ∙ put_keeps l lo _
alu_same (insns.Divide signed rd rn rm) l = same_if false l.registers.ipsr (traps_division l.ccr && (reg l rm == 0)) (Err DivZero) _ refl (put_keeps l rd _)
alu_same insn l = refl

loaded_same : (n rt word : ℕ) (l : Local) → l.registers.ipsr ≡ n → Same false n (register_loaded rt l word)
loaded_same n rt word l is = same_if false n (rt == 15) (Ok (l, Exchange word false)) (gives l rt word) is (put_keeps l rt word ∙ is)

pub load_store_same : (i : Insn) (l : Local) (words : List ℕ) → Same (is_blxns i) l.registers.ipsr (finish_load_store i l words)
load_store_same (insns.Load size signed rt address user) l words = loaded_same l.registers.ipsr rt _ (based address l) (based_keeps address l)
load_store_same (insns.Store size rt address user) l words = based_keeps address l
load_store_same (insns.LoadPair rt rt2 address) l words = put_keeps (put (based address l) rt _) rt2 _ ∙ put_keeps (based address l) rt _ ∙ based_keeps address l
load_store_same (insns.StorePair rt rt2 address) l words = based_keeps address l
load_store_same (insns.LoadMany rn list down back) l words =
    let base : Local = based_past back rn (past_words down (reg l rn) (words_loaded list)) l in
    let k : (filled base (listed list) words).registers.ipsr ≡ l.registers.ipsr = filled_keeps base (listed list) words ∙ based_past_keeps back rn _ l in
    same_if false l.registers.ipsr (is_listed list 15) (Ok (filled base (listed list) words, Exchange (slice_index words (length (listed list))) false)) (Ok (filled base (listed list) words, Next)) k k
load_store_same (insns.StoreMany rn list down back) l words = based_past_keeps back rn _ l
load_store_same insns.Preload l words = refl
load_store_same (insns.LoadExclusive size acquire rt rn offset) l words = put_keeps l rt _
load_store_same (insns.StoreExclusive size release rd rt rn offset) l words = put_keeps l rd _
load_store_same (insns.LoadAcquire size rt rn) l words = put_keeps l rt _
load_store_same (insns.StoreRelease size rt rn) l words = refl
load_store_same insn l words = refl

taken_same : (t : Bool) (offset : ℤ) (l : Local) → Same false l.registers.ipsr (taken_if t offset l)
taken_same true offset l = refl
taken_same false offset l = refl

exchange_same : (side : Side) (l : Local) (target : ℕ) → Same false l.registers.ipsr (exchange_ns side l target)
exchange_same Secure l target = refl
exchange_same NonSecure l target = refl

call_same : (side : Side) (l : Local) (target : ℕ) → Same true l.registers.ipsr (call_ns side l target)
call_same Secure l target = same_if true l.registers.ipsr (target % 2 == 1) (links l target) (Ok (l, Call target)) refl (refl, refl)
call_same NonSecure l target = refl

pub branch_same : (i : Insn) (l : Local) (words : List ℕ) → Same (is_blxns i) l.registers.ipsr (finish_branch i l words)
branch_same (insns.Branch offset) l words = refl
branch_same (insns.BranchIf c offset) l words = taken_same _ offset l
branch_same (insns.BranchLink offset) l words = refl
branch_same (insns.BranchZero nonzero rn offset) l words = taken_same _ offset l
branch_same (insns.TableBranch half rn rm) l words = refl
branch_same (insns.BranchExchange rm false) l words = refl
branch_same (insns.BranchExchange rm true) l words = exchange_same l.side l _
branch_same (insns.CallExchange rm false) l words = refl
branch_same (insns.CallExchange rm true) l words = call_same l.side l _
branch_same (insns.IfThen c mask) l words = refl
branch_same insn l words = refl

-- ---- special registers

abbrev SameNamed : Bool → ℕ → FinishedNamed → Type 0
SameNamed may n (Ok f) = Keeps may f.1 f.0.registers.ipsr n
SameNamed may n (Err fault) = Unit

named_if : (n : ℕ) (t : Bool) (f g : FinishedNamed) → SameNamed false n f → SameNamed false n g → SameNamed false n (cond t f g)
named_if n true f g a b = a
named_if n false f g a b = b

pick : (m : ℕ) (t : Bool) (a b : Named) → a.registers.ipsr ≡ m → b.registers.ipsr ≡ m → (cond t a b).registers.ipsr ≡ m
pick m true a b e f = e
pick m false a b e f = f

ns_keeps : (n : Named) (sysm value : ℕ) (priority : ℤ) → (written_ns n sysm value priority).registers.ipsr ≡ n.registers.ipsr
ns_keeps n sysm value priority = by n.side where
  to : Side → Named
  to Secure = record n {
    ns = stacks_written n.registers.ipsr n.ns (special_named (sysm % 128)) value;
    masks = record n.masks { ns = masks_written priority n.masks.ns (special_named (sysm % 128)) value };
  }
  to NonSecure = n

  by : (side : Side) → (to side).registers.ipsr ≡ n.registers.ipsr
  by Secure = refl
  by NonSecure = refl

special_keeps : (n : Named) (sysm value : ℕ) (priority : ℤ) → (with_special n sysm value priority).registers.ipsr ≡ n.registers.ipsr
special_keeps n sysm value priority =
    pick n.registers.ipsr (nat_lt sysm 4) _ _ refl (pick n.registers.ipsr (nat_lt sysm 8) n _ refl
    (pick n.registers.ipsr (not (is_privileged n.registers.ipsr n.own)) n _ refl
    (pick n.registers.ipsr (nat_lt sysm 128) (written_own n sysm value priority) (written_ns n sysm value priority) refl (ns_keeps n sysm value priority))))

system_same : (priority : ℤ) (i : Insn) (n : Named) (word : ℕ) → SameNamed (is_blxns i) n.registers.ipsr (finish_system priority i n word)
system_same priority (insns.Hint op) n word =
    named_if n.registers.ipsr (op == 2) _ _ (named_if n.registers.ipsr n.event _ _ refl refl)
    (named_if n.registers.ipsr (op == 3) _ _ refl (named_if n.registers.ipsr (op == 4) _ _ refl refl))
system_same priority (insns.Barrier op option) n word = refl
system_same priority (insns.ChangeState disable i f) n word = refl
system_same priority (insns.ReadSpecial rd sysm) n word = with_reg_keeps n.registers rd _
system_same priority (insns.WriteSpecial rn sysm) n word = named_if n.registers.ipsr (is_below_limit n sysm _) (Err (StackLimit NonSecure)) _ tt (special_keeps n sysm _ priority)
system_same priority (insns.TestTarget a t rd rn) n word = by n.side where
  by : (side : Side) → SameNamed false n.registers.ipsr (finish_test side a rd n word)
  by Secure = with_reg_keeps n.registers rd word
  by NonSecure = named_if n.registers.ipsr a (Err Undef) _ tt (with_reg_keeps n.registers rd word)
system_same priority insns.SecureGateway n word = refl
system_same priority (insns.LazyState load rn) n word = by n.side where
  by : (side : Side) → SameNamed false n.registers.ipsr (finish_lazy side n)
  by Secure = refl
  by NonSecure = tt
system_same priority insn n word = tt

-- ---- an instruction

abbrev Told : Bool → Result Outcome Fault → ℕ → ℕ → Type 0
Told may (Ok outcome) new old = Keeps may outcome new old
Told may (Err fault) new old = new ≡ old

-- what is left of the core
abbrev Left : Bool → Core → Core → Result Outcome Fault → Type 0
Left may before after outcome = (before.run.side ≡ NonSecure → after.stacks_s ≡ before.stacks_s) × Told may outcome after.registers.ipsr before.registers.ipsr

own_alone : (side : Side) (own before : Stacks) → side ≡ NonSecure → secure_after side own before ≡ before
own_alone Secure own before e = cc
own_alone NonSecure own before e = refl

finished_left : (may : Bool) (c : Core) (f : Finished) → Same may c.registers.ipsr f → Left may c (finished_in c f).0 (finished_in c f).1
finished_left may c (Ok f) k = (λ e. own_alone c.run.side f.0.own c.stacks_s e, k)
finished_left may c (Err fault) k = (λ e. refl, refl)

named_left : (may : Bool) (c : Core) (f : FinishedNamed) → SameNamed may c.registers.ipsr f → Left may c (finished_named c f).0 (finished_named c f).1
named_left may c (Ok f) k = (λ e. own_alone c.run.side f.0.own c.stacks_s e, k)
named_left may c (Err fault) k = (λ e. refl, refl)

accesses_left : {H : Type 0} → (may : Bool) (c : Core) (a : H × Result (List ℕ) Fault) (finish : List ℕ → Finished) → ((words : List ℕ) → Same may c.registers.ipsr (finish words))
    → Left may c (after_accesses c a finish).core (after_accesses c a finish).outcome
accesses_left may c (h, Ok words) finish k = finished_left may c (finish words) (k words)
accesses_left may c (h, Err fault) finish k = (λ e. refl, refl)

refused_left : {H : Type 0} → (may : Bool) (refused : Option Fault) (c : Core) (h : H) (p : Ported H) → Left may c p.core p.outcome
    → Left may c (unless_refused refused c h p).core (unless_refused refused c h p).outcome
refused_left may (Some fault) c h p k = (λ e. refl, refl)
refused_left may None c h p k = k

loads_stores_left : (s : State) (i : Insn) → Left (is_blxns i) s.core (loads_stores s i).state.core (loads_stores s i).outcome
loads_stores_left s i =
    let l = local_of s.core in
    refused_left (is_blxns i) (refusal i l) s.core (reached_in s) _
    (accesses_left (is_blxns i) s.core (answers access (reached_in s) (plan_load_store i l)) (finish_load_store i l) (load_store_same i l))

left_if : (may : Bool) (c : Core) (t : Bool) (x y : Executed) → Left may c x.state.core x.outcome → Left may c y.state.core y.outcome → Left may c (cond t x y).state.core (cond t x y).outcome
left_if may c true x y p q = p
left_if may c false x y p q = q

exclusive_left : (x : Exclusivity) (s : State) (i : Insn) → Left (is_blxns i) s.core (exclusively x s i).state.core (exclusively x s i).outcome
exclusive_left Free s i = loads_stores_left s i
exclusive_left (Marks m) s i = loads_stores_left s i
exclusive_left (Takes m rd) s i =
    left_if (is_blxns i) s.core (not (is_aligned m.size m.addr)) _ _ (λ e. refl, refl)
    (left_if (is_blxns i) s.core (is_held s.bus.monitor m) (loads_stores (released s) i) (not_stored (released s) rd) (loads_stores_left (released s) i)
    (λ e. own_alone s.core.run.side (put (local_of s.core) rd 1).own s.core.stacks_s e, put_keeps (local_of s.core) rd 1))

family_left : (family : Family) (s : State) (i : Insn) → Left (is_blxns i) s.core (executed_by family s i).state.core (executed_by family s i).outcome
family_left Alu s i = finished_left (is_blxns i) s.core (finish_alu i (local_of s.core)) (alu_same i (local_of s.core))
family_left LoadStore s i = exclusive_left (exclusivity i (local_of s.core)) s i
family_left Branch s i =
    let l = local_of s.core in accesses_left (is_blxns i) s.core (answers access (reached_in s) (plan_branch i l)) (finish_branch i l) (branch_same i l)
family_left System s i =
    let word = probed s.bus (probe_of (priority_in s) i (named_of s.core)) in
    named_left (is_blxns i) s.core (finish_system (priority_in s) i (named_of s.core) word) (system_same (priority_in s) i (named_of s.core) word)

-- Non-secure code leaves the Secure stacks
pub executed_stacks : (s : State) (i : Insn) → s.core.run.side ≡ NonSecure → (executed s i).state.core.stacks_s ≡ s.core.stacks_s
executed_stacks s i e = (family_left (family_of i) s i).0 e

outcome_number : (may : Bool) (outcome : Outcome) (new old : ℕ) → Keeps may outcome new old → new ≡ old
outcome_number may (Call to) new old k = k.0
outcome_number may outcome new old k = k

told_number : (may : Bool) (outcome : Result Outcome Fault) (new old : ℕ) → Told may outcome new old → new ≡ old
told_number may (Ok outcome) new old k = outcome_number may outcome new old k
told_number may (Err fault) new old k = k

pub executed_number : (s : State) (i : Insn) → (executed s i).state.core.registers.ipsr ≡ s.core.registers.ipsr
executed_number s i = told_number (is_blxns i) (executed s i).outcome (executed s i).state.core.registers.ipsr s.core.registers.ipsr (family_left (family_of i) s i).1

-- ---- calls of Non-secure code

-- where an instruction calls it
abbrev pub WhereCalls : Result Outcome Fault → Type 0 → Type 0
WhereCalls outcome P = (to : ℕ) → outcome ≡ Ok (Call to) → P

-- the call is of Secure code, and the first that the instruction does
pub record CallsFirst (s : State) (x : Executed) : Type 0 where
  pub side : s.core.run.side ≡ Secure
  pub state : x.state ≡ s

-- BLXNS calls where bit 0 of its target is 0
blxns_first : (s : State) (rm : ℕ) → WhereCalls (executed s (insns.CallExchange rm true)).outcome (CallsFirst s (executed s (insns.CallExchange rm true)))
unfolding answers
blxns_first s rm = by s.core.run.side refl where
  l : Local
  l = local_of s.core

  from : Finished → Executed
  from f = through s (ported (reached_in s) (finished_in s.core f))

  First : Finished → Type 0
  First f = WhereCalls (from f).outcome (CallsFirst s (from f))

  by_bit : (t : Bool) → s.core.run.side ≡ Secure → First (cond t (links l (reg l rm)) (Ok (l, Call (reg l rm))))
  by_bit true e to is = cc
  by_bit false e to is = record { side = e; state = ap (λ (c : Core). record s { core = record c { status = s.core.status } }) (core_kept s.core) }

  by : (side : Side) → s.core.run.side ≡ side → First (call_ns side l (reg l rm))
  by Secure e to is = by_bit (reg l rm % 2 == 1) e to is
  by NonSecure e to is = cc

told_call : (may : Bool) (outcome : Result Outcome Fault) (new old : ℕ) → Told may outcome new old → WhereCalls outcome (may ≡ true)
told_call may (Ok (Call at)) new old k to is = k.1
told_call may (Ok outcome) new old k to is = cc
told_call may (Err fault) new old k to is = cc

false_true : {P : Type 0} → false ≡ true → P
false_true e = cc

first_of : (s : State) (i : Insn) → is_blxns i ≡ true → WhereCalls (executed s i).outcome (CallsFirst s (executed s i))
first_of s (insns.CallExchange rm true) e = blxns_first s rm
first_of s i e = false_true e

pub executed_call : (s : State) (i : Insn) → WhereCalls (executed s i).outcome (CallsFirst s (executed s i))
executed_call s i to is =
    let x = executed s i in
    first_of s i (told_call (is_blxns i) x.outcome x.state.core.registers.ipsr s.core.registers.ipsr (family_left (family_of i) s i).1 to is) to is
