-- An instruction that exchanges left the core as it was, unless it loads PC. So of the core before an instruction only a
-- load of PC has to keep a copy.
use Rattle.std.proofs.Common.{◌≡◌, ℕ, ℤ, ◌%◌, Bool, true, false, ◌&&◌, not, cond, List, Option, Some, None, Result, Ok, Err, refl, sym, ap, arith}
use Rattle.std.specs.Prelude.{◌==◌, nat_le, nat_lt, slice_index, length}
use Rattle.std.proofs.lemmas.Bool.Decides.{nat_tests}
use Rattle.tz_table.specs.declared.units.Code.{Code}
use Rattle.tz_table.specs.declared.units.Side.{Side}
use Rattle.tz_table.specs.declared.units.Side.TheVariants.{Secure, NonSecure}
use Rattle.tz_table.specs.declared.instruction.DataOp.{DataOp}
use Rattle.tz_table.specs.declared.instruction.DataOp.TheVariants.{Mov, Add, Sub}
use Rattle.tz_table.specs.declared.instruction.Flags.TheVariants.{Never}
use Rattle.tz_table.specs.declared.instruction.Insn.{Insn}
use Rattle.tz_table.specs.declared.instruction.Insn.TheVariants as insns
use Rattle.tz_model.specs.Ports.{answers}
use Rattle.tz_model.specs.Words.{even_of}
use Rattle.tz_model.specs.declared.report.Fault.{Fault}
use Rattle.tz_model.specs.declared.report.Fault.TheVariants.{Undef, DivZero, StackLimit}
use Rattle.tz_model.specs.declared.report.Outcome.{Outcome}
use Rattle.tz_model.specs.declared.report.Outcome.TheVariants.{Next, Jump, Exchange, Call, Sleep}
use Rattle.tz_model.specs.declared.report.Store.{Store}
use Rattle.tz_regs.specs.declared.parts.Core.{Core}
use Rattle.tz_regs.specs.ItState.{condition_holds}
use Rattle.tz_regs.specs.Registers.{pointer_limit_of}
use Rattle.tz_regs.specs.Special.{Named, named_of, is_below_limit}
use Rattle.tz_state.specs.State.{State, is_held, priority_in}
use Rattle.tz_state.specs.Access.{is_aligned, access, reached_in}
use Rattle.tz_sem.specs.declared.ending.Course.{Course}
use Rattle.tz_sem.specs.declared.family.Family.{Family}
use Rattle.tz_sem.specs.declared.family.Family.TheVariants.{Alu, LoadStore, Branch, System}
use Rattle.tz_sem.specs.Local.{Local, Finished, FinishedNamed, local_of, gives, reg, finished_in, finished_named}
use Rattle.tz_sem.specs.Operations.{computed}
use Rattle.tz_sem.specs.Alu.{finish_alu, delivered, flagged, is_comparison, is_limited, is_width, is_field, traps_division}
use Rattle.tz_sem.specs.LoadStore.{refusal, plan_load_store, finish_load_store, based, based_past, register_loaded, filled, listed, is_listed, past_words, words_loaded}
use Rattle.tz_sem.specs.Branch.{plan_branch, finish_branch, taken_if, exchange_ns, call_ns, links}
use Rattle.tz_sem.specs.System.{probe_of, finish_system, finish_lazy, finish_test}
use Rattle.tz_sem.specs.Exec.{Ported, ported, unless_refused, through, probed, after_accesses, loads_stores, Executed, exclusively, Exclusivity, Free, Marks, Takes, not_stored, released, executed, executed_by, family_of, exclusivity}
use Rattle.tz_sem.specs.Step.{concludes, executes}
use Rattle.tz_sem.proofs.Local.{core_kept}
use Rattle.tz_core.specs.Loading.{loads_pc}

-- ---- what an instruction leaves

abbrev is_exchange : Outcome → Bool
is_exchange (Exchange target ns) = true
is_exchange outcome = false

-- it doesn't exchange
abbrev Plain : {A : Type 0} → Result (A × Outcome) Fault → Type 0
Plain (Ok f) = is_exchange f.1 ≡ false
Plain (Err fault) = Unit {0}

plain_if : {A : Type 0} (t : Bool) (f g : Result (A × Outcome) Fault) → Plain f → Plain g → Plain (cond t f g)
plain_if true f g a b = a
plain_if false f g a b = b

delivered_plain : (op : DataOp) (rd value : ℕ) (l : Local) → Plain (delivered op rd value l)
delivered_plain op rd value l =
    plain_if (is_comparison op) (Ok (l, Next)) _ refl
    (plain_if (rd == 15) (Ok (l, Jump (even_of value))) _ refl
    (plain_if (rd == 13 && is_limited op && nat_lt value (pointer_limit_of l.registers.ipsr l.own)) (Err (StackLimit l.side)) (gives l rd value) tt refl))

alu_plain : (i : Insn) (l : Local) → Plain (finish_alu i l)
alu_plain (insns.DataImm op flags rd rn imm12) l = delivered_plain op rd _ (flagged flags _ l)
alu_plain (insns.DataReg op flags rd rn rm kind amount) l = delivered_plain op rd _ (flagged flags _ l)
alu_plain (insns.ShiftReg kind flags rd rn rm) l = delivered_plain Mov rd _ (flagged flags _ l)
alu_plain (insns.AddWide sub rd rn imm) l =
    let x = computed (cond sub Sub Add) (reg l rn) imm false l.registers.apsr.c l.registers.apsr.v in
    delivered_plain (cond sub Sub Add) rd x.value (flagged Never x l)
alu_plain (insns.Adr rd offset) l = refl
alu_plain (insns.MovWide top rd imm) l = refl
alu_plain (insns.Saturate signed rd rn bits asr amount) l = plain_if (is_width signed bits) _ (Err Undef) refl tt
alu_plain (insns.BitField op rd rn low width) l = plain_if (is_field low width) _ (Err Undef) refl tt
alu_plain (insns.Extend op rd rm rotation) l = refl
alu_plain (insns.Reverse op rd rm) l = refl
alu_plain (insns.Multiply op flags rd rn rm ra) l = refl
alu_plain (insns.MultiplyLong op lo hi rn rm) l = refl
alu_plain (insns.Divide signed rd rn rm) l = plain_if (traps_division l.ccr && (reg l rm == 0)) (Err DivZero) _ tt refl
alu_plain insn l = tt

loaded_plain : (rt word : ℕ) (l : Local) → (rt == 15) ≡ false → Plain (register_loaded rt l word)
loaded_plain rt word l e = by (rt == 15) e where
  by : (t : Bool) → t ≡ false → Plain (cond t (Ok (l, Exchange word false)) (gives l rt word))
  by true e = cc
  by false e = refl

unlisted : (list : ℕ) → nat_le 32768 list ≡ false → is_listed list 15 ≡ false
unlisted list e = grind (arith, nat_tests)

many_plain : (list : ℕ) (l : Local) (word : ℕ) → nat_le 32768 list ≡ false → Plain (cond (is_listed list 15) (Ok (l, Exchange word false)) (Ok (l, Next)))
many_plain list l word e = by (is_listed list 15) (unlisted list e) where
  by : (t : Bool) → t ≡ false → Plain (cond t (Ok (l, Exchange word false)) (Ok (l, Next)))
  by true e = cc
  by false e = refl

load_store_plain : (i : Insn) (l : Local) (words : List ℕ) → loads_pc i ≡ false → Plain (finish_load_store i l words)
load_store_plain (insns.Load size signed rt address user) l words e = loaded_plain rt _ (based address l) e
load_store_plain (insns.Store size rt address user) l words e = refl
load_store_plain (insns.LoadPair rt rt2 address) l words e = refl
load_store_plain (insns.StorePair rt rt2 address) l words e = refl
load_store_plain (insns.LoadMany rn list down back) l words e =
    many_plain list (filled (based_past back rn (past_words down (reg l rn) (words_loaded list)) l) (listed list) words) (slice_index words (length (listed list))) e
load_store_plain (insns.StoreMany rn list down back) l words e = refl
load_store_plain insns.Preload l words e = refl
load_store_plain (insns.LoadExclusive size acquire rt rn offset) l words e = refl
load_store_plain (insns.StoreExclusive size release rd rt rn offset) l words e = refl
load_store_plain (insns.LoadAcquire size rt rn) l words e = refl
load_store_plain (insns.StoreRelease size rt rn) l words e = refl
load_store_plain insn l words e = tt

taken_plain : (t : Bool) (offset : ℤ) (l : Local) → Plain (taken_if t offset l)
taken_plain t offset l = plain_if t _ _ refl refl

call_plain : (side : Side) (l : Local) (target : ℕ) → Plain (call_ns side l target)
call_plain Secure l target = plain_if (target % 2 == 1) (links l target) (Ok (l, Call target)) refl refl
call_plain NonSecure l target = tt

-- BX and BXNS
abbrev is_bx : Insn → Bool
is_bx (insns.BranchExchange rm ns) = true
is_bx insn = false

branch_plain : (i : Insn) (l : Local) (words : List ℕ) → is_bx i ≡ false → Plain (finish_branch i l words)
branch_plain (insns.Branch offset) l words e = refl
branch_plain (insns.BranchIf c offset) l words e = taken_plain (condition_holds c l.registers.apsr) offset l
branch_plain (insns.BranchLink offset) l words e = refl
branch_plain (insns.BranchZero nonzero rn offset) l words e = taken_plain _ offset l
branch_plain (insns.TableBranch half rn rm) l words e = refl
branch_plain (insns.BranchExchange rm ns) l words e = cc
branch_plain (insns.CallExchange rm false) l words e = refl
branch_plain (insns.CallExchange rm true) l words e = call_plain l.side l _
branch_plain (insns.IfThen c mask) l words e = refl
branch_plain insn l words e = tt

system_plain : (priority : ℤ) (i : Insn) (n : Named) (word : ℕ) → Plain (finish_system priority i n word)
system_plain priority (insns.Hint op) n word =
    plain_if (op == 2) _ _ (plain_if n.event _ _ refl refl) (plain_if (op == 3) _ _ refl (plain_if (op == 4) _ _ refl refl))
system_plain priority (insns.Barrier op option) n word = refl
system_plain priority (insns.ChangeState disable i f) n word = refl
system_plain priority (insns.ReadSpecial rd sysm) n word = refl
system_plain priority (insns.WriteSpecial rn sysm) n word = plain_if (is_below_limit n sysm _) (Err (StackLimit NonSecure)) _ tt refl
system_plain priority (insns.TestTarget a t rd rn) n word = by n.side where
  by : (side : Side) → Plain (finish_test side a rd n word)
  by Secure = refl
  by NonSecure = plain_if a (Err Undef) _ tt refl
system_plain priority insns.SecureGateway n word = refl
system_plain priority (insns.LazyState load rn) n word = by n.side where
  by : (side : Side) → Plain (finish_lazy side n)
  by Secure = refl
  by NonSecure = tt
system_plain priority insn n word = tt

-- ---- an instruction

-- where an instruction exchanges, the core is as it was
abbrev Same : Core → Core → Result Outcome Fault → Type 0
Same before after (Ok (Exchange target ns)) = after ≡ before
Same before after outcome = Unit {0}

plain_same : (before after : Core) (outcome : Outcome) → is_exchange outcome ≡ false → Same before after (Ok outcome)
plain_same before after (Exchange target ns) e = cc
plain_same before after outcome e = tt

finished_same : (before after c : Core) (f : Finished) → Plain f → Same before after (finished_in c f).1
finished_same before after c (Ok f) k = plain_same before after f.1 k
finished_same before after c (Err fault) k = tt

named_same : (before after c : Core) (f : FinishedNamed) → Plain f → Same before after (finished_named c f).1
named_same before after c (Ok f) k = plain_same before after f.1 k
named_same before after c (Err fault) k = tt

accesses_same : {H : Type 0} → (before after c : Core) (a : H × Result (List ℕ) Fault) (finish : List ℕ → Finished) → ((words : List ℕ) → Plain (finish words))
    → Same before after (after_accesses c a finish).outcome
accesses_same before after c (h, Ok words) finish k = finished_same before after c (finish words) (k words)
accesses_same before after c (h, Err fault) finish k = tt

refused_same : {H : Type 0} → (before after : Core) (refused : Option Fault) (c : Core) (h : H) (p : Ported H) → Same before after p.outcome
    → Same before after (unless_refused refused c h p).outcome
refused_same before after (Some fault) c h p k = tt
refused_same before after None c h p k = k

loads_stores_same : (before after : Core) (s : State) (i : Insn) → loads_pc i ≡ false → Same before after (loads_stores s i).outcome
loads_stores_same before after s i e =
    let l = local_of s.core in
    refused_same before after (refusal i l) s.core (reached_in s) _
    (accesses_same before after s.core (answers access (reached_in s) (plan_load_store i l)) (finish_load_store i l) (λ words. load_store_plain i l words e))

same_if : (before after : Core) (t : Bool) (x y : Executed) → Same before after x.outcome → Same before after y.outcome → Same before after (cond t x y).outcome
same_if before after true x y p q = p
same_if before after false x y p q = q

exclusive_same : (before after : Core) (x : Exclusivity) (s : State) (i : Insn) → loads_pc i ≡ false → Same before after (exclusively x s i).outcome
exclusive_same before after Free s i e = loads_stores_same before after s i e
exclusive_same before after (Marks m) s i e = loads_stores_same before after s i e
exclusive_same before after (Takes m rd) s i e =
    same_if before after (not (is_aligned m.size m.addr)) _ _ tt
    (same_if before after (is_held s.bus.monitor m) (loads_stores (released s) i) (not_stored (released s) rd) (loads_stores_same before after (released s) i e) tt)

bx_same : (s : State) (rm : ℕ) (ns : Bool) → Same s.core (executed s (insns.BranchExchange rm ns)).state.core (executed s (insns.BranchExchange rm ns)).outcome
unfolding answers
bx_same s rm false = ap (λ (c : Core). record c { status = s.core.status }) (core_kept s.core)
bx_same s rm true = by s.core.run.side where
  l : Local
  l = local_of s.core

  from : Finished → Executed
  from f = through s (ported (reached_in s) (finished_in s.core f))

  by : (side : Side) → Same s.core (from (exchange_ns side l (reg l rm))).state.core (from (exchange_ns side l (reg l rm))).outcome
  by Secure = ap (λ (c : Core). record c { status = s.core.status }) (core_kept s.core)
  by NonSecure = tt

branch_same : (s : State) (i : Insn) → Same s.core (executed_by Branch s i).state.core (executed_by Branch s i).outcome
branch_same s i = by (is_bx i) refl where
  by : (t : Bool) → is_bx i ≡ t → Same s.core (executed_by Branch s i).state.core (executed_by Branch s i).outcome
  by true e = bx i e where
    bx : (i : Insn) → is_bx i ≡ true → Same s.core (executed_by Branch s i).state.core (executed_by Branch s i).outcome
    bx (insns.BranchExchange rm ns) e = bx_same s rm ns
    bx i e = cc
  by false e =
      let l = local_of s.core in
      accesses_same s.core (executed_by Branch s i).state.core s.core (answers access (reached_in s) (plan_branch i l)) (finish_branch i l) (λ words. branch_plain i l words e)

family_same : (family : Family) (s : State) (i : Insn) → loads_pc i ≡ false → Same s.core (executed_by family s i).state.core (executed_by family s i).outcome
family_same Alu s i e = finished_same s.core _ s.core (finish_alu i (local_of s.core)) (alu_plain i (local_of s.core))
family_same LoadStore s i e = exclusive_same s.core (executed_by LoadStore s i).state.core (exclusivity i (local_of s.core)) s i e
family_same Branch s i e = branch_same s i
family_same System s i e =
    let word = probed s.bus (probe_of (priority_in s) i (named_of s.core)) in
    named_same s.core _ s.core (finish_system (priority_in s) i (named_of s.core) word) (system_plain (priority_in s) i (named_of s.core) word)

-- ---- how the step goes on

-- where an instruction doesn't exchange, nothing asks for the core before it
concludes_alike : (before : Core) (i : Insn) (s : State) (course : Course) (code : Code) (stores : List Store) (outcome : Result Outcome Fault) → Same before s.core outcome
    → concludes before i s course code stores outcome ≡ concludes s.core i s course code stores outcome
concludes_alike before i s course code stores (Ok (Exchange target ns)) e = ap (λ (c : Core). concludes c i s course code stores (Ok (Exchange target ns))) (sym e)
concludes_alike before i s course code stores (Ok Next) e = refl
concludes_alike before i s course code stores (Ok (Jump to)) e = refl
concludes_alike before i s course code stores (Ok (Call to)) e = refl
concludes_alike before i s course code stores (Ok (Sleep event)) e = refl
concludes_alike before i s course code stores (Err fault) e = refl

-- an instruction that doesn't load PC goes on by the core that it left
pub executes_alike : (s : State) (i : Insn) (course : Course) (code : Code) → loads_pc i ≡ false
    → executes s.core course code i (executed s i) ≡ executes (executed s i).state.core course code i (executed s i)
executes_alike s i course code e =
    let x = executed s i in concludes_alike s.core i x.state course code x.stores x.outcome (family_same (family_of i) s i e)

-- a load of PC has nothing to do with the monitor
pub executes_load : (s : State) (i : Insn) (course : Course) (code : Code) → loads_pc i ≡ true
    → executes s.core course code i (executed s i) ≡ executes s.core course code i (loads_stores s i)
executes_load s (insns.Load size signed rt address user) course code e = refl
executes_load s (insns.LoadMany rn list down back) course code e = refl
executes_load s i course code e = cc
