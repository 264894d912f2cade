-- Faults of Non-secure code: none of them names the Secure side, so what they set and pend keeps it.
use Rattle.std.proofs.Common.{◌≡◌, ℕ, ℤ, Bool, true, false, ◌&&◌, not, cond, List, [], ◌∷◌, Option, Some, None, Result, Ok, Err, refl, ◌∙◌}
use Rattle.std.specs.Prelude.{◌%◌, ◌==◌, nat_lt}
use Rattle.tz_table.specs.declared.units.Side.{Side}
use Rattle.tz_table.specs.declared.units.Side.TheVariants.{Secure, NonSecure}
use Rattle.tz_table.specs.declared.units.Size.{Size}
use Rattle.tz_table.specs.declared.instruction.DataOp.{DataOp}
use Rattle.tz_table.specs.declared.instruction.DataOp.TheVariants.{Add, Sub, Mov}
use Rattle.tz_table.specs.declared.instruction.Flags.{Flags}
use Rattle.tz_table.specs.declared.instruction.Flags.TheVariants.{Never}
use Rattle.tz_table.specs.declared.instruction.Address.{Address}
use Rattle.tz_table.specs.declared.instruction.Address.TheVariants.{Offset, Pre, Post}
use Rattle.tz_table.specs.declared.instruction.Insn.{Insn}
use Rattle.tz_table.specs.declared.instruction.Insn.TheVariants as insns
use Rattle.tz_model.specs.declared.report.Fault.{Fault}
use Rattle.tz_model.specs.declared.report.Fault.TheVariants.{InvPc, StackLimit, DataAccess, Exec}
use Rattle.tz_model.specs.Ports.{Access, Load, Store, with_read, after_answer, answers, cut_to}
use Rattle.tz_regs.specs.Registers.{pointer_limit_of}
use Rattle.tz_regs.specs.ItState.{condition_holds}
use Rattle.tz_regs.specs.Special.{Named, is_below_limit}
use Rattle.tz_state.specs.declared.request.Kind.TheVariants.{Read, Write}
use Rattle.tz_state.specs.declared.request.Request.{Request}
use Rattle.tz_state.specs.State.{Bus, map_in}
use Rattle.tz_state.specs.Memory.{every}
use Rattle.tz_state.specs.Access.{Reached, is_crooked, may_touch, is_let, is_private, is_accessible, verdict, request_by, permitted_read, read_by, write_by, access}
use Rattle.tz_sem.specs.Operations.{computed}
use Rattle.tz_sem.specs.Local.{Local, reg}
use Rattle.tz_sem.specs.Alu.{constant_of, shifted_value, shifted_carry, flagged, is_comparison, is_limited, delivered, operated, is_width, is_field, traps_division, finish_alu}
use Rattle.tz_sem.specs.LoadStore.{below_limit, is_listed, refusal_of, refusal_past, refusal, register_loaded as loaded_into, finish_load_store}
use Rattle.tz_sem.specs.Branch.{taken_if, exchange_ns, finish_branch, call_ns}
use Rattle.tz_sem.specs.System.{waits_for_event, finish_hint, finish_write, finish_lazy, finish_test, finish_system}

-- a fault that names no Secure side
unfoldable pub is_own : Fault → Bool
is_own (InvPc Secure) = false
is_own (StackLimit Secure) = false
is_own (DataAccess a Secure) = false
is_own (Exec Secure) = false
is_own _ = true

-- of what may fault
unfoldable pub Own : {A : Type 0} → Result A Fault → Type 0
Own (Ok x) = Unit {0}
Own (Err fault) = is_own fault ≡ true

unfoldable pub OwnSome : Option Fault → Type 0
OwnSome None = Unit {0}
OwnSome (Some fault) = is_own fault ≡ true

pub own_cond : {A : Type 0} (t : Bool) (x y : Result A Fault) → Own x → Own y → Own (cond t x y)
own_cond true x y p q = p
own_cond false x y p q = q

pub own_some : (t : Bool) (x y : Option Fault) → OwnSome x → OwnSome y → OwnSome (cond t x y)
own_some true x y p q = p
own_some false x y p q = q

own_limit : (side : Side) → side ≡ NonSecure → is_own (StackLimit side) ≡ true
unfolding is_own
own_limit Secure e = cc
own_limit NonSecure e = refl

own_access : (a : ℕ) (side : Side) → side ≡ NonSecure → is_own (DataAccess a side) ≡ true
unfolding is_own
own_access a Secure e = cc
own_access a NonSecure e = refl

-- ---- accesses

own_verdict : (b : Bus) (q : Request) → q.side ≡ NonSecure → OwnSome (verdict b q)
unfolding verdict OwnSome is_own
own_verdict b q e =
    own_some (is_crooked q.size q.addr q.must_align) _ _ refl
    (own_some (not (may_touch (map_in b) q.side q.size q.addr)) _ _ refl
    (own_some (not (is_let b q)) _ _ (own_access q.addr q.side e)
    (own_some (is_private q.addr) _ _ (own_some q.privileged _ _ tt refl)
    (own_some (not (every (is_accessible b.board.regions q.kind) q.addr q.size)) _ _ refl tt))))

-- an answer whose fault is of no Secure side, to code that is still Non-secure
record OwnAnswer {A : Type 0} (a : Reached × Result A Fault) : Type 0 where
  pub own : Own a.1
  pub side : a.0.asker.side ≡ NonSecure

loaded_side : (private : Bool) (r : Reached) (size : Size) (a : ℕ) → (permitted_read private r size a).0.asker.side ≡ r.asker.side
loaded_side true r size a = refl
loaded_side false r size a = refl

own_read : (v : Option Fault) (r : Reached) (size : Size) (a : ℕ) → r.asker.side ≡ NonSecure → OwnSome v → OwnAnswer (read_by v r size a)
unfolding Own OwnSome
own_read (Some fault) r size a e h = record { own = h; side = e }
own_read None r size a e h = record { own = tt; side = loaded_side (is_private a) r size a ∙ e }

own_write : (v : Option Fault) (r : Reached) (size : Size) (a value : ℕ) → r.asker.side ≡ NonSecure → OwnSome v → OwnAnswer (write_by v r size a value)
unfolding Own OwnSome
own_write (Some fault) r size a value e h = record { own = h; side = e }
own_write None r size a value e h = record { own = tt; side = e }

own_answer : (r : Reached) (q : Access) → r.asker.side ≡ NonSecure → OwnAnswer (access r q)
unfolding access
own_answer r (Load size a must_align user) e =
    own_read _ r size a e (own_verdict r.system.bus (request_by r.asker Read size a must_align user) e)
own_answer r (Store size a value must_align user) e =
    own_write _ r size a (cut_to size value) e (own_verdict r.system.bus (request_by r.asker Write size a must_align user) e)

own_after : (a : Reached × Result ℕ Fault) (later : Reached → Reached × Result (List ℕ) Fault) → OwnAnswer a → ((r : Reached) → r.asker.side ≡ NonSecure → Own (later r).1) → Own (after_answer a later).1
unfolding Own
own_after (r, Err fault) later h more = h.own
own_after (r, Ok word) later h more = go (later r).1 (more r h.side) where
  go : (x : Result (List ℕ) Fault) → Own x → Own (with_read word x)
  go (Ok words) p = tt
  go (Err fault) p = p

pub own_answers : (qs : List Access) (r : Reached) → r.asker.side ≡ NonSecure → Own (answers access r qs).1
unfolding answers Own
own_answers [] r e = tt
own_answers (q ∷ more) r e = own_after (access r q) (λ left. answers access left more) (own_answer r q e) (λ left f. own_answers more left f)

-- ---- data processing

own_delivered : (op : DataOp) (rd value : ℕ) (l : Local) → l.side ≡ NonSecure → Own (delivered op rd value l)
unfolding Own
own_delivered op rd value l e =
    own_cond (is_comparison op) _ _ tt
    (own_cond (rd == 15) _ _ tt (own_cond (rd == 13 && is_limited op && nat_lt value (pointer_limit_of l.registers.ipsr l.own)) _ _ (own_limit l.side e) tt))

own_operated : (op : DataOp) (flags : Flags) (rd x y : ℕ) (carry : Bool) (l : Local) → l.side ≡ NonSecure → Own (operated op flags rd x y carry l)
own_operated op flags rd x y carry l e =
    let c = computed op x y carry l.registers.apsr.c l.registers.apsr.v in own_delivered op rd c.value (flagged flags c l) e

pub own_alu : (i : Insn) (l : Local) → l.side ≡ NonSecure → Own (finish_alu i l)
unfolding Own is_own
own_alu (insns.DataImm op flags rd rn imm12) l e = own_operated op flags rd (reg l rn) (constant_of l imm12).0 (constant_of l imm12).1 l e
own_alu (insns.DataReg op flags rd rn rm kind amount) l e =
    own_operated op flags rd (reg l rn) (shifted_value l rm kind amount) (shifted_carry l rm kind amount) l e
own_alu (insns.ShiftReg kind flags rd rn rm) l e =
    own_operated Mov flags rd 0 (shifted_value l rn kind (reg l rm % 256)) (shifted_carry l rn kind (reg l rm % 256)) l e
own_alu (insns.AddWide sub rd rn imm) l e = own_operated (cond sub Sub Add) Never rd (reg l rn) imm false l e
own_alu (insns.Saturate signed rd rn bits asr amount) l e = own_cond (is_width signed bits) _ _ tt refl
own_alu (insns.BitField op rd rn low width) l e = own_cond (is_field low width) _ _ tt refl
own_alu (insns.Divide signed rd rn rm) l e = own_cond (traps_division l.ccr && (reg l rm == 0)) _ _ refl tt
own_alu (insns.Adr rd offset) l e = tt
own_alu (insns.MovWide top rd imm) l e = tt
own_alu (insns.Extend op rd rm rotation) l e = tt
own_alu (insns.Reverse op rd rm) l e = tt
own_alu (insns.Multiply op flags rd rn rm ra) l e = tt
own_alu (insns.MultiplyLong op lo hi rn rm) l e = tt
own_alu _ l e = refl

-- ---- loads and stores

own_below : (rn value : ℕ) (l : Local) → l.side ≡ NonSecure → OwnSome (below_limit rn value l)
unfolding OwnSome
own_below rn value l e = own_some (rn == 13 && nat_lt value (pointer_limit_of l.registers.ipsr l.own)) _ _ (own_limit l.side e) tt

own_refusal_of : (a : Address) (l : Local) → l.side ≡ NonSecure → OwnSome (refusal_of a l)
unfolding OwnSome
own_refusal_of (Pre rn offset) l e = own_below rn _ l e
own_refusal_of (Post rn offset) l e = own_below rn _ l e
own_refusal_of (Offset rn offset) l e = tt
own_refusal_of _ l e = tt

own_refusal_past : (back : Bool) (rn value : ℕ) (l : Local) → l.side ≡ NonSecure → OwnSome (refusal_past back rn value l)
unfolding OwnSome
own_refusal_past true rn value l e = own_below rn value l e
own_refusal_past false rn value l e = tt

pub own_refusal : (i : Insn) (l : Local) → l.side ≡ NonSecure → OwnSome (refusal i l)
unfolding OwnSome
own_refusal (insns.Load size signed rt address user) l e = own_refusal_of address l e
own_refusal (insns.Store size rt address user) l e = own_refusal_of address l e
own_refusal (insns.LoadPair rt rt2 address) l e = own_refusal_of address l e
own_refusal (insns.StorePair rt rt2 address) l e = own_refusal_of address l e
own_refusal (insns.LoadMany rn list down back) l e = own_refusal_past back rn _ l e
own_refusal (insns.StoreMany rn list down back) l e = own_refusal_past back rn _ l e
own_refusal _ l e = tt

own_loaded : (rt : ℕ) (l : Local) (value : ℕ) → Own (loaded_into rt l value)
unfolding Own
own_loaded rt l value = own_cond (rt == 15) _ _ tt tt

pub own_load_store : (i : Insn) (l : Local) (words : List ℕ) → Own (finish_load_store i l words)
unfolding Own is_own
own_load_store (insns.Load size signed rt address user) l words = own_loaded rt _ _
own_load_store (insns.LoadMany rn list down back) l words = own_cond (is_listed list 15) _ _ tt tt
own_load_store (insns.Store size rt address user) l words = tt
own_load_store (insns.LoadPair rt rt2 address) l words = tt
own_load_store (insns.StorePair rt rt2 address) l words = tt
own_load_store (insns.StoreMany rn list down back) l words = tt
own_load_store insns.Preload l words = tt
own_load_store (insns.LoadExclusive size acquire rt rn offset) l words = tt
own_load_store (insns.StoreExclusive size release rd rt rn offset) l words = tt
own_load_store (insns.LoadAcquire size rt rn) l words = tt
own_load_store (insns.StoreRelease size rt rn) l words = tt
own_load_store _ l words = refl

-- ---- branches

own_taken : (t : Bool) (offset : ℤ) (l : Local) → Own (taken_if t offset l)
unfolding Own
own_taken t offset l = own_cond t _ _ tt tt

own_exchange_ns : (side : Side) (l : Local) (target : ℕ) → Own (exchange_ns side l target)
unfolding Own is_own
own_exchange_ns Secure l target = tt
own_exchange_ns NonSecure l target = refl

own_call_ns : (side : Side) (l : Local) (target : ℕ) → Own (call_ns side l target)
unfolding Own is_own
own_call_ns Secure l target = own_cond (target % 2 == 1) _ _ tt tt
own_call_ns NonSecure l target = refl

pub own_branch : (i : Insn) (l : Local) (words : List ℕ) → Own (finish_branch i l words)
unfolding Own is_own
own_branch (insns.Branch offset) l words = own_taken true offset l
own_branch (insns.BranchIf c offset) l words = own_taken (condition_holds c l.registers.apsr) offset l
own_branch (insns.BranchLink offset) l words = tt
own_branch (insns.BranchZero nonzero rn offset) l words = own_taken (cond (reg l rn == 0) (not nonzero) nonzero) offset l
own_branch (insns.TableBranch half rn rm) l words = tt
own_branch (insns.BranchExchange rm true) l words = own_exchange_ns l.side l (reg l rm)
own_branch (insns.BranchExchange rm false) l words = tt
own_branch (insns.CallExchange rm true) l words = own_call_ns l.side l (reg l rm)
own_branch (insns.CallExchange rm false) l words = tt
own_branch (insns.IfThen c mask) l words = tt
own_branch _ l words = refl

-- ---- system instructions

own_waits : (n : Named) → Own (waits_for_event n)
unfolding Own
own_waits n = own_cond n.event _ _ tt tt

own_hint : (op : ℕ) (n : Named) → Own (finish_hint op n)
unfolding Own
own_hint op n = own_cond (op == 2) _ _ (own_waits n) (own_cond (op == 3) _ _ tt (own_cond (op == 4) _ _ tt tt))

own_written : (priority : ℤ) (sysm value : ℕ) (n : Named) → Own (finish_write priority sysm value n)
unfolding Own is_own
own_written priority sysm value n = own_cond (is_below_limit n sysm value) _ _ refl tt

own_lazy : (side : Side) (n : Named) → Own (finish_lazy side n)
unfolding Own is_own
own_lazy Secure n = tt
own_lazy NonSecure n = refl

own_test : (side : Side) (a : Bool) (rd : ℕ) (n : Named) (word : ℕ) → Own (finish_test side a rd n word)
unfolding Own is_own
own_test Secure a rd n word = tt
own_test NonSecure a rd n word = own_cond a _ _ refl tt

pub own_system : (priority : ℤ) (i : Insn) (n : Named) (word : ℕ) → Own (finish_system priority i n word)
unfolding Own is_own
own_system priority (insns.Hint op) n word = own_hint op n
own_system priority (insns.WriteSpecial rn sysm) n word = own_written priority sysm _ n
own_system priority (insns.TestTarget a t rd rn) n word = own_test n.side a rd n word
own_system priority (insns.LazyState load rn) n word = own_lazy n.side n
own_system priority (insns.Barrier op option) n word = tt
own_system priority (insns.ChangeState disable i f) n word = tt
own_system priority (insns.ReadSpecial rd sysm) n word = tt
own_system priority insns.SecureGateway n word = tt
own_system priority _ n word = refl
