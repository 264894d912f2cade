-- SVC alone makes the fault of SVC: no access, no fetch and no return does.
use Rattle.std.proofs.Common.{◌≡◌, ℕ, ◌+◌, ◌%◌, ◌^◌, Bool, true, false, ◌&&◌, not, cond, List, [], ◌∷◌, Option, Some, None, Result, Ok, Err, refl}
use Rattle.std.specs.Prelude.{◌==◌, nat_lt}
use Rattle.tz_table.specs.declared.units.Side.{Side}
use Rattle.tz_table.specs.declared.units.Side.TheVariants.{Secure, NonSecure}
use Rattle.tz_table.specs.declared.units.Size.{Size}
use Rattle.tz_table.specs.declared.units.Size.TheVariants.{Word}
use Rattle.tz_table.specs.declared.instruction.Address.{Address}
use Rattle.tz_table.specs.declared.instruction.Address.TheVariants.{Pre, Post}
use Rattle.tz_table.specs.declared.instruction.Insn.{Insn}
use Rattle.tz_table.specs.declared.instruction.Insn.TheVariants as insns
use Rattle.tz_model.specs.declared.report.Fault.{Fault}
use Rattle.tz_model.specs.declared.report.Fault.TheVariants.{Unaligned, DataAccess, Violation, Precise, StackLimit, InvPc, Exec, ExecBus, EntryPoint}
use Rattle.tz_model.specs.Ports.{Access, Load, Store, with_read, after_answer, answers, cut_to}
use Rattle.tz_model.specs.Words.{wrap}
use Rattle.tz_regs.specs.declared.parts.Core.{Core}
use Rattle.tz_regs.specs.Registers.{pointer_limit_of}
use Rattle.tz_state.specs.declared.fetcher.Fetcher.{Fetcher}
use Rattle.tz_state.specs.declared.request.Kind.TheVariants.{Read, Write}
use Rattle.tz_state.specs.declared.request.Request.{Request}
use Rattle.tz_state.specs.Access.{Reached, reached_in, access, access_verdict, request_by, read_by, write_by, is_crooked, may_touch, is_let, is_private, is_accessible, is_aligned, verdict}
use Rattle.tz_state.specs.Fetch.{wrong_side, half_verdict, with_second, with_first, own_fetch, gateway_fetch, own_touch, fetch_by, fetch, narrow, wide, needs_second, is_own_fetch, is_runnable, is_half_mapped, is_entry, sg_half}
use Rattle.tz_state.specs.Memory.{every, half_at}
use Rattle.tz_state.specs.State.{Bus, State, map_in, is_held}
use Rattle.tz_frames.specs.FrameAccess.{SecureLoad}
use Rattle.tz_frames.specs.Gate.{call_base, call_stores, after_call, calls_ns, return_base, numbers_agree, came_back, after_first, function_returned}
use Rattle.tz_frames.specs.Machine.{Framed, framer, frame_verdict, in_map_alone, framed_read, framed}
use Rattle.tz_sem.specs.declared.family.Family.TheVariants.{Alu, LoadStore, Branch}
use Rattle.tz_sem.specs.Exec.{after_accesses, over, unless_refused, alone, loads_stores, Exclusivity, Free, Marks, Takes, exclusively, exclusivity, released, not_stored, executed_by}
use Rattle.tz_sem.specs.LoadStore.{below_limit, refusal_of, refusal_past, refusal, plan_load_store, finish_load_store, offset_at, past_words, words_loaded, words_stored}
use Rattle.tz_sem.specs.Local.{Local, Finished, local_of, finished_in, reg}
use Rattle.tz_sem.specs.Alu.{finish_alu}
use Rattle.tz_sem.specs.Branch.{plan_branch, finish_branch}
use Rattle.tz_sem.proofs.Faulted.{is_call, Uncalled}
use Rattle.tz_sem.proofs.Kept.{is_blxns, same_uncalled, alu_same, load_store_same, branch_same}

uncalled_if : {A : Type 0} (t : Bool) (x y : Result A Fault) → Uncalled x → Uncalled y → Uncalled (cond t x y)
uncalled_if true x y p q = p
uncalled_if false x y p q = q

-- of a check that may refuse
abbrev NoneCalled : Option Fault → Type 0
NoneCalled None = Unit {0}
NoneCalled (Some fault) = is_call fault ≡ false

none_if : (t : Bool) (x y : Option Fault) → NoneCalled x → NoneCalled y → NoneCalled (cond t x y)
none_if true x y p q = p
none_if false x y p q = q

-- ---- accesses

verdict_uncalled : (b : Bus) (q : Request) → NoneCalled (verdict b q)
unfolding verdict
verdict_uncalled b q =
    none_if (is_crooked q.size q.addr q.must_align) (Some Unaligned) _ refl
    (none_if (not (may_touch (map_in b) q.side q.size q.addr)) (Some (Violation q.addr)) _ refl
    (none_if (not (is_let b q)) (Some (DataAccess q.addr q.side)) _ refl
    (none_if (is_private q.addr) (cond q.privileged None (Some (Precise q.addr))) _ (none_if q.privileged None (Some (Precise q.addr)) tt refl)
    (none_if (not (every (is_accessible b.board.regions q.kind) q.addr q.size)) (Some (Precise q.addr)) None refl tt))))

read_uncalled : (v : Option Fault) (r : Reached) (size : Size) (a : ℕ) → NoneCalled v → Uncalled (read_by v r size a).1
read_uncalled (Some fault) r size a k = k
read_uncalled None r size a k = tt

write_uncalled : (v : Option Fault) (r : Reached) (size : Size) (a value : ℕ) → NoneCalled v → Uncalled (write_by v r size a value).1
write_uncalled (Some fault) r size a value k = k
write_uncalled None r size a value k = tt

access_uncalled : (r : Reached) (a : Access) → Uncalled (access r a).1
unfolding access
access_uncalled r (Load size a must_align user) =
    read_uncalled (access_verdict r Read size a must_align user) r size a (verdict_uncalled r.system.bus (request_by r.asker Read size a must_align user))
access_uncalled r (Store size a value must_align user) =
    write_uncalled (access_verdict r Write size a must_align user) r size a (cut_to size value) (verdict_uncalled r.system.bus (request_by r.asker Write size a must_align user))

with_uncalled : (word : ℕ) (words : Result (List ℕ) Fault) → Uncalled words → Uncalled (with_read word words)
with_uncalled word (Ok words) k = tt
with_uncalled word (Err fault) k = k

next_uncalled : (x : Reached × Result ℕ Fault) (later : Reached → Reached × Result (List ℕ) Fault) → Uncalled x.1 → ((r : Reached) → Uncalled (later r).1) → Uncalled (after_answer x later).1
next_uncalled (r, Ok word) later k more = with_uncalled word (later r).1 (more r)
next_uncalled (r, Err fault) later k more = k

answers_uncalled : (plan : List Access) (r : Reached) → Uncalled (answers access r plan).1
unfolding answers
answers_uncalled [] r = tt
answers_uncalled (a ∷ more) r = next_uncalled (access r a) (λ left. answers access left more) (access_uncalled r a) (λ left. answers_uncalled more left)

-- ---- instructions but those of the system

finished_uncalled : (c : Core) (f : Finished) → Uncalled f → Uncalled (finished_in c f).1
finished_uncalled c (Ok f) k = tt
finished_uncalled c (Err fault) k = k

accesses_uncalled : (c : Core) (a : Reached × Result (List ℕ) Fault) (finish : List ℕ → Finished) → Uncalled a.1 → ((words : List ℕ) → Uncalled (finish words)) → Uncalled (after_accesses c a finish).outcome
accesses_uncalled c (h, Ok words) finish k f = finished_uncalled c (finish words) (f words)
accesses_uncalled c (h, Err fault) finish k f = k

below_uncalled : (rn value : ℕ) (l : Local) → NoneCalled (below_limit rn value l)
below_uncalled rn value l = none_if (rn == 13 && nat_lt value (pointer_limit_of l.registers.ipsr l.own)) (Some (StackLimit l.side)) None refl tt

refusal_of_uncalled : (address : Address) (l : Local) → NoneCalled (refusal_of address l)
refusal_of_uncalled (Pre rn offset) l = below_uncalled rn (offset_at l rn offset) l
refusal_of_uncalled (Post rn offset) l = below_uncalled rn (offset_at l rn offset) l
refusal_of_uncalled address l = tt

past_uncalled : (back : Bool) (rn value : ℕ) (l : Local) → NoneCalled (refusal_past back rn value l)
past_uncalled true rn value l = below_uncalled rn value l
past_uncalled false rn value l = tt

refusal_uncalled : (i : Insn) (l : Local) → NoneCalled (refusal i l)
refusal_uncalled (insns.Load size signed rt address user) l = refusal_of_uncalled address l
refusal_uncalled (insns.Store size rt address user) l = refusal_of_uncalled address l
refusal_uncalled (insns.LoadPair rt rt2 address) l = refusal_of_uncalled address l
refusal_uncalled (insns.StorePair rt rt2 address) l = refusal_of_uncalled address l
refusal_uncalled (insns.LoadMany rn list down back) l = past_uncalled back rn (past_words down (reg l rn) (words_loaded list)) l
refusal_uncalled (insns.StoreMany rn list down back) l = past_uncalled back rn (past_words down (reg l rn) (words_stored list)) l
refusal_uncalled insn l = tt

load_store_uncalled : (s : State) (i : Insn) → Uncalled (loads_stores s i).outcome
load_store_uncalled s i = by (refusal i (local_of s.core)) (refusal_uncalled i (local_of s.core)) where
  by : (o : Option Fault) → NoneCalled o
      → Uncalled (unless_refused o s.core (reached_in s) (over access s.core (reached_in s) (plan_load_store i (local_of s.core)) (finish_load_store i (local_of s.core)))).outcome
  by (Some fault) k = k
  by None k =
      accesses_uncalled s.core (answers access (reached_in s) (plan_load_store i (local_of s.core))) (finish_load_store i (local_of s.core)) (answers_uncalled (plan_load_store i (local_of s.core)) (reached_in s))
      (λ words. same_uncalled (is_blxns i) s.core.registers.ipsr (finish_load_store i (local_of s.core) words) (load_store_same i (local_of s.core) words))

exclusive_uncalled : (s : State) (i : Insn) (x : Exclusivity) → Uncalled (exclusively x s i).outcome
exclusive_uncalled s i Free = load_store_uncalled s i
exclusive_uncalled s i (Marks m) = load_store_uncalled s i
exclusive_uncalled s i (Takes m rd) = by (is_aligned m.size m.addr) (is_held s.bus.monitor m) where
  by : (t u : Bool) → Uncalled (cond (not t) (alone s (s.core, Err Unaligned)) (cond u (loads_stores (released s) i) (not_stored (released s) rd))).outcome
  by false u = refl
  by true true = load_store_uncalled (released s) i
  by true false = tt

pub alu_uncalled : (s : State) (i : Insn) → Uncalled (executed_by Alu s i).outcome
alu_uncalled s i = finished_uncalled s.core (finish_alu i (local_of s.core)) (same_uncalled (is_blxns i) s.core.registers.ipsr (finish_alu i (local_of s.core)) (alu_same i (local_of s.core)))

pub access_family_uncalled : (s : State) (i : Insn) → Uncalled (executed_by LoadStore s i).outcome
access_family_uncalled s i = exclusive_uncalled s i (exclusivity i (local_of s.core))

pub branch_uncalled : (s : State) (i : Insn) → Uncalled (executed_by Branch s i).outcome
branch_uncalled s i =
    accesses_uncalled s.core (answers access (reached_in s) (plan_branch i (local_of s.core))) (finish_branch i (local_of s.core)) (answers_uncalled (plan_branch i (local_of s.core)) (reached_in s))
    (λ words. same_uncalled (is_blxns i) s.core.registers.ipsr (finish_branch i (local_of s.core) words) (branch_same i (local_of s.core) words))

-- ---- calls and returns between the sides

pub calls_uncalled : (c : Core) (h : Reached) (target next : ℕ) → Uncalled (calls_ns access c h target next).outcome
calls_uncalled c h target next =
    by (nat_lt (call_base c) (pointer_limit_of c.registers.ipsr c.stacks_s)) (answers access h (call_stores c next)) (answers_uncalled (call_stores c next) h) where
      by : (t : Bool) (a : Reached × Result (List ℕ) Fault) → Uncalled a.1 → Uncalled (cond t (record { core = c; held = h; outcome = Err (StackLimit Secure) }) (after_call c target a)).outcome
      by true a k = refl
      by false (g, Ok words) k = tt
      by false (g, Err fault) k = k

alone_uncalled : (a : ℕ) (v : Option Fault) → NoneCalled v → NoneCalled (in_map_alone a v)
alone_uncalled a None k = none_if (is_private a) (Some (Precise a)) None refl tt
alone_uncalled a (Some fault) k = k

framed_uncalled : (v : Option Fault) (f : Framed) (a : ℕ) → NoneCalled v → Uncalled (framed_read v f a).1
framed_uncalled (Some fault) f a k = k
framed_uncalled None f a k = tt

load_uncalled : (f : Framed) (a : ℕ) → Uncalled (framed f (SecureLoad a)).1
load_uncalled f a =
    framed_uncalled (frame_verdict f Read a Secure f.secure_privileged) f a
    (alone_uncalled a _ (verdict_uncalled f.bus (request_by (framer f Secure f.secure_privileged) Read Word a true false)))

first_uncalled : (c : Core) (first second : Result ℕ Fault) → Uncalled first → Uncalled second → Uncalled (after_first c first second)
first_uncalled c (Ok back) (Ok word) k k' = uncalled_if (numbers_agree c.registers.ipsr (word % 2 ^ 9)) (Ok (came_back c back (word % 2 ^ 9))) (Err (InvPc c.run.side)) tt refl
first_uncalled c (Ok back) (Err fault) k k' = k'
first_uncalled c (Err fault) second k k' = k

pub returned_uncalled : (c : Core) (f : Framed) → Uncalled (function_returned framed c f)
returned_uncalled c f =
    first_uncalled c (framed f (SecureLoad (return_base c))).1 (framed f (SecureLoad (wrap (return_base c + 4)))).1 (load_uncalled f (return_base c)) (load_uncalled f (wrap (return_base c + 4)))

-- ---- fetches

wrong_uncalled : (side : Side) → is_call (wrong_side side) ≡ false
wrong_uncalled Secure = refl
wrong_uncalled NonSecure = refl

half_uncalled : (b : Bus) (f : Fetcher) (a : ℕ) → NoneCalled (half_verdict b f a)
unfolding half_verdict
half_uncalled b f a =
    none_if (not (is_own_fetch (map_in b) f.side a)) (Some (wrong_side f.side)) _ (wrong_uncalled f.side)
    (none_if (not (is_runnable b f.side f.privileged f.negative a)) (Some (Exec f.side)) _ refl (none_if (not (is_half_mapped b a)) (Some ExecBus) None refl tt))

second_uncalled : (first second : ℕ) (v : Option Fault) → NoneCalled v → Uncalled (with_second first second v)
second_uncalled first second (Some fault) k = k
second_uncalled first second None k = tt

first_half_uncalled : (b : Bus) (f : Fetcher) (pc : ℕ) (v : Option Fault) → NoneCalled v → Uncalled (with_first b f pc v)
first_half_uncalled b f pc (Some fault) k = k
first_half_uncalled b f pc None k =
    let first = half_at b.memory pc in
    let second = half_at b.memory (wrap (pc + 2)) in
    uncalled_if (needs_second first) (with_second first second (half_verdict b f (wrap (pc + 2)))) (Ok (narrow first)) (second_uncalled first second (half_verdict b f (wrap (pc + 2))) (half_uncalled b f (wrap (pc + 2)))) tt

own_uncalled : (b : Bus) (f : Fetcher) (pc : ℕ) → Uncalled (own_fetch b f pc)
unfolding own_fetch
own_uncalled b f pc = first_half_uncalled b f pc (half_verdict b f pc) (half_uncalled b f pc)

gateway_uncalled : (b : Bus) (f : Fetcher) (pc : ℕ) → Uncalled (gateway_fetch b f pc)
unfolding gateway_fetch
gateway_uncalled b f pc =
    uncalled_if (not (is_entry (map_in b) pc && is_entry (map_in b) (wrap (pc + 2)))) (Err EntryPoint) _ refl
    (uncalled_if (not (is_runnable b Secure f.secure_privileged f.negative pc && is_runnable b Secure f.secure_privileged f.negative (wrap (pc + 2)))) (Err (Exec Secure)) _ refl
    (uncalled_if (not (is_half_mapped b pc && is_half_mapped b (wrap (pc + 2)))) (Err ExecBus) _ refl
    (uncalled_if (half_at b.memory pc == sg_half && half_at b.memory (wrap (pc + 2)) == sg_half) (Ok (wide sg_half sg_half true)) (Err EntryPoint) tt refl)))

pub fetch_uncalled : (b : Bus) (f : Fetcher) (pc : ℕ) → Uncalled (fetch b f pc).answer
unfolding fetch
fetch_uncalled b f pc = by f.side where
  own : (t : Bool) → Uncalled (cond t (own_touch (own_fetch b f pc)) (record { touched = true; answer = gateway_fetch b f pc })).answer
  own true = own_uncalled b f pc
  own false = gateway_uncalled b f pc

  by : (side : Side) → Uncalled (fetch_by side b f pc).answer
  by Secure = own_uncalled b f pc
  by NonSecure = own (is_own_fetch (map_in b) NonSecure pc)
