-- Each byte of the board's regions stays in memory, whatever an instruction accesses.
use Rattle.std.proofs.Common.{◌≡◌, ℕ, ◌%◌, Bool, true, false, not, cond, List, [], ◌∷◌, Option, Some, None, Result, Ok, Err}
use Rattle.std.specs.Prelude.{is_some, nat_lt}
use Rattle.std.specs.FinMap.{get}
use Rattle.tz_table.specs.declared.units.Side.{Side}
use Rattle.tz_table.specs.declared.units.Side.TheVariants.{Secure, NonSecure}
use Rattle.tz_table.specs.declared.units.Size.{Size}
use Rattle.tz_table.specs.declared.units.Size.TheVariants.{Byte, Half, Word}
use Rattle.tz_table.specs.declared.instruction.Insn.{Insn}
use Rattle.tz_model.specs.declared.report.Fault.{Fault}
use Rattle.tz_model.specs.declared.report.Fault.TheVariants.{Unaligned, StackLimit}
use Rattle.tz_model.specs.Ports.{Access, Load, Store, answers, after_answer, cut_to}
use Rattle.tz_regs.specs.declared.parts.Core.{Core}
use Rattle.tz_state.specs.declared.request.Kind.TheVariants.{Read, Write}
use Rattle.tz_state.specs.declared.register.Register.{Register}
use Rattle.tz_state.specs.declared.register.Register.TheVariants.{Ictr, Mpu, Control}
use Rattle.tz_state.specs.declared.register.ControlRegister.{ControlRegister}
use Rattle.tz_state.specs.declared.register.ControlRegister.TheVariants.{Cpuid}
use Rattle.tz_state.specs.declared.register.ViewedRegister.{ViewedRegister}
use Rattle.tz_state.specs.declared.register.Narrow.{Narrow}
use Rattle.tz_state.specs.declared.register.Narrow.TheVariants.{Keeps, Zeros, Ignored}
use Rattle.tz_state.specs.Memory.{Memory, with_half, with_value}
use Rattle.tz_state.specs.Protection.{MpuState}
use Rattle.tz_state.specs.State.{Bus, State, with_monitor, with_mpu, is_held, mpu_of, priority_in}
use Rattle.tz_state.specs.UnitRegisters.{with_mpu_value}
use Rattle.tz_state.specs.SystemRegisters.{SystemState, control_written, after_read, written, value_of}
use Rattle.tz_state.specs.Views.{narrow_of, narrow_written, sized_written, found_at, found_read, found_written, system_read, system_written, with_part}
use Rattle.tz_state.specs.Access.{Reached, reached_in, access, access_verdict, read_by, write_by, permitted_read, stored_in, is_private, is_aligned}
use Rattle.tz_sem.specs.declared.family.Family.{Family}
use Rattle.tz_sem.specs.declared.family.Family.TheVariants.{Alu, LoadStore, Branch, System}
use Rattle.tz_regs.specs.Special.{named_of}
use Rattle.tz_regs.specs.Registers.{pointer_limit_of}
use Rattle.tz_frames.specs.Gate.{calls_ns, after_call, call_base, call_stores}
use Rattle.tz_sem.specs.Local.{Finished, FinishedNamed, finished_in, finished_named, local_of}
use Rattle.tz_sem.specs.Alu.{finish_alu}
use Rattle.tz_sem.specs.LoadStore.{refusal, plan_load_store, finish_load_store}
use Rattle.tz_sem.specs.Branch.{plan_branch, finish_branch}
use Rattle.tz_sem.specs.System.{clears_monitor, finish_system, probe_of}
use Rattle.tz_sem.specs.Exec.{ported, beside, probed, over, unless_refused, alone, after_accesses, loads_stores, exclusively, Exclusivity, Free, Marks, Takes, not_stored, released, executed, executed_by, family_of, exclusivity, cleared_by}
use Rattle.tz_resume.specs.Words.{IsWhole}
use Rattle.tz_resume.proofs.Words.{byte_stays, word_stays}

-- ---- system registers

mpu_whole : (b : Bus) (side : Side) (m : MpuState) → IsWhole b → IsWhole (with_mpu b side m)
mpu_whole b Secure m k = k
mpu_whole b NonSecure m k = k

control_whole : (side : Side) (s : SystemState) (r : ControlRegister) (value : ℕ) → IsWhole s.bus → IsWhole (control_written side s r value).bus
control_whole side s Cpuid value k = k
control_whole side s r value k = k

written_whole : (side : Side) (s : SystemState) (r : Register) (value : ℕ) → IsWhole s.bus → IsWhole (written side s r value).bus
written_whole side s (Mpu r) value k = mpu_whole s.bus side (with_mpu_value s.bus.board.profile (mpu_of side s.bus) r value) k
written_whole side s (Control r) value k = control_whole side s r value k
written_whole side s r value k = k

narrow_whole : (side : Side) (s : SystemState) (r : Register) (n : Narrow) (lane : ℕ) (size : Size) (value : ℕ) → IsWhole s.bus → IsWhole (narrow_written side s r n lane size value).bus
narrow_whole side s r Keeps lane size value k = written_whole side s r (with_part (value_of side s r) lane size value) k
narrow_whole side s r Zeros lane size value k = written_whole side s r (with_part 0 lane size value) k
narrow_whole side s r Ignored lane size value k = k

sized_whole : (side : Side) (s : SystemState) (r : Register) (lane : ℕ) (size : Size) (value : ℕ) → IsWhole s.bus → IsWhole (sized_written side s r lane size value).bus
sized_whole side s r lane Byte value k = narrow_whole side s r (narrow_of r) lane Byte value k
sized_whole side s r lane Half value k = narrow_whole side s r (narrow_of r) lane Half value k
sized_whole side s r lane Word value k = written_whole side s r value k

system_whole : (side : Side) (s : SystemState) (a : ℕ) (size : Size) (value : ℕ) → IsWhole s.bus → IsWhole (system_written side s a size value).bus
system_whole side s a size value k = by (found_at side a) where
  by : (o : Option ViewedRegister) → IsWhole (found_written s o (a % 4) size value).bus
  by None = k
  by (Some f) = sized_whole f.view s f.register (a % 4) size value k

after_whole : (side : Side) (s : SystemState) (r : Register) → IsWhole s.bus → IsWhole (after_read side s r).bus
after_whole side s Ictr k = k
after_whole side s r k = k

read_whole : (side : Side) (s : SystemState) (a : ℕ) → IsWhole s.bus → IsWhole (system_read side s a).bus
read_whole side s a k = by (found_at side a) where
  by : (o : Option ViewedRegister) → IsWhole (found_read s o).bus
  by None = k
  by (Some f) = after_whole f.view s f.register k

-- ---- accesses

value_stays : (m : Memory) (size : Size) (a n q : ℕ) → is_some (get m q) ≡ true → is_some (get (with_value m size a n) q) ≡ true
unfolding with_half
value_stays m Byte a n q there = byte_stays m a _ q there
value_stays m Half a n q there = byte_stays _ _ _ q (byte_stays m a _ q there)
value_stays m Word a n q there = word_stays m a n q there

load_whole : (v : Option Fault) (r : Reached) (size : Size) (a : ℕ) → IsWhole r.system.bus → IsWhole (read_by v r size a).0.system.bus
load_whole (Some fault) r size a k = k
load_whole None r size a k = by (is_private a) where
  by : (t : Bool) → IsWhole (permitted_read t r size a).0.system.bus
  by true = read_whole r.asker.side r.system a k
  by false = k

store_whole : (v : Option Fault) (r : Reached) (size : Size) (a value : ℕ) → IsWhole r.system.bus → IsWhole (write_by v r size a value).0.system.bus
store_whole (Some fault) r size a value k = k
store_whole None r size a value k = by (is_private a) where
  by : (t : Bool) → IsWhole (stored_in t r.asker.side r.system size a value).bus
  by true q mapped = system_whole r.asker.side r.system a size value k q mapped
  by false q mapped = value_stays r.system.bus.memory size a value q (k q mapped)

access_whole : (r : Reached) (a : Access) → IsWhole r.system.bus → IsWhole (access r a).0.system.bus
unfolding access
access_whole r (Load size a must_align user) k = load_whole (access_verdict r Read size a must_align user) r size a k
access_whole r (Store size a value must_align user) k = store_whole (access_verdict r Write size a must_align user) r size a (cut_to size value) k

next_whole : (x : Reached × Result ℕ Fault) (later : Reached → Reached × Result (List ℕ) Fault) → IsWhole x.0.system.bus → ((r : Reached) → IsWhole r.system.bus → IsWhole (later r).0.system.bus)
    → IsWhole (after_answer x later).0.system.bus
next_whole (r, Ok word) later k keeps = keeps r k
next_whole (r, Err fault) later k keeps = k

pub answers_whole : (plan : List Access) (r : Reached) → IsWhole r.system.bus → IsWhole (answers access r plan).0.system.bus
unfolding answers
answers_whole [] r k = k
answers_whole (a ∷ more) r k = next_whole (access r a) (λ left. answers access left more) (access_whole r a k) (λ r' k'. answers_whole more r' k')

-- ---- an instruction

finish_whole : (c : Core) (a : Reached × Result (List ℕ) Fault) (finish : List ℕ → Finished) → IsWhole a.0.system.bus → IsWhole (after_accesses c a finish).held.system.bus
finish_whole c (h, Ok words) finish k = by (finish words) where
  by : (f : Finished) → IsWhole (ported h (finished_in c f)).held.system.bus
  by (Ok f) = k
  by (Err fault) = k
finish_whole c (h, Err fault) finish k = k

load_store_whole : (s : State) (i : Insn) → IsWhole s.bus → IsWhole (loads_stores s i).state.bus
load_store_whole s i k = by (refusal i (local_of s.core)) where
  by : (o : Option Fault) → IsWhole (unless_refused o s.core (reached_in s) (over access s.core (reached_in s) (plan_load_store i (local_of s.core)) (finish_load_store i (local_of s.core)))).held.system.bus
  by (Some fault) = k
  by None =
      finish_whole s.core (answers access (reached_in s) (plan_load_store i (local_of s.core))) (finish_load_store i (local_of s.core)) (answers_whole (plan_load_store i (local_of s.core)) (reached_in s) k)

exclusive_whole : (s : State) (i : Insn) (x : Exclusivity) → IsWhole s.bus → IsWhole (exclusively x s i).state.bus
exclusive_whole s i Free k = load_store_whole s i k
exclusive_whole s i (Marks m) k = load_store_whole s i k
exclusive_whole s i (Takes m rd) k = by (is_aligned m.size m.addr) (is_held s.bus.monitor m) where
  by : (t u : Bool) → IsWhole (cond (not t) (alone s (s.core, Err Unaligned)) (cond u (loads_stores (released s) i) (not_stored (released s) rd))).state.bus
  by false u = k
  by true true = load_store_whole (released s) i k
  by true false = k

alone_whole : (s : State) (c : Core) (f : Finished) → IsWhole s.bus → IsWhole (alone s (finished_in c f)).state.bus
alone_whole s c (Ok f) k = k
alone_whole s c (Err fault) k = k

beside_whole : (s : State) (b : Bus) (c : Core) (f : FinishedNamed) → IsWhole b → IsWhole (beside s (ported b (finished_named c f))).state.bus
beside_whole s b c (Ok f) k = k
beside_whole s b c (Err fault) k = k

cleared_whole : (t : Bool) (b : Bus) → IsWhole b → IsWhole (cond t (with_monitor b None) b)
cleared_whole true b k = k
cleared_whole false b k = k

family_whole : (family : Family) (s : State) (i : Insn) → IsWhole s.bus → IsWhole (executed_by family s i).state.bus
family_whole Alu s i k = alone_whole s s.core (finish_alu i (local_of s.core)) k
family_whole LoadStore s i k = exclusive_whole s i (exclusivity i (local_of s.core)) k
family_whole Branch s i k =
    finish_whole s.core (answers access (reached_in s) (plan_branch i (local_of s.core))) (finish_branch i (local_of s.core)) (answers_whole (plan_branch i (local_of s.core)) (reached_in s) k)
family_whole System s i k =
    beside_whole s (cleared_by i s.bus) s.core (finish_system (priority_in s) i (named_of s.core) (probed s.bus (probe_of (priority_in s) i (named_of s.core)))) (cleared_whole (clears_monitor i) s.bus k)

pub executed_whole : (s : State) (i : Insn) → IsWhole s.bus → IsWhole (executed s i).state.bus
executed_whole s i k = family_whole (family_of i) s i k

-- ---- a call

pub calls_whole : (c : Core) (h : Reached) (target next : ℕ) → IsWhole h.system.bus → IsWhole (calls_ns access c h target next).held.system.bus
calls_whole c h target next k = by (nat_lt (call_base c) (pointer_limit_of c.registers.ipsr c.stacks_s)) (answers access h (call_stores c next)) (answers_whole (call_stores c next) h k) where
  by : (t : Bool) (a : Reached × Result (List ℕ) Fault) → IsWhole a.0.system.bus → IsWhole (cond t (record { core = c; held = h; outcome = Err (StackLimit Secure) }) (after_call c target a)).held.system.bus
  by true a k' = k
  by false (g, Ok words) k' = k'
  by false (g, Err fault) k' = k'
