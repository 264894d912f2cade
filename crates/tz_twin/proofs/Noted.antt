-- What an instruction writes is among its stores.
use Rattle.std.proofs.Common.{◌≡◌, ℕ, ◌+◌, ◌==◌, Bool, true, false, ◌&&◌, not, cond, List, [], ◌∷◌, ◌++◌, Option, Some, None, Result, Ok, Err, refl, sym, ap, ◌∙◌, arith}
use Rattle.std.specs.FinMap.{get}
use Rattle.std.specs.Ordering.{nat_cmp, eq_by_cmp}
use Rattle.std.proofs.lemmas.Bool.Decides.{nat_tests}
use Rattle.tz_table.specs.declared.units.Side.{Side}
use Rattle.tz_table.specs.declared.units.Side.TheVariants.{Secure, NonSecure}
use Rattle.tz_table.specs.declared.units.Size.{Size}
use Rattle.tz_table.specs.declared.units.Size.TheVariants.{Byte, Half, Word}
use Rattle.tz_table.specs.declared.instruction.Insn.{Insn}
use Rattle.tz_model.specs.declared.report.Fault.{Fault}
use Rattle.tz_model.specs.declared.report.Store.{Store as Noted}
use Rattle.tz_model.specs.Ports.{Access, Load, Store, after_answer, answers, cut_to}
use Rattle.tz_model.specs.Words.{wrap}
use Rattle.tz_regs.specs.declared.parts.Core.{Core}
use Rattle.tz_regs.specs.Special.{named_of}
use Rattle.tz_state.specs.declared.request.Exclusive.{Exclusive}
use Rattle.tz_state.specs.declared.request.Kind.TheVariants.{Read, Write}
use Rattle.tz_state.specs.declared.register.ControlRegister.{ControlRegister}
use Rattle.tz_state.specs.declared.register.ControlRegister.TheVariants.{Cpuid, Icsr, Vtor, Aircr, Ccr, Shpr1, Shpr2, Shpr3, Shcsr}
use Rattle.tz_state.specs.declared.register.Narrow.{Narrow}
use Rattle.tz_state.specs.declared.register.Narrow.TheVariants.{Keeps, Zeros, Ignored}
use Rattle.tz_state.specs.declared.register.Register.{Register}
use Rattle.tz_state.specs.declared.register.Register.TheVariants.{Ictr, Stir, Timer, Bits, Priorities, Control, Fault as FaultRegister, Mover, Mpu, Sau}
use Rattle.tz_state.specs.declared.register.ViewedRegister.{ViewedRegister}
use Rattle.tz_state.specs.Memory.{Memory, every, with_byte, with_half, with_word, with_value}
use Rattle.tz_state.specs.Slots.{ExceptionsValue}
use Rattle.tz_state.specs.State.{Bus, State, priority_in, is_held}
use Rattle.tz_state.specs.SystemRegisters.{SystemState, after_read, control_written, written}
use Rattle.tz_state.specs.Views.{narrow_of, narrow_written, sized_written, found_at, found_read, found_written}
use Rattle.tz_state.specs.Access.{is_aligned, is_private, Reached, reached_in, access_verdict, permitted_read, stored_in, read_by, write_by, access}
use Rattle.tz_sem.specs.declared.family.Family.{Family}
use Rattle.tz_sem.specs.declared.family.Family.TheVariants.{Alu, LoadStore, Branch, System}
use Rattle.tz_sem.specs.Local.{Finished, FinishedNamed, local_of, finished_in, finished_named}
use Rattle.tz_sem.specs.LoadStore.{refusal, plan_load_store, finish_load_store}
use Rattle.tz_sem.specs.Branch.{plan_branch, finish_branch}
use Rattle.tz_sem.specs.System.{finish_system, clears_monitor, probe_of}
use Rattle.tz_sem.specs.Alu.{finish_alu}
use Rattle.tz_sem.specs.Exec.{Ported, ported, after_accesses, unless_refused, probed, Executed, alone, beside, through, Exclusivity, Free, Marks, Takes, exclusivity, marked, loads_stores, released, not_stored, stores_exclusive, exclusively, family_of, executed_by, executed}
use Rattle.tz_twin.specs.Writing.{is_beside, are_beside, are_in_memory, with_timers_of}
use Rattle.tz_twin.proofs.Bytes.{and_first, and_second, replaced, get-with_byte}

-- ---- bytes

apart_from_itself : (a : ℕ) → not (a == a) ≡ false
apart_from_itself a = grind (arith, nat_tests)

true_is_false : {P : Type 0} → true ≡ false → P
true_is_false e = cc

-- a byte is written at its own address alone
pub byte_beside : (n : Memory) (b v a : ℕ) → not (b == a) ≡ true → get (with_byte n b v) a ≡ get n a
byte_beside n b v a is = get-with_byte n b v a ∙ go (eq_by_cmp nat_cmp a b) refl where
  go : (t : Bool) → eq_by_cmp nat_cmp a b ≡ t → cond t (replaced (get n b) v) (get n a) ≡ get n a
  go false e = refl
  go true e =
      let at : a ≡ b = grind (arith, nat_tests) in
      true_is_false (sym is ∙ ap (λ x. not (b == x)) at ∙ apart_from_itself b)

half_beside : (n : Memory) (b v a : ℕ) → not (b == a) ≡ true → not (wrap (b + 1) == a) ≡ true → get (with_half n b v) a ≡ get n a
unfolding with_half
half_beside n b v a is is' = byte_beside _ (wrap (b + 1)) _ a is' ∙ byte_beside n b _ a is

pub word_beside : (n : Memory) (b v a : ℕ) → every (λ x. not (x == a)) b Word ≡ true → get (with_word n b v) a ≡ get n a
unfolding with_word
word_beside n b v a is =
    let r1 = and_second _ _ is in
    let r2 = and_second _ _ r1 in
    byte_beside _ (wrap (b + 3)) _ a (and_second _ _ r2)
    ∙ byte_beside _ (wrap (b + 2)) _ a (and_first _ _ r2)
    ∙ byte_beside _ (wrap (b + 1)) _ a (and_first _ _ r1)
    ∙ byte_beside n b _ a (and_first _ _ is)

value_beside : (n : Memory) (size : Size) (b v a : ℕ) → every (λ x. not (x == a)) b size ≡ true → get (with_value n size b v) a ≡ get n a
value_beside n Byte b v a is = byte_beside n b _ a is
value_beside n Half b v a is = half_beside n b _ a (and_first _ _ is) (and_second _ _ is)
value_beside n Word b v a is = word_beside n b v a is

-- ---- lists of stores

pub beside_before : (stores : List Noted) (store : Noted) (a : ℕ) → are_beside (stores ++ store ∷ []) a ≡ true → are_beside stores a ≡ true
unfolding are_beside
beside_before [] store a e = refl
beside_before (first ∷ more) store a e = both (is_beside first a) _ _ (beside_before more store a) e where
  both : (p q r : Bool) → (r ≡ true → q ≡ true) → (p && r) ≡ true → (p && q) ≡ true
  both true q r h e = h e
  both false q r h e = e

pub beside_last : (stores : List Noted) (store : Noted) (a : ℕ) → are_beside (stores ++ store ∷ []) a ≡ true → is_beside store a ≡ true
unfolding are_beside
beside_last [] store a e = and_first _ _ e
beside_last (first ∷ more) store a e = beside_last more store a (and_second (is_beside first a) _ e)

pub memory_before : (stores : List Noted) (store : Noted) → are_in_memory (stores ++ store ∷ []) ≡ true → are_in_memory stores ≡ true
unfolding are_in_memory
memory_before [] store e = refl
memory_before (first ∷ more) store e = both (not (is_private first.addr)) _ _ (memory_before more store) e where
  both : (p q r : Bool) → (r ≡ true → q ≡ true) → (p && r) ≡ true → (p && q) ≡ true
  both true q r h e = h e
  both false q r h e = e

pub memory_last : (stores : List Noted) (store : Noted) → are_in_memory (stores ++ store ∷ []) ≡ true → not (is_private store.addr) ≡ true
unfolding are_in_memory
memory_last [] store e = and_first _ _ e
memory_last (first ∷ more) store e = memory_last more store (and_second (not (is_private first.addr)) _ e)

-- ---- what is noted

-- what changed of a bus and of exceptions is told by these stores
pub record Told (stores : List Noted) (b b' : Bus) (e e' : ExceptionsValue) : Type 0 where
  pub bytes : (a : ℕ) → are_beside stores a ≡ true → get b'.memory a ≡ get b.memory a
  pub board : b'.board ≡ b.board
  pub sau : are_in_memory stores ≡ true → b'.sau ≡ b.sau
  pub exceptions : are_in_memory stores ≡ true → e' ≡ with_timers_of e' e

pub told_nothing : (stores : List Noted) (b : Bus) (e : ExceptionsValue) → Told stores b b e e
told_nothing stores b e = record { bytes = λ a is. refl; board = refl; sau = λ is. refl; exceptions = λ is. refl }

-- the timers are told anew
pub timers_then : (e e' e'' : ExceptionsValue) → e' ≡ with_timers_of e' e → e'' ≡ with_timers_of e'' e' → e'' ≡ with_timers_of e'' e
timers_then e e' e'' h k = k ∙ ap (with_timers_of e'') h

-- of what a port reached
abbrev pub Reaches : Bus → ExceptionsValue → Reached → Type 0
Reaches b e r = Told r.stores b r.system.bus e r.system.exceptions

-- ---- the system registers

-- a read may clear COUNTFLAG
after_read_bus : (side : Side) (s : SystemState) (r : Register) → (after_read side s r).bus ≡ s.bus
after_read_bus side s Ictr = refl
after_read_bus side s Stir = refl
after_read_bus side s (Timer r) = refl
after_read_bus side s (Bits bank word) = refl
after_read_bus side s (Priorities word) = refl
after_read_bus side s (Control r) = refl
after_read_bus side s (FaultRegister r) = refl
after_read_bus side s (Mover r) = refl
after_read_bus side s (Mpu r) = refl
after_read_bus side s (Sau r) = refl

after_read_exceptions : (side : Side) (s : SystemState) (r : Register) → (after_read side s r).exceptions ≡ with_timers_of (after_read side s r).exceptions s.exceptions
after_read_exceptions side s Ictr = refl
after_read_exceptions side s Stir = refl
after_read_exceptions Secure s (Timer r) = refl
after_read_exceptions NonSecure s (Timer r) = refl
after_read_exceptions side s (Bits bank word) = refl
after_read_exceptions side s (Priorities word) = refl
after_read_exceptions side s (Control r) = refl
after_read_exceptions side s (FaultRegister r) = refl
after_read_exceptions side s (Mover r) = refl
after_read_exceptions side s (Mpu r) = refl
after_read_exceptions side s (Sau r) = refl

found_read_bus : (s : SystemState) (f : Option ViewedRegister) → (found_read s f).bus ≡ s.bus
found_read_bus s None = refl
found_read_bus s (Some f) = after_read_bus f.view s f.register

found_read_exceptions : (s : SystemState) (f : Option ViewedRegister) → (found_read s f).exceptions ≡ with_timers_of (found_read s f).exceptions s.exceptions
found_read_exceptions s None = refl
found_read_exceptions s (Some f) = after_read_exceptions f.view s f.register

-- a write leaves memory and the board
record MemoryKept (s s' : SystemState) : Type 0 where
  pub memory : s'.bus.memory ≡ s.bus.memory
  pub board : s'.bus.board ≡ s.bus.board

control_kept : (side : Side) (s : SystemState) (r : ControlRegister) (value : ℕ) → MemoryKept s (control_written side s r value)
control_kept side s Cpuid value = record { memory = refl; board = refl }
control_kept side s Icsr value = record { memory = refl; board = refl }
control_kept side s Vtor value = record { memory = refl; board = refl }
control_kept side s Aircr value = record { memory = refl; board = refl }
control_kept side s Ccr value = record { memory = refl; board = refl }
control_kept side s Shpr1 value = record { memory = refl; board = refl }
control_kept side s Shpr2 value = record { memory = refl; board = refl }
control_kept side s Shpr3 value = record { memory = refl; board = refl }
control_kept side s Shcsr value = record { memory = refl; board = refl }

written_kept : (side : Side) (s : SystemState) (r : Register) (value : ℕ) → MemoryKept s (written side s r value)
written_kept side s Ictr value = record { memory = refl; board = refl }
written_kept side s Stir value = record { memory = refl; board = refl }
written_kept side s (Timer r) value = record { memory = refl; board = refl }
written_kept side s (Bits bank word) value = record { memory = refl; board = refl }
written_kept side s (Priorities word) value = record { memory = refl; board = refl }
written_kept side s (Control r) value = control_kept side s r value
written_kept side s (FaultRegister r) value = record { memory = refl; board = refl }
written_kept side s (Mover r) value = record { memory = refl; board = refl }
written_kept Secure s (Mpu r) value = record { memory = refl; board = refl }
written_kept NonSecure s (Mpu r) value = record { memory = refl; board = refl }
written_kept side s (Sau r) value = record { memory = refl; board = refl }

narrow_kept : (side : Side) (s : SystemState) (r : Register) (narrow : Narrow) (lane : ℕ) (size : Size) (value : ℕ) → MemoryKept s (narrow_written side s r narrow lane size value)
narrow_kept side s r Keeps lane size value = written_kept side s r _
narrow_kept side s r Zeros lane size value = written_kept side s r _
narrow_kept side s r Ignored lane size value = record { memory = refl; board = refl }

sized_kept : (side : Side) (s : SystemState) (r : Register) (lane : ℕ) (size : Size) (value : ℕ) → MemoryKept s (sized_written side s r lane size value)
sized_kept side s r lane Byte value = narrow_kept side s r (narrow_of r) lane Byte value
sized_kept side s r lane Half value = narrow_kept side s r (narrow_of r) lane Half value
sized_kept side s r lane Word value = written_kept side s r value

found_kept : (s : SystemState) (f : Option ViewedRegister) (lane : ℕ) (size : Size) (value : ℕ) → MemoryKept s (found_written s f lane size value)
found_kept s None lane size value = record { memory = refl; board = refl }
found_kept s (Some f) lane size value = sized_kept f.view s f.register lane size value

-- ---- one access

loaded_told : (b : Bus) (e : ExceptionsValue) (private : Bool) (r : Reached) (size : Size) (a : ℕ) → Reaches b e r → Reaches b e (permitted_read private r size a).0
loaded_told b e true r size a h =
    let f = found_at r.asker.side a in
    let bus = found_read_bus r.system f in
    record {
      bytes = λ q is. ap (λ (x : Bus). get x.memory q) bus ∙ h.bytes q is;
      board = ap (λ (x : Bus). x.board) bus ∙ h.board;
      sau = λ is. ap (λ (x : Bus). x.sau) bus ∙ h.sau is;
      exceptions = λ is. timers_then e r.system.exceptions (found_read r.system f).exceptions (h.exceptions is) (found_read_exceptions r.system f);
    }
loaded_told b e false r size a h = h

read_told : (b : Bus) (e : ExceptionsValue) (v : Option Fault) (r : Reached) (size : Size) (a : ℕ) → Reaches b e r → Reaches b e (read_by v r size a).0
read_told b e (Some fault) r size a h = h
read_told b e None r size a h = loaded_told b e (is_private a) r size a h

-- by whether the address is private
stored_told : (b : Bus) (e : ExceptionsValue) (private : Bool) (r : Reached) (size : Size) (a value : ℕ) → is_private a ≡ private → Reaches b e r
    → let store : Noted = record { addr = a; size = size; value = value } in
    let s = stored_in private r.asker.side r.system size a value in Told (r.stores ++ store ∷ []) b s.bus e s.exceptions
stored_told b e true r size a value is h =
    let store : Noted = record { addr = a; size = size; value = value } in
    let k = found_kept r.system (found_at r.asker.side a) _ size value in
    record {
      bytes = λ q beside. ap (λ (n : Memory). get n q) k.memory ∙ h.bytes q (beside_before r.stores store q beside);
      board = k.board ∙ h.board;
      sau = λ inside. true_is_false (sym (memory_last r.stores store inside) ∙ ap not is);
      exceptions = λ inside. true_is_false (sym (memory_last r.stores store inside) ∙ ap not is);
    }
stored_told b e false r size a value is h =
    let store : Noted = record { addr = a; size = size; value = value } in
    record {
      bytes = λ q beside. value_beside r.system.bus.memory size a value q (beside_last r.stores store q beside) ∙ h.bytes q (beside_before r.stores store q beside);
      board = h.board;
      sau = λ inside. h.sau (memory_before r.stores store inside);
      exceptions = λ inside. h.exceptions (memory_before r.stores store inside);
    }

write_told : (b : Bus) (e : ExceptionsValue) (v : Option Fault) (r : Reached) (size : Size) (a value : ℕ) → Reaches b e r → Reaches b e (write_by v r size a value).0
write_told b e (Some fault) r size a value h = h
write_told b e None r size a value h = stored_told b e (is_private a) r size a value refl h

access_told : (b : Bus) (e : ExceptionsValue) (r : Reached) (q : Access) → Reaches b e r → Reaches b e (access r q).0
unfolding access
access_told b e r (Load size a must_align user) h = read_told b e (access_verdict r Read size a must_align user) r size a h
access_told b e r (Store size a value must_align user) h = write_told b e (access_verdict r Write size a must_align user) r size a (cut_to size value) h

-- ---- accesses in turn

answer_told : (b : Bus) (e : ExceptionsValue) (a : Reached × Result ℕ Fault) (later : Reached → Reached × Result (List ℕ) Fault) → Reaches b e a.0 → ((r : Reached) → Reaches b e r → Reaches b e (later r).0)
    → Reaches b e (after_answer a later).0
answer_told b e (r, Ok word) later h more = more r h
answer_told b e (r, Err fault) later h more = h

pub answers_told : (b : Bus) (e : ExceptionsValue) (plan : List Access) (r : Reached) → Reaches b e r → Reaches b e (answers access r plan).0
unfolding answers
answers_told b e [] r h = h
answers_told b e (q ∷ more) r h = answer_told b e (access r q) (λ left. answers access left more) (access_told b e r q h) (answers_told b e more)

-- ---- an instruction

-- what it changed is told by its stores; the side that runs is as it was
pub record Executes (s : State) (x : Executed) : Type 0 where
  pub told : Told x.stores s.bus x.state.bus s.exceptions x.state.exceptions
  pub side : x.state.core.run.side ≡ s.core.run.side

alone_told : (s : State) (f : Finished) → Executes s (alone s (finished_in s.core f))
alone_told s (Ok f) = record { told = told_nothing [] s.bus s.exceptions; side = refl }
alone_told s (Err fault) = record { told = told_nothing [] s.bus s.exceptions; side = refl }

finished_side : (c : Core) (f : Finished) → (finished_in c f).0.run.side ≡ c.run.side
finished_side c (Ok f) = refl
finished_side c (Err fault) = refl

-- over the port
accesses_told : (s : State) (a : Reached × Result (List ℕ) Fault) (finish : List ℕ → Finished) → Reaches s.bus s.exceptions a.0 → Executes s (through s (after_accesses s.core a finish))
accesses_told s (r, Err fault) finish h = record { told = h; side = refl }
accesses_told s (r, Ok words) finish h = go (finish words) where
  go : (f : Finished) → Executes s (through s (ported r (finished_in s.core f)))
  go (Ok f) = record { told = h; side = refl }
  go (Err fault) = record { told = h; side = refl }

pub reached_told : (s : State) → Reaches s.bus s.exceptions (reached_in s)
reached_told s = told_nothing [] s.bus s.exceptions

refused_told : (s : State) (refused : Option Fault) (p : Ported Reached) → Executes s (through s p) → Executes s (through s (unless_refused refused s.core (reached_in s) p))
refused_told s (Some fault) p h = record { told = told_nothing [] s.bus s.exceptions; side = refl }
refused_told s None p h = h

loads_told : (s : State) (i : Insn) → Executes s (loads_stores s i)
loads_told s i =
    refused_told s (refusal i (local_of s.core)) _
    (accesses_told s (answers access (reached_in s) (plan_load_store i (local_of s.core))) (finish_load_store i (local_of s.core))
    (answers_told s.bus s.exceptions (plan_load_store i (local_of s.core)) (reached_in s) (reached_told s)))

-- the monitor is no part of what is told
marked_told : (s : State) (m : Exclusive) (x : Executed) → Executes s x → Executes s (marked m x)
marked_told s m x h = record {
  told = record { bytes = h.told.bytes; board = h.told.board; sau = h.told.sau; exceptions = h.told.exceptions };
  side = h.side;
}

released_told : (s : State) (x : Executed) → Executes (released s) x → Executes s x
released_told s x h = record {
  told = record { bytes = h.told.bytes; board = h.told.board; sau = h.told.sau; exceptions = h.told.exceptions };
  side = h.side;
}

executes_cond : (s : State) (t : Bool) (x y : Executed) → Executes s x → Executes s y → Executes s (cond t x y)
executes_cond s true x y h k = h
executes_cond s false x y h k = k

exclusive_told : (s : State) (i : Insn) (m : Exclusive) (rd : ℕ) → Executes s (stores_exclusive s i m rd)
exclusive_told s i m rd =
    executes_cond s (not (is_aligned m.size m.addr)) _ _ (record { told = told_nothing [] s.bus s.exceptions; side = refl })
    (executes_cond s (is_held s.bus.monitor m) _ _ (released_told s _ (loads_told (released s) i))
    (released_told s (not_stored (released s) rd) (record { told = told_nothing [] (released s).bus s.exceptions; side = refl })))

exclusively_told : (s : State) (u : Exclusivity) (i : Insn) → Executes s (exclusively u s i)
exclusively_told s Free i = loads_told s i
exclusively_told s (Marks m) i = marked_told s m (loads_stores s i) (loads_told s i)
exclusively_told s (Takes m rd) i = exclusive_told s i m rd

named_told : (s : State) (clears : Bool) (f : FinishedNamed) → Executes s (beside s (ported (cond clears (record s.bus { monitor = None }) s.bus) (finished_named s.core f)))
named_told s true (Ok f) = record { told = record { bytes = λ a is. refl; board = refl; sau = λ is. refl; exceptions = λ is. refl }; side = refl }
named_told s true (Err fault) = record { told = record { bytes = λ a is. refl; board = refl; sau = λ is. refl; exceptions = λ is. refl }; side = refl }
named_told s false (Ok f) = record { told = told_nothing [] s.bus s.exceptions; side = refl }
named_told s false (Err fault) = record { told = told_nothing [] s.bus s.exceptions; side = refl }

family_told : (s : State) (family : Family) (i : Insn) → Executes s (executed_by family s i)
family_told s Alu i = alone_told s (finish_alu i (local_of s.core))
family_told s LoadStore i = exclusively_told s (exclusivity i (local_of s.core)) i
family_told s Branch i =
    accesses_told s (answers access (reached_in s) (plan_branch i (local_of s.core))) (finish_branch i (local_of s.core))
    (answers_told s.bus s.exceptions (plan_branch i (local_of s.core)) (reached_in s) (reached_told s))
family_told s System i =
    let p = priority_in s in
    let n = named_of s.core in
    named_told s (clears_monitor i) (finish_system p i n (probed s.bus (probe_of p i n)))

pub executed_told : (s : State) (i : Insn) → Executes s (executed s i)
executed_told s i = family_told s (family_of i) i
