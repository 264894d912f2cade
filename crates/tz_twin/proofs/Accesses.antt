-- Accesses of Non-secure code: twins give the same words or the same fault, make the same stores, stay
-- twins, and keep the Secure side.
use Rattle.std.proofs.Common.{◌≡◌, ℕ, Bool, true, false, ◌||◌, not, cond, List, [], ◌∷◌, ◌++◌, Option, Some, None, Result, Ok, Err, refl, sym, ap, ◌∙◌}
use Rattle.tz_table.specs.declared.units.Side.TheVariants.{NonSecure}
use Rattle.tz_table.specs.declared.units.Size.{Size}
use Rattle.tz_model.specs.declared.report.Fault.{Fault}
use Rattle.tz_model.specs.declared.report.Fault.TheVariants.{Unaligned, Violation}
use Rattle.tz_model.specs.declared.report.Store as stored
use Rattle.tz_model.specs.Ports.{Access, Load, Store, with_read, after_answer, answers, cut_to}
use Rattle.tz_regs.specs.declared.parts.BusStatus.{BusStatus}
use Rattle.tz_state.specs.declared.asker.Asker.{Asker}
use Rattle.tz_state.specs.declared.request.Kind.{Kind}
use Rattle.tz_state.specs.declared.request.Kind.TheVariants.{Read, Write}
use Rattle.tz_state.specs.Memory.{Memory, every, with_value}
use Rattle.tz_state.specs.Attribution.{is_open}
use Rattle.tz_state.specs.Slots.{at}
use Rattle.tz_state.specs.SystemRegisters.{SystemState}
use Rattle.tz_state.specs.Views.{system_read, system_written}
use Rattle.tz_state.specs.Access.{Reached, is_private, may_touch, is_crooked, is_let, verdict, access_verdict, permitted_read, stored_in, read_by, write_by, access}
use Rattle.tz_twin.specs.Integrity.{KeepsBytes}
use Rattle.tz_twin.proofs.Bytes.{value_same, write_same, write_kept, keeps_nothing_changed, keeps_then}
use Rattle.tz_twin.proofs.Split.{Open, Rest, open_map, Same}
use Rattle.tz_twin.proofs.Slots.{Quiet, quiet, quiet_then}
use Rattle.tz_twin.proofs.Registers.{system_of, Written, moved, SameSystems, system_value_same, system_read_same, system_written_same}
use Rattle.tz_twin.proofs.Writes as registers

-- Non-secure code that asks
abbrev pub openly : Asker → Asker
openly k = record k { side = NonSecure }

-- what its accesses reach, with these stores
abbrev pub reached : Asker → Open → Rest → List stored.Store → Reached
reached k o x stores = record { asker = openly k; system = system_of o x; stores = stores }

-- a rest with other registers of bus faults and another memory
abbrev pub rested : Rest → BusStatus → Memory → Rest
rested x bus memory = record x { bus = bus; memory = memory }

-- two answers of twins: what was written by system registers is the same, the rests are still the same to
-- Non-secure code, and the Secure side is kept
pub record SameAnswers {A : Type 0} (k : Asker) (o : Open) (x x' : Rest) (a a' : Reached × A) : Type 0 where
  pub part : Written
  pub bus : BusStatus
  pub bus' : BusStatus
  pub memory : Memory
  pub memory' : Memory
  pub stores : List stored.Store
  pub held : a.0 ≡ reached k (moved o part) (rested x bus memory) stores
  pub held' : a'.0 ≡ reached k (moved o part) (rested x' bus' memory') stores
  pub same : Same (moved o part) (rested x bus memory) (rested x' bus' memory')
  pub quiet : Quiet o.exceptions part.exceptions
  pub kept : KeepsBytes (open_map o) x.memory memory
  pub kept' : KeepsBytes (open_map o) x'.memory memory'
  pub answer : a.1 ≡ a'.1

-- ---- checks

-- two answers of different kinds aren't the same: said of these alone, since `cc` reads all that is known at a goal
none_is_some : {P : Type 0} (fault : Fault) → None ≡ Some fault → P
none_is_some fault e = cc

word_is_fault : {P : Type 0} (word : ℕ) (fault : Fault) → Ok word ≡ Err fault → P
word_is_fault word fault e = cc

-- what refuses an access is open
refused_same : (k : Asker) (o : Open) (x x' : Rest) (stores : List stored.Store) (kind : Kind) (size : Size) (a : ℕ) (must_align user : Bool)
    → access_verdict (reached k o x stores) kind size a must_align user ≡ access_verdict (reached k o x' stores) kind size a must_align user
unfolding verdict is_let
refused_same k o x x' stores kind size a must_align user = refl

-- what these two checks let through may be touched
pub touched_by : (a : ℕ) (touch crooked : Bool) (rest : Option Fault) → cond crooked (Some Unaligned) (cond (not touch) (Some (Violation a)) rest) ≡ None → touch ≡ true
touched_by a true crooked rest e = refl
touched_by a false true rest e = cc
touched_by a false false rest e = cc

-- an access that no check refuses is to Non-secure bytes
open_of_refused : (k : Asker) (o : Open) (x : Rest) (stores : List stored.Store) (kind : Kind) (size : Size) (a : ℕ) (must_align user : Bool)
    → access_verdict (reached k o x stores) kind size a must_align user ≡ None → every (is_open (open_map o)) a size ≡ true
unfolding verdict may_touch
open_of_refused k o x stores kind size a must_align user e =
    touched_by a (every (is_open (open_map o)) a size) (is_crooked size a (must_align || k.aligned)) _ e

-- ---- one access

-- nothing is changed, and both give one answer
same_at : {A : Type 0} (k : Asker) (o : Open) (x x' : Rest) (stores : List stored.Store) (r r' : A) → Same o x x' → r ≡ r'
    → SameAnswers k o x x' (reached k o x stores, r) (reached k o x' stores, r')
same_at k o x x' stores r r' same e = record {
  part = record { status = o.status_ns; exceptions = o.exceptions; mpu = o.mpu_ns };
  bus = x.bus;
  bus' = x'.bus;
  memory = x.memory;
  memory' = x'.memory;
  stores = stores;
  held = refl;
  held' = refl;
  same = same;
  quiet = quiet o.exceptions;
  kept = keeps_nothing_changed (open_map o) x.memory;
  kept' = keeps_nothing_changed (open_map o) x'.memory;
  answer = e;
}

-- system registers are read or written, and both give one answer
same_system : {A : Type 0} (k : Asker) (o : Open) (x x' : Rest) (stores : List stored.Store) (s s' : SystemState) (r r' : A) → Same o x x' → SameSystems o x x' s s' → Quiet o.exceptions s.exceptions → r ≡ r'
    → SameAnswers k o x x' (record (reached k o x stores) { system = s }, r) (record (reached k o x' stores) { system = s' }, r')
same_system k o x x' stores s s' r r' same h q e = record {
  part = h.part;
  bus = h.bus;
  bus' = h.bus';
  memory = x.memory;
  memory' = x'.memory;
  stores = stores;
  held = λ i. record (reached k o x stores) { system = h.state i };
  held' = λ i. record (reached k o x' stores) { system = h.state' i };
  same = record { bytes = same.bytes; bus = h.same };
  quiet = record {
    keeps = record {
      interrupts = ap (λ (s : SystemState). s.exceptions.interrupts) (sym h.state) ∙ q.keeps.interrupts;
      prigroup = ap (λ (s : SystemState). s.exceptions.prigroup_s) (sym h.state) ∙ q.keeps.prigroup;
      pris = ap (λ (s : SystemState). s.exceptions.pris) (sym h.state) ∙ q.keeps.pris;
      bfhfnmins = ap (λ (s : SystemState). s.exceptions.bfhfnmins) (sym h.state) ∙ q.keeps.bfhfnmins;
      targets = λ i. ap (λ (s : SystemState). (at s.exceptions i).target) (sym h.state) ∙ q.keeps.targets i;
      enabled = λ i n. ap (λ (s : SystemState). (at s.exceptions i).enabled) (sym h.state) ∙ q.keeps.enabled i n;
      priorities = λ i n. ap (λ (s : SystemState). (at s.exceptions i).priority) (sym h.state) ∙ q.keeps.priorities i n;
    };
    timer = ap (λ (s : SystemState). s.exceptions.timer_s) (sym h.state) ∙ q.timer;
  };
  kept = keeps_nothing_changed (open_map o) x.memory;
  kept' = keeps_nothing_changed (open_map o) x'.memory;
  answer = e;
}

-- a read that no check refuses
loaded_same : (k : Asker) (o : Open) (x x' : Rest) (stores : List stored.Store) (private : Bool) (size : Size) (a : ℕ) → Same o x x' → every (is_open (open_map o)) a size ≡ true
    → SameAnswers {A = Result ℕ Fault} k o x x' ((permitted_read private (reached k o x stores) size a).0, Ok (permitted_read private (reached k o x stores) size a).1) ((permitted_read private (reached k o x' stores) size a).0, Ok (permitted_read private (reached k o x' stores) size a).1)
loaded_same k o x x' stores true size a same is =
    same_system k o x x' stores (system_read NonSecure (system_of o x) a) (system_read NonSecure (system_of o x') a) _ _ same (system_read_same o x x' a same) (registers.read_kept (system_of o x) a)
    (ap Ok (system_value_same o x x' a size same))
loaded_same k o x x' stores false size a same is = same_at k o x x' stores _ _ same (ap Ok (value_same (open_map o) x.memory x'.memory size a same.bytes is))

read_same : (k : Asker) (o : Open) (x x' : Rest) (stores : List stored.Store) (v v' : Option Fault) (size : Size) (a : ℕ) → Same o x x' → v ≡ v' → (v ≡ None → every (is_open (open_map o)) a size ≡ true)
    → SameAnswers k o x x' (read_by v (reached k o x stores) size a) (read_by v' (reached k o x' stores) size a)
read_same k o x x' stores (Some fault) (Some fault') size a same e h = same_at k o x x' stores _ _ same (ap (λ v. told v) e) where
  told : Option Fault → Result ℕ Fault
  told None = Ok 0
  told (Some f) = Err f
read_same k o x x' stores None None size a same e h = loaded_same k o x x' stores (is_private a) size a same (h refl)
read_same k o x x' stores (Some fault) None size a same e h = none_is_some fault (sym e)
read_same k o x x' stores None (Some fault') size a same e h = none_is_some fault' e

-- a write that no check refuses
noted_same : (k : Asker) (o : Open) (x x' : Rest) (stores : List stored.Store) (private : Bool) (size : Size) (a value : ℕ) → Same o x x' → every (is_open (open_map o)) a size ≡ true
    → SameAnswers {A = Result ℕ Fault} k o x x' (record (reached k o x stores) { system = stored_in private NonSecure (system_of o x) size a value }, Ok 0) (record (reached k o x' stores) { system = stored_in private NonSecure (system_of o x') size a value }, Ok 0)
noted_same k o x x' stores true size a value same is =
    same_system k o x x' stores (system_written NonSecure (system_of o x) a size value) (system_written NonSecure (system_of o x') a size value) _ _ same (system_written_same o x x' a size value same) (registers.write_kept (system_of o x) a size value)
    refl
noted_same k o x x' stores false size a value same is = record {
  part = record { status = o.status_ns; exceptions = o.exceptions; mpu = o.mpu_ns };
  bus = x.bus;
  bus' = x'.bus;
  memory = with_value x.memory size a value;
  memory' = with_value x'.memory size a value;
  stores = stores;
  held = refl;
  held' = refl;
  same = record { bytes = write_same (open_map o) x.memory x'.memory size a value same.bytes; bus = same.bus };
  quiet = quiet o.exceptions;
  kept = write_kept (open_map o) x.memory size a value is;
  kept' = write_kept (open_map o) x'.memory size a value is;
  answer = refl;
}

write_by_same : (k : Asker) (o : Open) (x x' : Rest) (stores : List stored.Store) (v v' : Option Fault) (size : Size) (a value : ℕ) → Same o x x' → v ≡ v' → (v ≡ None → every (is_open (open_map o)) a size ≡ true)
    → SameAnswers k o x x' (write_by v (reached k o x stores) size a value) (write_by v' (reached k o x' stores) size a value)
write_by_same k o x x' stores (Some fault) (Some fault') size a value same e h = same_at k o x x' stores _ _ same (ap (λ v. told v) e) where
  told : Option Fault → Result ℕ Fault
  told None = Ok 0
  told (Some f) = Err f
write_by_same k o x x' stores None None size a value same e h =
    noted_same k o x x' (stores ++ record { addr = a; size = size; value = value } ∷ []) (is_private a) size a value same (h refl)
write_by_same k o x x' stores (Some fault) None size a value same e h = none_is_some fault (sym e)
write_by_same k o x x' stores None (Some fault') size a value same e h = none_is_some fault' e

access_same : (k : Asker) (o : Open) (x x' : Rest) (stores : List stored.Store) (q : Access) → Same o x x' → SameAnswers k o x x' (access (reached k o x stores) q) (access (reached k o x' stores) q)
unfolding access
access_same k o x x' stores (Load size a must_align user) same =
    read_same k o x x' stores _ _ size a same (refused_same k o x x' stores Read size a must_align user) (open_of_refused k o x stores Read size a must_align user)
access_same k o x x' stores (Store size a value must_align user) same =
    write_by_same k o x x' stores _ _ size a (cut_to size value) same (refused_same k o x x' stores Write size a must_align user)
    (open_of_refused k o x stores Write size a must_align user)

-- ---- accesses in turn

-- what follows an answer
answer_same : (k : Asker) (o : Open) (x x' : Rest) (a a' : Reached × Result ℕ Fault) (later : Reached → Reached × Result (List ℕ) Fault) → SameAnswers k o x x' a a'
    → ((p : Open) (y y' : Rest) (stores : List stored.Store) → Same p y y' → SameAnswers k p y y' (later (reached k p y stores)) (later (reached k p y' stores)))
    → SameAnswers k o x x' (after_answer a later) (after_answer a' later)
answer_same k o x x' (r, Err fault) (r', Err fault') later h more = record {
  part = h.part;
  bus = h.bus;
  bus' = h.bus';
  memory = h.memory;
  memory' = h.memory';
  stores = h.stores;
  held = h.held;
  held' = h.held';
  same = h.same;
  quiet = h.quiet;
  kept = h.kept;
  kept' = h.kept';
  answer = ap fault_of h.answer;
} where
  fault_of : Result ℕ Fault → Result (List ℕ) Fault
  fault_of (Ok word) = Ok []
  fault_of (Err f) = Err f
answer_same k o x x' (r, Ok w) (r', Err fault) later h more = word_is_fault w fault h.answer
answer_same k o x x' (r, Err fault) (r', Ok w') later h more = word_is_fault w' fault (sym h.answer)
answer_same k o x x' (r, Ok w) (r', Ok w') later h more =
    let next = more (moved o h.part) (rested x h.bus h.memory) (rested x' h.bus' h.memory') h.stores h.same in
    record {
      part = next.part;
      bus = next.bus;
      bus' = next.bus';
      memory = next.memory;
      memory' = next.memory';
      stores = next.stores;
      held = ap (λ (q : Reached). (later q).0) h.held ∙ next.held;
      held' = ap (λ (q : Reached). (later q).0) h.held' ∙ next.held';
      same = next.same;
      quiet = quiet_then o.exceptions h.part.exceptions next.part.exceptions h.quiet next.quiet;
      kept = keeps_then (open_map o) x.memory h.memory next.memory h.kept next.kept;
      kept' = keeps_then (open_map o) x'.memory h.memory' next.memory' h.kept' next.kept';
      answer =
          ap (λ (q : Reached). with_read w (later q).1) h.held ∙ ap (λ (q : Result (List ℕ) Fault). with_read w q) next.answer
          ∙ ap (λ (q : Reached). with_read w (later q).1) (sym h.held') ∙ ap (λ (q : Result ℕ Fault). read_after q (later r').1) h.answer;
    }
  where
    read_after : Result ℕ Fault → Result (List ℕ) Fault → Result (List ℕ) Fault
    read_after (Ok word) rest = with_read word rest
    read_after (Err f) rest = rest

pub answers_same : (k : Asker) (qs : List Access) (o : Open) (x x' : Rest) (stores : List stored.Store) → Same o x x' → SameAnswers k o x x' (answers access (reached k o x stores) qs) (answers access (reached k o x' stores) qs)
unfolding answers
answers_same k [] o x x' stores same = same_at k o x x' stores _ _ same refl
answers_same k (q ∷ more) o x x' stores same =
    answer_same k o x x' (access (reached k o x stores) q) (access (reached k o x' stores) q) (λ left. answers access left more) (access_same k o x x' stores q same)
    (λ p y y' later same'. answers_same k more p y y' later same')
