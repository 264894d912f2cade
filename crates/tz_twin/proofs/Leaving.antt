-- How a step of Non-secure code goes on from what its instruction left: twins stay twins, both lock, or both looked at
-- Secure state.
use Rattle.std.proofs.Common.{◌≡◌, ℕ, ◌+◌, ◌%◌, ◌==◌, Bool, true, false, ◌&&◌, cond, List, [], Some, None, Result, Ok, refl, sym, ap, ◌∙◌, subst}
use Rattle.tz_table.specs.declared.units.Side.TheVariants.{NonSecure}
use Rattle.tz_table.specs.declared.units.Code.{Code}
use Rattle.tz_table.specs.declared.instruction.Insn.{Insn}
use Rattle.tz_model.specs.declared.report.Fault.{Fault}
use Rattle.tz_model.specs.declared.report.Outcome.{Outcome}
use Rattle.tz_model.specs.declared.report.Outcome.TheVariants.{Next, Jump, Exchange, Call, Sleep}
use Rattle.tz_model.specs.declared.report.Store.{Store}
use Rattle.tz_model.specs.Words.{wrap, even_of}
use Rattle.tz_regs.specs.declared.parts.Core.{Core}
use Rattle.tz_regs.specs.declared.parts.Registers.{Registers}
use Rattle.tz_regs.specs.Registers.{is_handler}
use Rattle.tz_regs.specs.ItState.{it_advanced}
use Rattle.tz_state.specs.Slots.{ExceptionsValue}
use Rattle.tz_sem.specs.declared.ending.Ending.{Ending}
use Rattle.tz_frames.specs.Gate.{is_fnc_return}
use Rattle.tz_frames.specs.Leave.{is_exc_return}
use Rattle.tz_sem.specs.declared.ending.Cause.TheVariants.{Went, Returned}
use Rattle.tz_sem.specs.declared.ending.Course.{Course}
use Rattle.tz_sem.specs.Ended.{Passed, Ended, with_stores}
use Rattle.tz_sem.specs.Taking.{faults}
use Rattle.tz_sem.specs.Exchange.{branch_ns, exchanged}
use Rattle.tz_sem.specs.Step.{length_of, it_after, sleep_of, skips, goes_on, faulting}
use Rattle.tz_sem.proofs.Kept.{WhereCalls}
use Rattle.tz_twin.specs.Integrity.{KeepsBytes}
use Rattle.tz_twin.proofs.Bytes.{SameOpen, keeps_nothing_changed}
use Rattle.tz_twin.proofs.Split.{Open, Rest, open_map, join, Same, twins_join}
use Rattle.tz_twin.proofs.Slots.{Quiet, quiet}
use Rattle.tz_twin.proofs.Faults.{is_own}
use Rattle.tz_twin.proofs.Both.{Kept, Both, Go}
use Rattle.tz_twin.proofs.Passing.{faults_both, returns_both, comes_back_both}

-- what a step of Non-secure code may leave of an open part and a rest: on the same board, with the Secure side kept
pub record Leaves (o : Open) (x : Rest) (p : Open) (y : Rest) : Type 0 where
  pub board : p.board ≡ o.board
  pub sau : p.sau ≡ o.sau
  pub masks : p.masks.s ≡ o.masks.s
  pub exceptions : Quiet o.exceptions p.exceptions
  pub bytes : KeepsBytes (open_map o) x.memory y.memory
  pub stacks : y.stacks_s ≡ x.stacks_s
  pub status : y.status_s ≡ x.status_s
  pub mpu : y.mpu_s ≡ x.mpu_s

-- what it leaves of twins
pub record Left (o : Open) (x x' : Rest) (p : Open) (y y' : Rest) : Type 0 where
  pub same : Same p y y'
  pub leaves : Leaves o x p y
  pub leaves' : Leaves o x' p y'

leaves_all : (o : Open) (x : Rest) → Leaves o x o x
leaves_all o x = record {
  board = refl;
  sau = refl;
  masks = refl;
  exceptions = quiet o.exceptions;
  bytes = keeps_nothing_changed (open_map o) x.memory;
  stacks = refl;
  status = refl;
  mpu = refl;
}

pub left_all : (o : Open) (x x' : Rest) → Same o x x' → Left o x x' o x x'
left_all o x x' same = record { same = same; leaves = leaves_all o x; leaves' = leaves_all o x' }

-- with another part that has the same board, SAU, Secure masks and exceptions
leaves_again : (o : Open) (x : Rest) (p q : Open) (y : Rest) → q.board ≡ p.board → q.sau ≡ p.sau → q.masks.s ≡ p.masks.s → q.exceptions ≡ p.exceptions → Leaves o x p y → Leaves o x q y
leaves_again o x p q y board sau masks exceptions h = record {
  board = board ∙ h.board;
  sau = sau ∙ h.sau;
  masks = masks ∙ h.masks;
  exceptions = subst (λ (e : ExceptionsValue). Quiet o.exceptions e) (sym exceptions) h.exceptions;
  bytes = h.bytes;
  stacks = h.stacks;
  status = h.status;
  mpu = h.mpu;
}

same_again : (p q : Open) (y y' : Rest) → q.board ≡ p.board → q.sau ≡ p.sau → q.exceptions ≡ p.exceptions → Same p y y' → Same q y y'
same_again p q y y' board sau exceptions h = record {
  bytes = subst (λ m. SameOpen m y.memory y'.memory) (λ i. record { regions = (sym board i).regions; sau = sym sau i }) h.bytes;
  bus = λ e. h.bus (ap (λ (e : ExceptionsValue). e.bfhfnmins) (sym exceptions) ∙ e);
}

pub left_again : (o : Open) (x x' : Rest) (p q : Open) (y y' : Rest) → q.board ≡ p.board → q.sau ≡ p.sau → q.masks.s ≡ p.masks.s → q.exceptions ≡ p.exceptions → Left o x x' p y y' → Left o x x' q y y'
left_again o x x' p q y y' board sau masks exceptions h = record {
  same = same_again p q y y' board sau exceptions h.same;
  leaves = leaves_again o x p q y board sau masks exceptions h.leaves;
  leaves' = leaves_again o x' p q y' board sau masks exceptions h.leaves';
}

pub kept_of : (o : Open) (x : Rest) (p : Open) (y : Rest) → Leaves o x p y → Kept (join o x) (join p y)
kept_of o x p y h = record {
  keeps = record {
    bytes = h.bytes;
    stacks = h.stacks;
    masks = h.masks;
    status = h.status;
    exceptions = h.exceptions.keeps;
    sau = h.sau;
    mpu = h.mpu;
    board = h.board;
  };
  timer = h.exceptions.timer;
}

-- a step that ends in Non-secure code
pub goes : (o p : Open) (x x' y y' : Rest) (stores : List Store) (ending : Ending) → Left o x x' p y y'
    → Both (join o x) (join o x') (record { state = join p y; stores = stores; ending = ending }) (record { state = join p y'; stores = stores; ending = ending })
goes o p x x' y y' stores ending h =
    Go (record {
      twins = twins_join p y y' h.same;
      ending = refl;
      stores = refl;
      kept = kept_of o x p y h.leaves;
      kept' = kept_of o x' p y' h.leaves';
    })

-- a step that faults
pub both_faults : (o p : Open) (x x' y y' : Rest) (course : Course) (fault : Fault) (stores : List Store) → is_own fault ≡ true → Left o x x' p y y'
    → Both (join o x) (join o x') (with_stores stores (faults (join p y) course fault)) (with_stores stores (faults (join p y') course fault))
both_faults o p x x' y y' course fault stores own h =
    faults_both o p x x' y y' course fault stores own h.same (kept_of o x p y h.leaves) (kept_of o x' p y' h.leaves')

-- one that faults before an instruction did anything
pub both_fault : (o : Open) (x x' : Rest) (course : Course) (fault : Fault) → is_own fault ≡ true → Same o x x' → Both (join o x) (join o x') (faulting (join o x) course fault) (faulting (join o x') course fault)
both_fault o x x' course fault own same = both_faults o o x x' x x' course fault [] own (left_all o x x' same)

-- ---- how the step goes on, from what the instruction left

abbrev pub with_registers : Open → Registers → Open
with_registers o r = record o { registers = r }

left_registers : (o p : Open) (x x' y y' : Rest) (r : Registers) → Left o x x' p y y' → Left o x x' (with_registers p r) y y'
left_registers o p x x' y y' r h = left_again o x x' p (with_registers p r) y y' refl refl refl refl h

abbrev pub past_of : Insn → Open → Open
past_of i p = with_registers p (record p.registers { it = it_after i p.registers.it })

branch_ns_same : (o p : Open) (x x' y y' : Rest) (course : Course) (code : Code) (stores : List Store) (target : ℕ) → Left o x x' p y y'
    → Both (join o x) (join o x') (with_stores stores (branch_ns (join p y) course code target)) (with_stores stores (branch_ns (join p y') course code target))
branch_ns_same o p x x' y y' course code stores target h = go (target % 2 == 0) where
  r : Registers
  r = record p.registers { pc = even_of target; t = true }

  to : Bool → Rest → Ended
  to t y =
      record {
        state = record (join (with_registers p r) y) {
          core = record (join (with_registers p r) y).core { run = record (join p y).core.run { side = cond t NonSecure NonSecure } };
        };
        stores = stores;
        ending = record { touched = course.touched; cause = cond t Returned Went; ran = Some code; handling = None };
      }

  go : (t : Bool) → Both (join o x) (join o x') (to t y) (to t y')
  go true = goes o (with_registers p r) x x' y y' stores _ (left_registers o p x x' y y' r h)
  go false = goes o (with_registers p r) x x' y y' stores _ (left_registers o p x x' y y' r h)

passed_cond : (o : Open) (x x' : Rest) (stores : List Store) (t : Bool) (a b a' b' : Passed) → Both (join o x) (join o x') (with_stores stores a) (with_stores stores a') → Both (join o x) (join o x') (with_stores stores b) (with_stores stores b')
    → Both (join o x) (join o x') (with_stores stores (cond t a b)) (with_stores stores (cond t a' b'))
passed_cond o x x' stores true a b a' b' p q = p
passed_cond o x x' stores false a b a' b' p q = q

-- of an instruction before which both had these registers, and which looked at nothing Secure
pub record Follows (course : Course) (r : Registers) (before before' : Core) : Type 0 where
  pub quiet : course.touched ≡ false
  pub first : before.registers ≡ r
  pub second : before'.registers ≡ r

exchanged_same : (o p q : Open) (x x' y y' : Rest) (r : Registers) (before before' : Core) (course : Course) (code : Code) (stores : List Store) (target : ℕ) (ns : Bool) → Follows course r before before' → p.registers.ipsr ≡ o.registers.ipsr → Left o x x' p y y' → Left o x x' q y y'
    → Both (join o x) (join o x') (with_stores stores (exchanged before (join p y) (join q y) course code target ns)) (with_stores stores (exchanged before' (join p y') (join q y') course code target ns))
unfolding exchanged
exchanged_same o p q x x' y y' r before before' course code stores target ns f n h g =
    passed_cond o x x' stores (is_fnc_return target) _ _ _ _
    (comes_back_both o p x x' y y' r before before' course code target stores f.first f.second h.same h.leaves.board n h.leaves.stacks h.leaves'.stacks)
    (passed_cond o x x' stores (is_handler p.registers.ipsr && is_exc_return target) _ _ _ _
    (returns_both o q x x' y y' course code target stores f.quiet g.same (kept_of o x q y g.leaves) (kept_of o x' q y' g.leaves'))
    (passed_cond o x x' stores ns _ _ _ _ (branch_ns_same o q x x' y y' course code stores target g)
    (goes o (with_registers q to) x x' y y' stores _ (left_registers o q x x' y y' to g))))
  where
    to : Registers
    to = record q.registers { pc = even_of target; t = target % 2 == 1 }

-- a part with PC moved
at_pc : (o p : Open) (x x' y y' : Rest) (stores : List Store) (ending : Ending) (pc : ℕ) → Left o x x' p y y'
    → Both (join o x) (join o x') (record { state = join (with_registers p (record p.registers { pc = pc })) y; stores = stores; ending = ending })
    (record { state = join (with_registers p (record p.registers { pc = pc })) y'; stores = stores; ending = ending })
at_pc o p x x' y y' stores ending pc h =
    let r : Registers = record p.registers { pc = pc } in goes o (with_registers p r) x x' y y' stores ending (left_registers o p x x' y y' r h)

-- a core that sleeps after it
asleep_of : Bool → Open → Open
asleep_of event p = record p { sleep = sleep_of event }

-- an instruction that calls nothing
abbrev pub CallsNone : Result Outcome Fault → Type 0
CallsNone out = WhereCalls out ⊥

pub goes_on_same : (o p : Open) (x x' y y' : Rest) (r : Registers) (before before' : Core) (course : Course) (code : Code) (i : Insn) (stores : List Store) (out : Outcome) → CallsNone (Ok out) → Follows course r before before' → p.registers.ipsr ≡ o.registers.ipsr → Left o x x' p y y'
    → Both (join o x) (join o x') (goes_on before i (join p y) course code stores out) (goes_on before' i (join p y') course code stores out)
unfolding asleep_of
goes_on_same o p x x' y y' r before before' course code i stores Next calls f n h =
    at_pc o (past_of i p) x x' y y' stores _ (wrap (p.registers.pc + length_of code)) (left_registers o p x x' y y' _ h)
goes_on_same o p x x' y y' r before before' course code i stores (Jump to) calls f n h = at_pc o (past_of i p) x x' y y' stores _ to (left_registers o p x x' y y' _ h)
goes_on_same o p x x' y y' r before before' course code i stores (Exchange target ns) calls f n h =
    exchanged_same o p (past_of i p) x x' y y' r before before' course code stores target ns f n h (left_registers o p x x' y y' _ h)
goes_on_same o p x x' y y' r before before' course code i stores (Call target) calls f n h = absurd (calls target refl)
goes_on_same o p x x' y y' r before before' course code i stores (Sleep event) calls f n h =
    at_pc o (asleep_of event (past_of i p)) x x' y y' stores _ (wrap (p.registers.pc + length_of code))
    (left_again o x x' p (asleep_of event (past_of i p)) y y' refl refl refl refl h)

-- an instruction that is skipped
pub skips_same : (o : Open) (x x' : Rest) (course : Course) (code : Code) → Same o x x' → Both (join o x) (join o x') (skips (join o x) course code) (skips (join o x') course code)
skips_same o x x' course code same =
    at_pc o (with_registers o (record o.registers { it = it_advanced o.registers.it })) x x' x x' [] _ (wrap (o.registers.pc + length_of code))
    (left_registers o o x x' x x' _ (left_all o x x' same))
