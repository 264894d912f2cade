-- Entries and returns of Non-secure code, of one run: where they don't look at Secure state, they keep the Secure side.
use Rattle.std.proofs.Common.{◌≡◌, ℕ, Bool, true, false, ◌||◌, List, refl, sym, ap, ◌∙◌, subst}
use Rattle.std.specs.FinMap.{get}
use Rattle.tz_table.specs.declared.units.Side.{Side}
use Rattle.tz_table.specs.declared.units.Side.TheVariants.{NonSecure}
use Rattle.tz_table.specs.declared.units.Code.{Code}
use Rattle.tz_model.specs.declared.report.Fault.{Fault}
use Rattle.tz_model.specs.declared.report.Fault.TheVariants as faults_of
use Rattle.tz_model.specs.Board.{BoardValue}
use Rattle.tz_regs.specs.declared.parts.Core.{Core}
use Rattle.tz_regs.specs.declared.parts.Stacks.{Stacks}
use Rattle.tz_state.specs.Memory.{Memory}
use Rattle.tz_state.specs.Slots.{ExceptionsValue}
use Rattle.tz_state.specs.State.{Bus, State, map_of, with_memory}
use Rattle.tz_frames.specs.Machine.{framed}
use Rattle.tz_frames.specs.declared.entering.Entered.{Entered}
use Rattle.tz_frames.specs.declared.entering.Entered.TheVariants as entered
use Rattle.tz_frames.specs.declared.leaving.Left.{Left}
use Rattle.tz_frames.specs.declared.leaving.Left.TheVariants as left
use Rattle.tz_frames.specs.Status.{faulted}
use Rattle.tz_frames.specs.Enter.{enters}
use Rattle.tz_frames.specs.Leave.{leaves}
use Rattle.tz_sem.specs.declared.ending.Course.{Course}
use Rattle.tz_sem.specs.Ended.{Passed}
use Rattle.tz_sem.specs.Taking.{state_of, framed_in, taken_by, preempted, passed_by, left_by, returns}
use Rattle.tz_sem.specs.Exchange.{comes_back}
use Rattle.tz_twin.specs.Integrity.{KeepsBytes}
use Rattle.tz_twin.proofs.Bytes.{keeps_then}
use Rattle.tz_twin.proofs.Slots.{then}
use Rattle.tz_twin.proofs.Faults.{is_own}
use Rattle.tz_twin.proofs.Both.{Kept}
use Rattle.tz_twin.proofs.Held.{enters_held, leaves_held}
use Rattle.tz_twin.proofs.Spared.{KeptBy, faulted_kept}
use Rattle.tz_twin.proofs.EntrySpares.{entered_touched, enters_kept}
use Rattle.tz_twin.proofs.ReturnSpares.{left_touched, leaves_kept}
use Rattle.tz_twin.proofs.Arriving.{Comes, comes_preempted, comes_returns, comes_comes_back}
use Rattle.tz_twin.proofs.Halting.{Halts, halts_preempted, halts_returns, halts_comes_back}

-- the map of what is kept is the one before
same_map : (s0 s : State) → Kept s0 s → map_of s ≡ map_of s0
same_map s0 s k = λ i. record { regions = (k.keeps.board i).regions; sau = k.keeps.sau i }

-- what an entry or a return leaves after what was kept before
pub kept_then : (s0 s : State) (c : Core) (e : ExceptionsValue) (b : Bus) → Kept s0 s → KeptBy s.core c s.exceptions e (map_of s) s.bus.memory b.memory → b ≡ with_memory s.bus b.memory
    → Kept s0 (state_of c e b)
kept_then s0 s c e b k h held = record {
  keeps = record {
    bytes = keeps_then (map_of s0) s0.bus.memory s.bus.memory b.memory k.keeps.bytes (subst (λ m. KeepsBytes m s.bus.memory b.memory) (same_map s0 s k) h.bytes);
    stacks = h.stacks ∙ k.keeps.stacks;
    masks = h.masks ∙ k.keeps.masks;
    status = h.status ∙ k.keeps.status;
    exceptions = then s0.exceptions s.exceptions e k.keeps.exceptions h.exceptions;
    sau = ap (λ (b : Bus). b.sau) held ∙ k.keeps.sau;
    mpu = ap (λ (b : Bus). b.mpu_s) held ∙ k.keeps.mpu;
    board = ap (λ (b : Bus). b.board) held ∙ k.keeps.board;
  };
  timer = h.timer ∙ k.timer;
}

-- what neither the monitor nor a lock tells
pub kept_locked : (s r : State) → Kept s r → Kept s (record r { core = record r.core { run = record r.core.run { locked = true } } })
kept_locked s r k = record {
  keeps = record {
    bytes = k.keeps.bytes;
    stacks = k.keeps.stacks;
    masks = k.keeps.masks;
    status = k.keeps.status;
    exceptions = k.keeps.exceptions;
    sau = k.keeps.sau;
    mpu = k.keeps.mpu;
    board = k.keeps.board;
  };
  timer = k.timer;
}

kept_released : (s r : State) (b : Bus) → b.sau ≡ r.bus.sau → b.mpu_s ≡ r.bus.mpu_s → b.board ≡ r.bus.board → b.memory ≡ r.bus.memory → Kept s r → Kept s (record r { bus = b })
kept_released s r b sau mpu board memory k = record {
  keeps = record {
    bytes = λ a e. ap (λ (n : Memory). get n a) memory ∙ k.keeps.bytes a e;
    stacks = k.keeps.stacks;
    masks = k.keeps.masks;
    status = k.keeps.status;
    exceptions = k.keeps.exceptions;
    sau = sau ∙ k.keeps.sau;
    mpu = mpu ∙ k.keeps.mpu;
    board = board ∙ k.keeps.board;
  };
  timer = k.timer;
}

or_right : (t u : Bool) → (t || u) ≡ false → u ≡ false
or_right true u e = cc
or_right false u e = e

or_left : (t u : Bool) → (t || u) ≡ false → t ≡ false
or_left true u e = cc
or_left false u e = refl

kept_taken_by : (s0 s : State) (course : Course) (r : Entered) → (entered_touched r ≡ false → Kept s0 s) → (taken_by s course r).ending.touched ≡ false → Kept s0 (taken_by s course r).state
kept_taken_by s0 s course (entered.Taken given entry) k e = kept_released s0 s _ refl refl refl refl (k (or_right course.touched entry.touched e))
kept_taken_by s0 s course (entered.Lockup entry) k e = kept_locked s0 s (k (or_right course.touched entry.touched e))

pub kept_preempted : (s0 s : State) (course : Course) (back : ℕ) → s.core.run.side ≡ NonSecure → Kept s0 s → (preempted s course back).ending.touched ≡ false → Kept s0 (preempted s course back).state
unfolding preempted
kept_preempted s0 s course back is k e =
    let f = framed_in course.negative s in
    let d = enters framed s.bus.board.profile s.core s.exceptions f back in
    kept_taken_by s0 (state_of d.core d.exceptions d.held.bus) course d.result
    (λ u. kept_then s0 s d.core d.exceptions d.held.bus k (enters_kept s.bus.board.profile s.core s.exceptions f back is u) (enters_held s.bus.board.profile s.core s.exceptions f back)) e

kept_left_by : (s0 s : State) (course : Course) (code : Code) (value : ℕ) (r : Left) → (left_touched r ≡ false → Kept s0 s) → (left_by s course code value r).ending.touched ≡ false → Kept s0 (left_by s course code value r).state
kept_left_by s0 s course code value (left.Resumed touched) k e = kept_released s0 s _ refl refl refl refl (k (or_right course.touched touched e))
kept_left_by s0 s course code value (left.Chained given refused entry) k e = kept_released s0 s _ refl refl refl refl (k (or_right course.touched entry.touched e))
kept_left_by s0 s course code value (left.Lockup refused entry) k e = kept_locked s0 s (k (or_right course.touched entry.touched e))

kept_returns : (s0 s : State) (course : Course) (code : Code) (value : ℕ) → s.core.run.side ≡ NonSecure → Kept s0 s → (returns s course code value).ending.touched ≡ false → Kept s0 (returns s course code value).state
unfolding returns
kept_returns s0 s course code value is k e =
    let f = framed_in course.negative s in
    let l = leaves framed s.bus.board.profile s.core s.exceptions f value in
    kept_left_by s0 (state_of l.core l.exceptions l.held.bus) course code value l.result
    (λ u. kept_then s0 s l.core l.exceptions l.held.bus k (leaves_kept s.bus.board.profile s.core s.exceptions f value is u) (leaves_held s.bus.board.profile s.core s.exceptions f value)) e

-- ---- a fault

pub kept_passed : (s0 : State) (fault : Fault) (c : Core) (e : ExceptionsValue) (b : Bus) → Kept s0 (state_of c e b) → Kept s0 (state_of (passed_by fault c) e b)
kept_passed s0 fault c e b k = record {
  keeps = record {
    bytes = k.keeps.bytes;
    stacks = stacks fault ∙ k.keeps.stacks;
    masks = masks fault ∙ k.keeps.masks;
    status = status fault ∙ k.keeps.status;
    exceptions = k.keeps.exceptions;
    sau = k.keeps.sau;
    mpu = k.keeps.mpu;
    board = k.keeps.board;
  };
  timer = k.timer;
} where
  stacks : (fault : Fault) → (passed_by fault c).stacks_s ≡ c.stacks_s
  stacks faults_of.Call = refl
  stacks _ = refl

  masks : (fault : Fault) → (passed_by fault c).masks.s ≡ c.masks.s
  masks faults_of.Call = refl
  masks _ = refl

  status : (fault : Fault) → (passed_by fault c).status.s ≡ c.status.s
  status faults_of.Call = refl
  status _ = refl

-- what a fault of Non-secure code leaves
pub kept_fault : (s0 s : State) (fault : Fault) → s.core.run.side ≡ NonSecure → is_own fault ≡ true → Kept s0 s
    → let r = faulted s.core.run.side fault s.core s.exceptions in Kept s0 (state_of r.core r.exceptions s.bus)
kept_fault s0 s fault is own k =
    let r = faulted s.core.run.side fault s.core s.exceptions in
    let h = subst (λ (side : Side). KeptBy s.core (faulted side fault s.core s.exceptions).core s.exceptions (faulted side fault s.core s.exceptions).exceptions (map_of s) s.bus.memory s.bus.memory)
    (sym is) (faulted_kept fault s.core s.exceptions (map_of s) s.bus.memory own) in
    kept_then s0 s r.core r.exceptions s.bus k h refl

-- ---- as ends of a step

-- of a step of Non-secure code: it halts as entries and returns do, keeps the Secure side where it didn't look at it, and
-- comes to Secure code by one of the ways
pub record Passes (s0 : State) (looked : Bool) (general : List ℕ) (p : Passed) : Type 0 where
  pub halts : Halts NonSecure s0.bus.board looked general p
  pub kept : p.ending.touched ≡ false → Kept s0 p.state
  pub comes : Comes s0.core.registers.ipsr s0.core.stacks_s p

comes_on : (ipsr : ℕ) (stacks stacks' : Stacks) (p : Passed) → stacks ≡ stacks' → Comes ipsr stacks p → Comes ipsr stacks' p
comes_on ipsr stacks stacks' p e h = subst (λ (t : Stacks). Comes ipsr t p) e h

halts_on : (b b' : BoardValue) (looked : Bool) (general : List ℕ) (p : Passed) → b ≡ b' → Halts NonSecure b looked general p → Halts NonSecure b' looked general p
halts_on b b' looked general p e h = subst (λ (x : BoardValue). Halts NonSecure x looked general p) e h

pub passes_preempted : (s0 s : State) (course : Course) (back : ℕ) → s.core.run.side ≡ NonSecure → Kept s0 s → Passes s0 course.touched s.core.registers.general (preempted s course back)
passes_preempted s0 s course back is k = record {
  halts = halts_on s.bus.board s0.bus.board course.touched s.core.registers.general (preempted s course back) k.keeps.board (halts_preempted NonSecure s course back);
  kept = λ e. kept_preempted s0 s course back is k e;
  comes = comes_preempted s0.core.registers.ipsr s0.core.stacks_s s course back;
}

pub passes_returns : (s0 s : State) (course : Course) (code : Code) (value : ℕ) → course.touched ≡ false → s.core.run.side ≡ NonSecure → Kept s0 s
    → Passes s0 course.touched s.core.registers.general (returns s course code value)
passes_returns s0 s course code value quiet is k = record {
  halts = halts_on s.bus.board s0.bus.board course.touched s.core.registers.general (returns s course code value) k.keeps.board (halts_returns NonSecure s course code value (λ h. quiet));
  kept = λ e. kept_returns s0 s course code value is k e;
  comes = comes_on s0.core.registers.ipsr s.core.stacks_s s0.core.stacks_s (returns s course code value) k.keeps.stacks (comes_returns s0.core.registers.ipsr s course code value is);
}

differs : (t : Bool) → t ≡ true → t ≡ false → ⊥
differs true e f = cc
differs false e f = cc

-- FNC_RETURN has looked at Secure state; the branch to it left IPSR and the Secure stacks as they were
pub passes_comes_back : (s0 s : State) (before : Core) (course : Course) (code : Code) (value : ℕ) → s.bus.board ≡ s0.bus.board → s.core.registers.ipsr ≡ s0.core.registers.ipsr → s.core.stacks_s ≡ s0.core.stacks_s
    → Passes s0 true before.registers.general (comes_back before s course code value)
passes_comes_back s0 s before course code value board ipsr stacks =
    let p = comes_back before s course code value in
    let h = halts_on s.bus.board s0.bus.board true before.registers.general p board (halts_comes_back NonSecure before s course code value) in
    record {
      halts = h;
      kept = λ e. absurd (differs p.ending.touched (h.touched refl) e);
      comes = comes_on s0.core.registers.ipsr s.core.stacks_s s0.core.stacks_s p stacks (subst (λ (n : ℕ). Comes n s.core.stacks_s p) ipsr (comes_comes_back before s course code value));
    }
