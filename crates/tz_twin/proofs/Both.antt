-- The ends of two steps of twins: they go on as twins, they both lock, or they both looked at Secure state.
use Rattle.std.proofs.Common.{◌≡◌, Bool, true, false, ◌&&◌, cond, Option, Some, None, refl, sym, ap, List}
use Rattle.tz_table.specs.declared.units.Side.{Side}
use Rattle.tz_model.specs.declared.report.Store.{Store}
use Rattle.tz_model.specs.declared.report.Way.{Way}
use Rattle.tz_model.specs.Words.{is_nonsecure_side}
use Rattle.tz_regs.specs.declared.parts.Registers.{Registers}
use Rattle.tz_regs.specs.Registers.{side_in, before_in}
use Rattle.tz_state.specs.State.{State, side_of}
use Rattle.tz_sem.specs.Taking.{handling_of, with_handling}
use Rattle.tz_sem.specs.declared.ending.Handling.{Handling}
use Rattle.tz_sem.specs.declared.ending.Cause.{Cause}
use Rattle.tz_sem.specs.Ended.{Ended, way_by, kind_of, Passed, with_stores}
use Rattle.tz_sem.specs.Step.{stepped}
use Rattle.tz_twin.specs.Seen.{public_of, handed, crossing, Crossing, Seen, Hidden, Shown, seen}
use Rattle.tz_twin.specs.Integrity.{Keeps, WayIn}
use Rattle.tz_twin.proofs.Split.{Twins, board_seen}
use Rattle.tz_twin.proofs.After.{registers_after, after}

-- of one run: the step looked at Secure state, and what is seen after it is fixed by its crossing
pub record Touching (s : State) (before : Seen) (e : Ended) : Type 0 where
  pub touched : e.ending.touched ≡ true
  pub seen : seen e.state ≡ after before (crossing (stepped (before_in s.core) e))

-- the way of a crossing of a step that began with code of a side, before it is known that there is one
abbrev pub way_out : Side → State → Cause → Option Way
way_out side s cause = way_by s cause (kind_of side cause s.core.registers.lr)

-- where the step ends in Non-secure code, its registers are found by what was seen and by the crossing
abbrev pub Found : Side → Seen → State → Cause → Type 0
Found side before s cause =
    is_nonsecure_side (side_of s) ≡ true → registers_after before (way_out side s cause) (handed (way_out side s cause) s.core.registers) (public_of s) ≡ s.core.registers

pub touching_found : (s : State) (before : Seen) (e : Ended) → e.ending.touched ≡ true → board_seen before ≡ e.state.bus.board → Found (side_in s.core) before e.state e.ending.cause → Touching s before e
touching_found s before e looked board found =
    record { touched = looked; seen = go (is_nonsecure_side (side_of e.state)) e.ending.touched looked found }
  where
    way : Option Way
    way = way_out (side_in s.core) e.state e.ending.cause

    registers : Registers
    registers = e.state.core.registers

    leads : Bool → Option Crossing
    leads t = cond t (Some (record { way = cond t way None; handed = handed (cond t way None) registers; public = public_of e.state })) None

    go : (t u : Bool) → u ≡ true → (t ≡ true → registers_after before way (handed way registers) (public_of e.state) ≡ registers)
        → cond t (Shown e.state.bus.board registers (public_of e.state)) (Hidden e.state.bus.board) ≡ after before (leads (u && t))
    go true true looked found = λ i. Shown (sym board i) (sym (found refl) i) (public_of e.state)
    go false true looked found = ap Hidden (sym board)
    go t false looked found = cc

-- of one run: where a step ends in Secure code, it came there by one of the ways
abbrev pub Arrives : State → Ended → Type 0
Arrives s e = is_nonsecure_side (side_of e.state) ≡ false → e.state.core.run.locked ≡ false → WayIn s (stepped (before_in s.core) e) e.ending.cause

-- during a step the Secure side is kept, and the Secure timer stands
pub record Kept (old new : State) : Type 0 where
  pub keeps : Keeps old new
  pub timer : new.exceptions.timer_s ≡ old.exceptions.timer_s

-- both go on as twins, tell the same, and keep the Secure side
pub record Goes (s s' : State) (e e' : Ended) : Type 0 where
  pub twins : Twins e.state e'.state
  pub ending : e.ending ≡ e'.ending
  pub stores : e.stores ≡ e'.stores
  pub kept : Kept s e.state
  pub kept' : Kept s' e'.state

-- of one run: the machine locks, and a step that didn't look at Secure state keeps the Secure side
pub record Stops (s : State) (e : Ended) : Type 0 where
  pub locked : e.state.core.run.locked ≡ true
  pub board : e.state.bus.board ≡ s.bus.board
  pub kept : e.ending.touched ≡ false → Kept s e.state

pub data Both (s s' : State) (e e' : Ended) : Type 0 where
  Go : Goes s s' e e' → Both s s' e e'
  Stop : Stops s e → Stops s' e' → Both s s' e e'
  Touch : (before before' : Seen) → before ≡ before' → Touching s before e → Touching s' before' e' → Arrives s e → Arrives s' e' → Both s s' e e'

-- one choice in both
pub both_cond : (s s' : State) (t : Bool) (x y x' y' : Ended) → Both s s' x x' → Both s s' y y' → Both s s' (cond t x y) (cond t x' y')
both_cond s s' true x y x' y' p q = p
both_cond s s' false x y x' y' p q = q

-- the second of a choice whose test fails
pub both_second : (s s' : State) (t : Bool) (x y x' y' : Ended) → t ≡ false → Both s s' y y' → Both s s' (cond t x y) (cond t x' y')
both_second s s' true x y x' y' e p = absurd (cc)
both_second s s' false x y x' y' e p = p

-- what is noted of how exceptions came into a step is no part of what a crossing tells
touching_handling : (s : State) (before : Seen) (stores : List Store) (change : Handling → Handling) (p : Passed) → Touching s before (with_stores stores p) → Touching s before (with_stores stores (with_handling change p))
touching_handling s before stores change p h = record { touched = h.touched; seen = h.seen }

-- one change of it in both
pub both_handling : (s s' : State) (stores : List Store) (change : Handling → Handling) (p p' : Passed) → Both s s' (with_stores stores p) (with_stores stores p')
    → Both s s' (with_stores stores (with_handling change p)) (with_stores stores (with_handling change p'))
both_handling s s' stores change p p' (Go h) =
    Go (record {
      twins = h.twins;
      ending = λ i. record (h.ending i) { handling = Some (change (handling_of (h.ending i).handling)) };
      stores = h.stores;
      kept = h.kept;
      kept' = h.kept';
    })
both_handling s s' stores change p p' (Stop h h') =
    Stop (record { locked = h.locked; board = h.board; kept = h.kept }) (record { locked = h'.locked; board = h'.board; kept = h'.kept })
both_handling s s' stores change p p' (Touch before before' alike t t' a a') =
    Touch before before' alike (touching_handling s before stores change p t) (touching_handling s' before' stores change p' t') a a'
