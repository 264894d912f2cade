-- Steps that end in an entry or a return, of one run: they stay on their board, and after one that looked at Secure state
-- the registers of Non-secure code are found.
use Rattle.std.proofs.Common.{◌≡◌, ℕ, ◌+◌, ◌*◌, ◌%◌, ◌^◌, Bool, true, false, ◌||◌, cond, List, Result, Ok, Err, refl, sym, ap, ◌∙◌, subst, Option, Some, None}
use Rattle.tz_table.specs.declared.units.Side.{Side}
use Rattle.tz_table.specs.declared.units.Side.TheVariants.{Secure, NonSecure}
use Rattle.tz_table.specs.declared.units.Code.{Code}
use Rattle.tz_model.specs.declared.report.Fault.{Fault}
use Rattle.tz_model.specs.declared.report.Fault.TheVariants as faults_of
use Rattle.tz_model.specs.declared.report.Slot.{Slot}
use Rattle.tz_model.specs.declared.report.Store.{Store}
use Rattle.tz_model.specs.Board.{BoardValue}
use Rattle.tz_model.specs.Words.{wrap, is_nonsecure_side}
use Rattle.tz_regs.specs.declared.parts.Core.{Core}
use Rattle.tz_regs.specs.declared.parts.Registers.{Registers}
use Rattle.tz_regs.specs.Registers.{side_in}
use Rattle.tz_state.specs.declared.taken.Taken.{Taken}
use Rattle.tz_state.specs.declared.taken.Taken.TheVariants as becomes
use Rattle.tz_state.specs.Memory.{word_at}
use Rattle.tz_state.specs.Slots.{ExceptionsValue}
use Rattle.tz_state.specs.Escalation.{escalated}
use Rattle.tz_state.specs.State.{Bus, State, map_in, side_of, with_core}
use Rattle.tz_frames.specs.FrameAccess.{SecureLoad}
use Rattle.tz_frames.specs.Machine.{Framed, framed}
use Rattle.tz_frames.specs.declared.entering.Entered.{Entered}
use Rattle.tz_frames.specs.declared.entering.Entered.TheVariants as entered
use Rattle.tz_frames.specs.declared.leaving.Left.{Left}
use Rattle.tz_frames.specs.declared.leaving.Left.TheVariants as left
use Rattle.tz_frames.specs.Status.{status_after, exception_of, Raised, with_status, raised_as, faulted}
use Rattle.tz_frames.specs.Enter.{is_secure, enters}
use Rattle.tz_frames.specs.Leave.{returning_by, leaves}
use Rattle.tz_frames.specs.Gate.{return_base, numbers_agree, came_back, after_second, after_first, function_returned}
use Rattle.tz_sem.specs.declared.ending.Handling.{Handling}
use Rattle.tz_sem.specs.declared.ending.Cause.TheVariants as causes
use Rattle.tz_sem.specs.declared.ending.Course.{Course}
use Rattle.tz_sem.specs.Ended.{Passed, Ended, with_stores}
use Rattle.tz_sem.specs.Taking.{state_of, locks, framed_in, taken, taken_by, preempted, goes_on_at, passed_by, after_raise, faults, left_by, returns, by_entry, with_fault, with_value, with_handling, by_value}
use Rattle.tz_sem.specs.Exchange.{core_back, back_with, touching, comes_back}
use Rattle.tz_sem.specs.Exec.{released}
use Rattle.tz_twin.specs.Seen.{public_of, handed, Seen, Hidden, seen}
use Rattle.tz_twin.proofs.Split.{board_seen}
use Rattle.tz_twin.proofs.After.{word_shown, shown_word, way_taken, general_seen, registers_after, found}
use Rattle.tz_twin.proofs.Both.{Found, Touching, touching_found}
use Rattle.tz_twin.proofs.Held.{enters_held, leaves_held}
use Rattle.tz_twin.proofs.Handled.{Handled, HandledAt, EnteredHandled, LeftHandled, enters_handled, leaves_handled}

-- of a step that began with code of a side: the board is this one; what looked at Secure state before has looked; and
-- where it looked, registers are found by these R0 to R12 of Non-secure code
pub record Halts (side : Side) (b : BoardValue) (looked : Bool) (general : List ℕ) (p : Passed) : Type 0 where
  pub board : p.state.bus.board ≡ b
  pub touched : looked ≡ true → p.ending.touched ≡ true
  pub found : (before : Seen) → (side ≡ NonSecure → general_seen before ≡ general) → p.ending.touched ≡ true → Found side before p.state p.ending.cause

pub or_true : (t u : Bool) → t ≡ true → (t || u) ≡ true
or_true true u e = refl
or_true false u e = cc

-- no Non-secure code runs
hides_locked : (locked : Bool) (side : Side) → locked ≡ true → is_nonsecure_side (cond locked Secure side) ≡ true → ⊥
hides_locked true side l e = cc
hides_locked false side l e = cc

hides_secure : (locked : Bool) (side : Side) → side ≡ Secure → is_nonsecure_side (cond locked Secure side) ≡ true → ⊥
hides_secure true side is e = cc
hides_secure false Secure is e = cc
hides_secure false NonSecure is e = cc

pub halts_locks : (side : Side) (general : List ℕ) (s : State) (touched : Bool) (handling : Option Handling) → Halts side s.bus.board touched general (locks s touched handling)
halts_locks side general s touched handling = record { board = refl; touched = λ e. e; found = λ before knows t is. absurd (hides_locked true s.core.run.side refl is) }

-- what is noted of how exceptions came into it is no part of that
halts_handling : (side : Side) (b : BoardValue) (looked : Bool) (general : List ℕ) (change : Handling → Handling) (p : Passed) → Halts side b looked general p → Halts side b looked general (with_handling change p)
halts_handling side b looked general change p h = record { board = h.board; touched = h.touched; found = h.found }

-- ---- an exception is taken

found_handled : (side : Side) (before : Seen) (secure : Bool) (vtor number : ℕ) (r : Registers) (c : Core) (e : ExceptionsValue) (f : Framed) → (side ≡ NonSecure → general_seen before ≡ r.general)
    → Handled secure vtor number r c f → Found side before (released (state_of c e f.bus)) causes.Taken
found_handled side before secure vtor number r c e f knows h is =
    let s : State = released (state_of c e f.bus) in
    let told : shown_word (public_of s).bytes (wrap (c.status.ns.vtor + 4 * number)) ≡ word_at f.bus.memory (wrap (vtor + 4 * number)) =
    ap (λ (v : ℕ). shown_word (public_of s).bytes (wrap (v + 4 * number))) h.vtor ∙ word_shown (map_in f.bus) f.bus.memory (wrap (vtor + 4 * number)) h.vector in
    subst (λ (x : Registers). registers_after before (way_taken side x.lr x.ipsr) (handed (way_taken side x.lr x.ipsr) x) (public_of s) ≡ x) (sym h.registers)
    (found side before r secure c.registers.lr (word_at f.bus.memory (wrap (vtor + 4 * number))) number (public_of s) h.lr knows told)

found_taken : (side : Side) (before : Seen) (secure : Bool) (vtor : ℕ) (r : Registers) (c : Core) (e : ExceptionsValue) (f : Framed) (number : ℕ) (of : Side) → (side ≡ NonSecure → general_seen before ≡ r.general)
    → HandledAt secure vtor r c f (record { number = number; side = of }) → Found side before (released (state_of c e f.bus)) causes.Taken
found_taken side before secure vtor r c e f number Secure knows h = λ is. absurd (hides_secure c.run.locked c.run.side h is)
found_taken side before secure vtor r c e f number NonSecure knows h = found_handled side before secure vtor number r c e f knows h

halts_taken : (side : Side) (b : BoardValue) (secure : Bool) (vtor : ℕ) (r : Registers) (c : Core) (e : ExceptionsValue) (f : Framed) (given : Slot) (looked touched : Bool) (handling : Option Handling) → f.bus.board ≡ b
    → HandledAt secure vtor r c f given → Halts side b looked r.general (taken (state_of c e f.bus) (looked || touched) handling)
halts_taken side b secure vtor r c e f given looked touched handling board h = record {
  board = board;
  touched = or_true looked touched;
  found = λ before knows t. found_taken side before secure vtor r c e f given.number given.side knows h;
}

halts_locked : (side : Side) (b : BoardValue) (general : List ℕ) (s : State) (looked touched : Bool) (handling : Option Handling) → s.bus.board ≡ b → Halts side b looked general (locks s (looked || touched) handling)
halts_locked side b general s looked touched handling board = record {
  board = board;
  touched = or_true looked touched;
  found = λ before knows t is. absurd (hides_locked true s.core.run.side refl is);
}

halts_taken_by : (side : Side) (b : BoardValue) (secure : Bool) (vtor : ℕ) (r : Registers) (c : Core) (e : ExceptionsValue) (f : Framed) (course : Course) (result : Entered) → f.bus.board ≡ b
    → EnteredHandled secure vtor r c f result → Halts side b course.touched r.general (taken_by (state_of c e f.bus) course result)
halts_taken_by side b secure vtor r c e f course (entered.Taken given entry) board h =
    halts_taken side b secure vtor r c e f given course.touched entry.touched (Some (by_entry entry)) board h
halts_taken_by side b secure vtor r c e f course (entered.Lockup entry) board h =
    halts_locked side b r.general (state_of c e f.bus) course.touched entry.touched (Some (by_entry entry)) board

pub halts_preempted : (side : Side) (s : State) (course : Course) (back : ℕ) → Halts side s.bus.board course.touched s.core.registers.general (preempted s course back)
unfolding preempted
halts_preempted side s course back =
    let f = framed_in course.negative s in
    let d = enters framed s.bus.board.profile s.core s.exceptions f back in
    halts_taken_by side s.bus.board (is_secure s.core.run.side) s.core.status.ns.vtor s.core.registers d.core d.exceptions d.held course d.result
    (ap (λ (b : Bus). b.board) (enters_held s.bus.board.profile s.core s.exceptions f back)) (enters_handled s.bus.board.profile s.core s.exceptions f back refl)

-- ---- a fault

halts_cond : (side : Side) (b : BoardValue) (touched : Bool) (general : List ℕ) (t : Bool) (p q : Passed) → Halts side b touched general p → Halts side b touched general q → Halts side b touched general (cond t p q)
halts_cond side b touched general true p q h g = h
halts_cond side b touched general false p q h g = g

passed_general : (fault : Fault) (c : Core) → (passed_by fault c).registers.general ≡ c.registers.general
passed_general faults_of.Call c = refl
passed_general _ c = refl

raised_as_general : (t : Taken) (given : Slot) (c : Core) (e : ExceptionsValue) → (raised_as t given c e).core.registers.general ≡ c.registers.general
raised_as_general becomes.AsIs given c e = refl
raised_as_general (becomes.Hard side) given c e = refl
raised_as_general becomes.Lockup given c e = refl

halts_raised : (side : Side) (s : State) (course : Course) (fault : Fault) (r : Raised) → r.core.registers.general ≡ s.core.registers.general
    → Halts side s.bus.board course.touched s.core.registers.general (after_raise s course fault r)
halts_raised side s course fault r same =
    let entry = preempted (state_of (passed_by fault r.core) r.exceptions s.bus) course (goes_on_at fault s.core.registers.pc) in
    halts_cond side s.bus.board course.touched s.core.registers.general r.locks _ entry
    (halts_locks side s.core.registers.general (state_of r.core r.exceptions s.bus) course.touched None)
    (subst (λ (general : List ℕ). Halts side s.bus.board course.touched general entry) (passed_general fault r.core ∙ same)
    (halts_preempted side (state_of (passed_by fault r.core) r.exceptions s.bus) course (goes_on_at fault s.core.registers.pc)))

pub halts_faults : (side : Side) (s : State) (course : Course) (fault : Fault) → Halts side s.bus.board course.touched s.core.registers.general (faults s course fault)
unfolding faults
halts_faults side s course fault =
    let own = s.core.run.side in
    let c = with_status s.core (status_after own fault s.core.status) in
    let r = faulted own fault s.core s.exceptions in
    halts_handling side s.bus.board course.touched s.core.registers.general (with_fault fault) (after_raise s course fault r)
    (halts_raised side s course fault r
    (raised_as_general (escalated s.exceptions c.masks (exception_of s.exceptions own fault)) (exception_of s.exceptions own fault) c s.exceptions))

-- ---- a return

-- of Non-secure code it looked at Secure state where it unstacked for Secure code, which runs on
found_resumed : (side : Side) (before : Seen) (s : State) (looked touched : Bool) → (side ≡ NonSecure → looked ≡ false) → (looked || touched) ≡ true → (touched ≡ true → s.core.run.side ≡ Secure)
    → Found side before s causes.Resumed
found_resumed Secure before s looked touched quiet t h is = refl
found_resumed NonSecure before s looked touched quiet t h is = absurd (hides_secure s.core.run.locked s.core.run.side (h (other looked touched (quiet refl) t)) is) where
  other : (t u : Bool) → t ≡ false → (t || u) ≡ true → u ≡ true
  other true u e h = cc
  other false u e h = h

halts_left_by : (side : Side) (b : BoardValue) (secure : Bool) (vtor : ℕ) (r : Registers) (c : Core) (e : ExceptionsValue) (f : Framed) (course : Course) (code : Code) (value : ℕ) (result : Left)
    → (side ≡ NonSecure → course.touched ≡ false) → f.bus.board ≡ b → LeftHandled secure vtor r c f result → Halts side b course.touched r.general (left_by (state_of c e f.bus) course code value result)
halts_left_by side b secure vtor r c e f course code value (left.Resumed touched) quiet board h = record {
  board = board;
  touched = or_true course.touched touched;
  found = λ before knows t. found_resumed side before (released (state_of c e f.bus)) course.touched touched quiet t h;
}
halts_left_by side b secure vtor r c e f course code value (left.Chained given refused entry) quiet board h =
    halts_taken side b secure vtor r c e f given course.touched entry.touched (Some (by_value value refused (Some entry))) board h
halts_left_by side b secure vtor r c e f course code value (left.Lockup refused entry) quiet board h =
    halts_locked side b r.general (state_of c e f.bus) course.touched entry.touched (Some (by_value value refused (Some entry))) board

-- code of the Non-secure side that returns has not looked at Secure state before
pub halts_returns : (side : Side) (s : State) (course : Course) (code : Code) (value : ℕ) → (side ≡ NonSecure → course.touched ≡ false)
    → Halts side s.bus.board course.touched s.core.registers.general (returns s course code value)
unfolding returns
halts_returns side s course code value quiet =
    let f = framed_in course.negative s in
    let l = leaves framed s.bus.board.profile s.core s.exceptions f value in
    halts_left_by side s.bus.board (returning_by s.core.run.side value).secure s.core.status.ns.vtor s.core.registers l.core l.exceptions l.held course code value l.result quiet
    (ap (λ (b : Bus). b.board) (leaves_held s.bus.board.profile s.core s.exceptions f value)) (leaves_handled s.bus.board.profile s.core s.exceptions f value refl)

-- ---- FNC_RETURN

-- Secure code runs on
BackSecure : Result Core Fault → Type 0
BackSecure (Ok c) = c.run.side ≡ Secure
BackSecure (Err fault) = Unit {0}

second_secure : (c : Core) (back : ℕ) (r : Result ℕ Fault) → BackSecure (after_second c back r)
unfolding BackSecure
second_secure c back (Err fault) = tt
second_secure c back (Ok word) = go (numbers_agree c.registers.ipsr (word % 2 ^ 9)) where
  go : (t : Bool) → BackSecure (cond t (Ok (came_back c back (word % 2 ^ 9))) (Err (faults_of.InvPc c.run.side)))
  go true = refl
  go false = tt

back_secure : (c : Core) (r q : Result ℕ Fault) → BackSecure (after_first c r q)
unfolding BackSecure
back_secure c (Ok back) q = second_secure c back q
back_secure c (Err fault) q = tt

halts_back_with : (side : Side) (before : Core) (s : State) (course : Course) (code : Code) (r : Result Core Fault) → BackSecure r
    → Halts side s.bus.board course.touched before.registers.general (back_with before s course code r)
unfolding BackSecure
halts_back_with side before s course code (Ok c) secure = record {
  board = refl;
  touched = λ e. e;
  found = λ before knows t is. absurd (hides_secure c.run.locked c.run.side secure is);
}
halts_back_with side before s course code (Err fault) secure = halts_faults side (with_core s (core_back before s.core)) course fault

-- it has looked at Secure state; where it faults, the registers are those before the instruction
pub halts_comes_back : (side : Side) (before : Core) (s : State) (course : Course) (code : Code) (value : ℕ) → Halts side s.bus.board true before.registers.general (comes_back before s course code value)
unfolding comes_back
halts_comes_back side before s course code value =
    let f = framed_in course.negative s in
    halts_handling side s.bus.board true before.registers.general (with_value value) (back_with before s (touching course) code (function_returned framed s.core f))
    (halts_back_with side before s (touching course) code (function_returned framed s.core f)
    (back_secure s.core (framed f (SecureLoad (return_base s.core))).1 (framed f (SecureLoad (wrap (return_base s.core + 4)))).1))

-- ---- what is seen after them

locked_side : (s : State) → s.core.run.locked ≡ true → is_nonsecure_side (side_of s) ≡ false
locked_side s e = rw e refl

pub locked_seen : (s : State) → s.core.run.locked ≡ true → seen s ≡ Hidden s.bus.board
locked_seen s e = let side = locked_side s e in rw side refl

-- one that looked at Secure state
pub touching_halts : (s0 s : State) (before : Seen) (looked : Bool) (general : List ℕ) (stores : List Store) (p : Passed) → board_seen before ≡ s.bus.board
    → (side_in s0.core ≡ NonSecure → general_seen before ≡ general) → p.ending.touched ≡ true → Halts (side_in s0.core) s.bus.board looked general p → Touching s0 before (with_stores stores p)
touching_halts s0 s before looked general stores p e knows touched h =
    touching_found s0 before (with_stores stores p) touched (e ∙ sym h.board) (h.found before knows touched)

-- one after which Secure code runs
pub touching_secure : (s0 : State) (before : Seen) (e : Ended) → e.ending.touched ≡ true → board_seen before ≡ e.state.bus.board → e.state.core.run.side ≡ Secure → Touching s0 before e
touching_secure s0 before e touched board side = touching_found s0 before e touched board (λ is. absurd (hides_secure e.state.core.run.locked e.state.core.run.side side is))
