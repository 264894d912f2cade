-- Entries and returns of Non-secure code in two runs: twins go on as twins, both lock, or both looked at Secure state.
use Rattle.std.proofs.Common.{◌≡◌, ℕ, Bool, true, false, ◌||◌, cond, List, Option, Some, None, refl, sym, ◌∙◌, subst, inr}
use Rattle.tz_table.specs.declared.units.Side.TheVariants.{Secure, NonSecure}
use Rattle.tz_table.specs.declared.units.Code.{Code}
use Rattle.tz_model.specs.declared.report.Fault.{Fault}
use Rattle.tz_model.specs.declared.report.Fault.TheVariants as faults_of
use Rattle.tz_model.specs.declared.report.Store.{Store}
use Rattle.tz_regs.specs.declared.parts.Core.{Core}
use Rattle.tz_regs.specs.declared.parts.Registers.{Registers}
use Rattle.tz_regs.specs.ItState.{it_advanced}
use Rattle.tz_state.specs.State.{State, is_privileged_in}
use Rattle.tz_frames.specs.Machine.{Framed}
use Rattle.tz_frames.specs.declared.entering.Entered.{Entered}
use Rattle.tz_frames.specs.declared.entering.Entered.TheVariants as entered
use Rattle.tz_frames.specs.declared.leaving.Left.{Left}
use Rattle.tz_frames.specs.declared.leaving.Left.TheVariants as left
use Rattle.tz_frames.specs.Status.{Raised, faulted}
use Rattle.tz_frames.specs.Enter.{Done}
use Rattle.tz_frames.specs.Leave.{Leaving}
use Rattle.tz_sem.specs.declared.ending.Handling.{Handling}
use Rattle.tz_sem.specs.declared.ending.Cause.{Cause}
use Rattle.tz_sem.specs.declared.ending.Cause.TheVariants as causes
use Rattle.tz_sem.specs.declared.ending.Course.{Course}
use Rattle.tz_sem.specs.Ended.{Passed, with_stores}
use Rattle.tz_sem.specs.Taking.{state_of, locks, taken_by, after_entry, preempted, goes_on_at, passed_by, after_raise, faults, left_by, after_return, returns, by_entry, by_value, with_fault}
use Rattle.tz_sem.specs.Exchange.{comes_back}
use Rattle.tz_sem.specs.Exec.{released}
use Rattle.tz_twin.specs.Seen.{public_of, Seen, Shown}
use Rattle.tz_twin.proofs.Split.{Open, Rest, join_bus, join, Same, twins_join, board_seen, seen_of_twins}
use Rattle.tz_twin.proofs.Both.{Kept, Stops, Arrives, Both, Go, Stop, Touch, both_handling}
use Rattle.tz_twin.proofs.Faults.{is_own}
use Rattle.tz_twin.proofs.EntrySpares.{entered_touched}
use Rattle.tz_twin.proofs.ReturnSpares.{left_touched}
use Rattle.tz_twin.proofs.Works.{Ground, Guise, RaisedTwins, done_of, locks_up, DoneBoth, EntersAlike, EntersLocked, EntersLooking, leaving_of, leaves_locked, LeavingBoth, LeavesAlike, LeavesLocked, LeavesLooking}
use Rattle.tz_twin.proofs.FaultTwins.{faulted_twins}
use Rattle.tz_twin.proofs.EntryTwins.{enters_twins}
use Rattle.tz_twin.proofs.ReturnTwins.{leaves_twins}
use Rattle.tz_twin.proofs.Halting.{touching_halts}
use Rattle.tz_twin.proofs.Keeping.{kept_locked, kept_passed, kept_fault, Passes, passes_preempted, passes_returns, passes_comes_back}

-- ---- both lock, or both looked at Secure state

both_stop : (o : Open) (x x' : Rest) (looked : Bool) (general : List ℕ) (stores : List Store) (a a' : Passed) → Passes (join o x) looked general a → Passes (join o x') looked general a'
    → a.state.core.run.locked ≡ true → a'.state.core.run.locked ≡ true → Both (join o x) (join o x') (with_stores stores a) (with_stores stores a')
both_stop o x x' looked general stores a a' h h' l l' =
    Stop (record { locked = l; board = h.halts.board; kept = h.kept }) (record { locked = l'; board = h'.halts.board; kept = h'.kept })

arrives_passed : (o : Open) (x : Rest) (looked : Bool) (general : List ℕ) (stores : List Store) (a : Passed) → Passes (join o x) looked general a → Arrives (join o x) (with_stores stores a)
arrives_passed o x looked general stores a h secure unlocked = inr (h.comes secure unlocked)

-- what is seen of twins, with other registers
seen_with : Open → Registers → Rest → Seen
seen_with q r z = Shown q.board r (public_of (join q z))

same_seen : (q : Open) (z z' : Rest) (r : Registers) → Same q z z' → seen_with q r z ≡ seen_with q r z'
unfolding seen_with
same_seen q z z' r same =
    let o : Open = record q { registers = r } in seen_of_twins (join o z) (join o z') (twins_join o z z' (record { bytes = same.bytes; bus = same.bus }))

-- both began what they ended in from twins with these registers
both_touch : (o q : Open) (x x' z z' : Rest) (r : Registers) (looked : Bool) (stores : List Store) (a a' : Passed) → Same q z z' → q.board ≡ o.board
    → Passes (join o x) looked r.general a → Passes (join o x') looked r.general a' → a.ending.touched ≡ true → a'.ending.touched ≡ true
    → Both (join o x) (join o x') (with_stores stores a) (with_stores stores a')
unfolding seen_with board_seen
both_touch o q x x' z z' r looked stores a a' same board h h' t t' =
    Touch (seen_with q r z) (seen_with q r z') (same_seen q z z' r same) (touching_halts (join o x) (join o x) (seen_with q r z) looked r.general stores a board (λ e. refl) t h.halts)
    (touching_halts (join o x') (join o x') (seen_with q r z') looked r.general stores a' board (λ e. refl) t' h'.halts) (arrives_passed o x looked r.general stores a h)
    (arrives_passed o x' looked r.general stores a' h')

-- ---- ends of twins

-- with the monitor cleared
same_released : (part : Open) (rest rest' : Rest) → Same part rest rest' → Same (record part { monitor = None }) rest rest'
same_released part rest rest' same = record { bytes = same.bytes; bus = same.bus }

-- an exception was taken or returned, with a look at Secure state or without
both_released : (o q part : Open) (x x' z z' rest rest' : Rest) (r : Registers) (before looked : Bool) (cause : Cause) (ran : Option Code) (handling : Option Handling) (stores : List Store) → Same q z z' → q.board ≡ o.board → Same part rest rest'
    → Passes (join o x) before r.general (record { state = released (join part rest); ending = record { touched = looked; cause = cause; ran = ran; handling = handling } })
    → Passes (join o x') before r.general (record { state = released (join part rest'); ending = record { touched = looked; cause = cause; ran = ran; handling = handling } })
    → Both (join o x) (join o x') (record { state = released (join part rest); stores = stores; ending = record { touched = looked; cause = cause; ran = ran; handling = handling } })
    (record { state = released (join part rest'); stores = stores; ending = record { touched = looked; cause = cause; ran = ran; handling = handling } })
both_released o q part x x' z z' rest rest' r before true cause ran handling stores same board alike h h' =
    both_touch o q x x' z z' r before stores (record { state = released (join part rest); ending = record { touched = true; cause = cause; ran = ran; handling = handling } })
    (record { state = released (join part rest'); ending = record { touched = true; cause = cause; ran = ran; handling = handling } }) same board h h' refl refl
both_released o q part x x' z z' rest rest' r before false cause ran handling stores same board alike h h' =
    Go (record {
      twins = twins_join (record part { monitor = None }) rest rest' (same_released part rest rest' alike);
      ending = refl;
      stores = refl;
      kept = h.kept refl;
      kept' = h'.kept refl;
    })

-- ---- entry

locks_taken : (s : State) (course : Course) (result : Entered) → locks_up result ≡ true → (taken_by s course result).state.core.run.locked ≡ true
locks_taken s course (entered.Taken given entry) e = cc
locks_taken s course (entered.Lockup entry) e = refl

or_second : (p q : Bool) → q ≡ true → (p || q) ≡ true
or_second true q e = refl
or_second false q e = e

looks_taken : (s : State) (course : Course) (result : Entered) → entered_touched result ≡ true → (taken_by s course result).ending.touched ≡ true
looks_taken s course (entered.Taken given entry) e = or_second course.touched entry.touched e
looks_taken s course (entered.Lockup entry) e = or_second course.touched entry.touched e

entered_alike : (o q part : Open) (x x' z z' rest rest' : Rest) (r : Registers) (course : Course) (stores : List Store) (k : Ground) (g g' : Guise) (result : Entered) → Same q z z' → q.board ≡ o.board → Same part rest rest'
    → Passes (join o x) course.touched r.general (after_entry course (done_of part rest k g result)) → Passes (join o x') course.touched r.general (after_entry course (done_of part rest' k g' result))
    → Both (join o x) (join o x') (with_stores stores (after_entry course (done_of part rest k g result))) (with_stores stores (after_entry course (done_of part rest' k g' result)))
entered_alike o q part x x' z z' rest rest' r course stores k g g' (entered.Taken given entry) same board alike h h' =
    both_released o q part x x' z z' rest rest' r course.touched (course.touched || entry.touched) causes.Taken None (Some (by_entry entry)) stores same board alike h h'
entered_alike o q part x x' z z' rest rest' r course stores k g g' (entered.Lockup entry) same board alike h h' = both_stop o x x' course.touched r.general stores _ _ h h' refl refl

entered_both : (o q : Open) (x x' z z' : Rest) (r : Registers) (course : Course) (stores : List Store) (d d' : Done Framed) → Same q z z' → q.board ≡ o.board
    → Passes (join o x) course.touched r.general (after_entry course d) → Passes (join o x') course.touched r.general (after_entry course d') → DoneBoth d d'
    → Both (join o x) (join o x') (with_stores stores (after_entry course d)) (with_stores stores (after_entry course d'))
entered_both o q x x' z z' r course stores d d' same board h h' (EntersLooking t t') =
    both_touch o q x x' z z' r course.touched stores _ _ same board h h' (looks_taken (state_of d.core d.exceptions d.held.bus) course d.result t)
    (looks_taken (state_of d'.core d'.exceptions d'.held.bus) course d'.result t')
entered_both o q x x' z z' r course stores d d' same board h h' (EntersLocked l l') =
    both_stop o x x' course.touched r.general stores _ _ h h' (locks_taken (state_of d.core d.exceptions d.held.bus) course d.result l)
    (locks_taken (state_of d'.core d'.exceptions d'.held.bus) course d'.result l')
entered_both o q x x' z z' r course stores d d' same board h h' (EntersAlike a) =
    subst (λ (e : Done Framed). Goal e d') (sym a.ends)
    (subst (λ (e' : Done Framed). Goal (done_of a.part a.rest a.ground a.guise a.result) e') (sym a.ends')
    (λ p p'. entered_alike o q a.part x x' z z' a.rest a.rest' r course stores a.ground a.guise a.guise' a.result same board a.same p p')) h h'
  where
    Goal : Done Framed → Done Framed → Type 0
    Goal e e' =
        Passes (join o x) course.touched r.general (after_entry course e) → Passes (join o x') course.touched r.general (after_entry course e')
        → Both (join o x) (join o x') (with_stores stores (after_entry course e)) (with_stores stores (after_entry course e'))

ground_of : Open → Bool → Ground
ground_of p negative = record { vtor_ns = p.status_ns.vtor; negative = negative }

guise_of : Open → Rest → Guise
guise_of p y = record { vtor_s = y.status_s.vtor; secure_privileged = is_privileged_in Secure (join p y).core }

pub preempted_both : (o p : Open) (x x' y y' : Rest) (course : Course) (back : ℕ) (stores : List Store) → Same p y y' → Kept (join o x) (join p y) → Kept (join o x') (join p y')
    → Both (join o x) (join o x') (with_stores stores (preempted (join p y) course back)) (with_stores stores (preempted (join p y') course back))
unfolding preempted ground_of guise_of
preempted_both o p x x' y y' course back stores same k k' =
    entered_both o p x x' y y' p.registers course stores _ _ same k.keeps.board (passes_preempted (join o x) (join p y) course back refl k) (passes_preempted (join o x') (join p y') course back refl k')
    (enters_twins p.board.profile p y y' (ground_of p course.negative) (guise_of p y) (guise_of p y') back same)

-- ---- a fault

-- behind SVC in its IT block
passed_open : Fault → Open → Open
passed_open faults_of.Call p = record p { registers = record p.registers { it = it_advanced p.registers.it } }
passed_open _ p = p

passed_join : (fault : Fault) (p : Open) (y : Rest) → state_of (passed_by fault (join p y).core) p.exceptions (join_bus p y) ≡ join (passed_open fault p) y
unfolding passed_open
passed_join faults_of.Call p y = refl
passed_join _ p y = refl

same_passed : (fault : Fault) (p : Open) (y y' : Rest) → Same p y y' → Same (passed_open fault p) y y'
unfolding passed_open
same_passed faults_of.Call p y y' same = record { bytes = same.bytes; bus = same.bus }
same_passed _ p y y' same = same

stops_locks : (s0 s : State) (touched : Bool) (handling : Option Handling) (stores : List Store) → Kept s0 s → Stops s0 (with_stores stores (locks s touched handling))
stops_locks s0 s touched handling stores k = record { locked = refl; board = k.keeps.board; kept = λ e. kept_locked s0 s k }

-- the code behind a fault is interrupted
raised_entry : (o p : Open) (x x' y y' : Rest) (course : Course) (fault : Fault) (back : ℕ) (stores : List Store) (r r' : Raised) → RaisedTwins p y y' r r'
    → Kept (join o x) (state_of (passed_by fault r.core) r.exceptions (join_bus p y)) → Kept (join o x') (state_of (passed_by fault r'.core) r'.exceptions (join_bus p y'))
    → Both (join o x) (join o x') (with_stores stores (preempted (state_of (passed_by fault r.core) r.exceptions (join_bus p y)) course back))
    (with_stores stores (preempted (state_of (passed_by fault r'.core) r'.exceptions (join_bus p y')) course back))
raised_entry o p x x' y y' course fault back stores r r' t k k' =
    subst (λ (s : State). Goal s (state_of (passed_by fault r'.core) r'.exceptions (join_bus p y'))) (sym here)
    (subst (λ (s' : State). Goal (join (passed_open fault t.part) t.rest) s') (sym there)
    (λ h h'. preempted_both o (passed_open fault t.part) x x' t.rest t.rest' course back stores (same_passed fault t.part t.rest t.rest' t.same) h h')) k k'
  where
    Goal : State → State → Type 0
    Goal s s' =
        Kept (join o x) s → Kept (join o x') s' → Both (join o x) (join o x') (with_stores stores (preempted s course back)) (with_stores stores (preempted s' course back))

    here : state_of (passed_by fault r.core) r.exceptions (join_bus p y) ≡ join (passed_open fault t.part) t.rest
    here = (λ i. state_of (passed_by fault (t.core i)) (t.exceptions i) (t.bus i)) ∙ passed_join fault t.part t.rest

    there : state_of (passed_by fault r'.core) r'.exceptions (join_bus p y') ≡ join (passed_open fault t.part) t.rest'
    there = (λ i. state_of (passed_by fault (t.core' i)) (t.exceptions' i) (t.bus' i)) ∙ passed_join fault t.part t.rest'

raised_both : (o p : Open) (x x' y y' : Rest) (course : Course) (fault : Fault) (stores : List Store) (r r' : Raised) → RaisedTwins p y y' r r' → Kept (join o x) (state_of r.core r.exceptions (join_bus p y))
    → Kept (join o x') (state_of r'.core r'.exceptions (join_bus p y')) → Both (join o x) (join o x') (with_stores stores (after_raise (join p y) course fault r)) (with_stores stores (after_raise (join p y') course fault r'))
raised_both o p x x' y y' course fault stores r r' t k k' = go r.locks r'.locks t.locks where
  back : ℕ
  back = goes_on_at fault p.registers.pc

  locked : Raised → Rest → Passed
  locked q z = locks (state_of q.core q.exceptions (join_bus p z)) course.touched None

  entry : Raised → Rest → Passed
  entry q z = preempted (state_of (passed_by fault q.core) q.exceptions (join_bus p z)) course back

  go : (l l' : Bool) → l ≡ l' → Both (join o x) (join o x') (with_stores stores (cond l (locked r y) (entry r y))) (with_stores stores (cond l' (locked r' y') (entry r' y')))
  go true true e = Stop (stops_locks (join o x) _ course.touched None stores k) (stops_locks (join o x') _ course.touched None stores k')
  go false false e =
      raised_entry o p x x' y y' course fault back stores r r' t (kept_passed (join o x) fault r.core r.exceptions (join_bus p y) k) (kept_passed (join o x') fault r'.core r'.exceptions (join_bus p y') k')
  go true false e = cc
  go false true e = cc

pub faults_both : (o p : Open) (x x' y y' : Rest) (course : Course) (fault : Fault) (stores : List Store) → is_own fault ≡ true → Same p y y' → Kept (join o x) (join p y) → Kept (join o x') (join p y')
    → Both (join o x) (join o x') (with_stores stores (faults (join p y) course fault)) (with_stores stores (faults (join p y') course fault))
unfolding faults
faults_both o p x x' y y' course fault stores own same k k' =
    let r = faulted NonSecure fault (join p y).core p.exceptions in
    let r' = faulted NonSecure fault (join p y').core p.exceptions in
    both_handling (join o x) (join o x') stores (with_fault fault) (after_raise (join p y) course fault r) (after_raise (join p y') course fault r')
    (raised_both o p x x' y y' course fault stores r r' (faulted_twins p y y' fault own same) (kept_fault (join o x) (join p y) fault refl own k)
    (kept_fault (join o x') (join p y') fault refl own k'))

-- ---- a return

locks_left : (s : State) (course : Course) (code : Code) (value : ℕ) (result : Left) → leaves_locked result ≡ true → (left_by s course code value result).state.core.run.locked ≡ true
locks_left s course code value (left.Resumed touched) e = cc
locks_left s course code value (left.Chained given refused entry) e = cc
locks_left s course code value (left.Lockup refused entry) e = refl

looks_left : (s : State) (course : Course) (code : Code) (value : ℕ) (result : Left) → left_touched result ≡ true → (left_by s course code value result).ending.touched ≡ true
looks_left s course code value (left.Resumed touched) e = or_second course.touched touched e
looks_left s course code value (left.Chained given refused entry) e = or_second course.touched entry.touched e
looks_left s course code value (left.Lockup refused entry) e = or_second course.touched entry.touched e

left_alike : (o q part : Open) (x x' z z' rest rest' : Rest) (r : Registers) (course : Course) (code : Code) (value : ℕ) (stores : List Store) (k : Ground) (g g' : Guise) (result : Left) → Same q z z' → q.board ≡ o.board
    → Same part rest rest' → Passes (join o x) course.touched r.general (after_return course code value (leaving_of part rest k g result))
    → Passes (join o x') course.touched r.general (after_return course code value (leaving_of part rest' k g' result))
    → Both (join o x) (join o x') (with_stores stores (after_return course code value (leaving_of part rest k g result))) (with_stores stores (after_return course code value (leaving_of part rest' k g' result)))
left_alike o q part x x' z z' rest rest' r course code value stores k g g' (left.Resumed touched) same board alike h h' =
    both_released o q part x x' z z' rest rest' r course.touched (course.touched || touched) causes.Resumed (Some code) (Some (by_value value None None)) stores same board alike h h'
left_alike o q part x x' z z' rest rest' r course code value stores k g g' (left.Chained given refused entry) same board alike h h' =
    both_released o q part x x' z z' rest rest' r course.touched (course.touched || entry.touched) causes.Taken None (Some (by_value value refused (Some entry))) stores same board alike h h'
left_alike o q part x x' z z' rest rest' r course code value stores k g g' (left.Lockup refused entry) same board alike h h' = both_stop o x x' course.touched r.general stores _ _ h h' refl refl

left_both : (o q : Open) (x x' z z' : Rest) (r : Registers) (course : Course) (code : Code) (value : ℕ) (stores : List Store) (l l' : Leaving Framed) → Same q z z' → q.board ≡ o.board
    → Passes (join o x) course.touched r.general (after_return course code value l) → Passes (join o x') course.touched r.general (after_return course code value l') → LeavingBoth l l'
    → Both (join o x) (join o x') (with_stores stores (after_return course code value l)) (with_stores stores (after_return course code value l'))
left_both o q x x' z z' r course code value stores l l' same board h h' (LeavesLooking t t') =
    both_touch o q x x' z z' r course.touched stores _ _ same board h h' (looks_left (state_of l.core l.exceptions l.held.bus) course code value l.result t)
    (looks_left (state_of l'.core l'.exceptions l'.held.bus) course code value l'.result t')
left_both o q x x' z z' r course code value stores l l' same board h h' (LeavesLocked t t') =
    both_stop o x x' course.touched r.general stores _ _ h h' (locks_left (state_of l.core l.exceptions l.held.bus) course code value l.result t)
    (locks_left (state_of l'.core l'.exceptions l'.held.bus) course code value l'.result t')
left_both o q x x' z z' r course code value stores l l' same board h h' (LeavesAlike a) =
    subst (λ (e : Leaving Framed). Goal e l') (sym a.ends)
    (subst (λ (e' : Leaving Framed). Goal (leaving_of a.part a.rest a.ground a.guise a.result) e') (sym a.ends')
    (λ p p'. left_alike o q a.part x x' z z' a.rest a.rest' r course code value stores a.ground a.guise a.guise' a.result same board a.same p p')) h h'
  where
    Goal : Leaving Framed → Leaving Framed → Type 0
    Goal e e' =
        Passes (join o x) course.touched r.general (after_return course code value e) → Passes (join o x') course.touched r.general (after_return course code value e')
        → Both (join o x) (join o x') (with_stores stores (after_return course code value e)) (with_stores stores (after_return course code value e'))

-- Non-secure code returns by an instruction that looked at nothing Secure
pub returns_both : (o p : Open) (x x' y y' : Rest) (course : Course) (code : Code) (value : ℕ) (stores : List Store) → course.touched ≡ false → Same p y y' → Kept (join o x) (join p y) → Kept (join o x') (join p y')
    → Both (join o x) (join o x') (with_stores stores (returns (join p y) course code value)) (with_stores stores (returns (join p y') course code value))
unfolding returns ground_of guise_of
returns_both o p x x' y y' course code value stores quiet same k k' =
    left_both o p x x' y y' p.registers course code value stores _ _ same k.keeps.board (passes_returns (join o x) (join p y) course code value quiet refl k)
    (passes_returns (join o x') (join p y') course code value quiet refl k') (leaves_twins p.board.profile p y y' (ground_of p course.negative) (guise_of p y) (guise_of p y') value same)

-- ---- FNC_RETURN

-- both look at Secure state; where it faults, both have the registers before the instruction
pub comes_back_both : (o p : Open) (x x' y y' : Rest) (r : Registers) (before before' : Core) (course : Course) (code : Code) (value : ℕ) (stores : List Store) → before.registers ≡ r → before'.registers ≡ r → Same p y y' → p.board ≡ o.board
    → p.registers.ipsr ≡ o.registers.ipsr → y.stacks_s ≡ x.stacks_s → y'.stacks_s ≡ x'.stacks_s → Both (join o x) (join o x') (with_stores stores (comes_back before (join p y) course code value)) (with_stores stores (comes_back before' (join p y') course code value))
comes_back_both o p x x' y y' r before before' course code value stores is is' same board ipsr stacks stacks' =
    both_touch o p x x' y y' r true stores _ _ same board h h' (h.halts.touched refl) (h'.halts.touched refl)
  where
    h : Passes (join o x) true r.general (comes_back before (join p y) course code value)
    h =
        subst (λ (b : Registers). Passes (join o x) true b.general (comes_back before (join p y) course code value)) is
        (passes_comes_back (join o x) (join p y) before course code value board ipsr stacks)

    h' : Passes (join o x') true r.general (comes_back before' (join p y') course code value)
    h' =
        subst (λ (b : Registers). Passes (join o x') true b.general (comes_back before' (join p y') course code value)) is'
        (passes_comes_back (join o x') (join p y') before' course code value board ipsr stacks')
