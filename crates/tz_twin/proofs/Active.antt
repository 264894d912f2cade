-- The exception that an entry or a tail-chain takes: IPSR is its number, its slot is of its side and active, and code of
-- that side handles it.
use Rattle.std.proofs.Common.{◌≡◌, ℕ, zero, suc, ◌/◌, ◌%◌, ◌==◌, Bool, true, false, ◌&&◌, ◌||◌, not, cond, List, [], ◌∷◌, Option, Some, None, Result, Ok, Err, refl, ap, ◌∙◌, subst}
use Rattle.std.specs.Prelude.{nat_lt, slice_set, slice_index_or}
use Rattle.tz_table.specs.declared.units.Side.{Side}
use Rattle.tz_table.specs.declared.units.Side.TheVariants.{Secure, NonSecure}
use Rattle.tz_model.specs.declared.board.Profile.{Profile}
use Rattle.tz_model.specs.declared.report.Fault.{Fault}
use Rattle.tz_model.specs.declared.report.Fault.TheVariants.{InvPc}
use Rattle.tz_model.specs.declared.report.Slot.{Slot}
use Rattle.tz_regs.specs.declared.parts.Core.{Core}
use Rattle.tz_state.specs.declared.slot.SlotState.{SlotState}
use Rattle.tz_state.specs.Slots.{ExceptionsValue, at, idle, places, index_of, system_side, side_at, slot_at}
use Rattle.tz_state.specs.SlotChanges.{activated}
use Rattle.tz_state.specs.Priority.{is_ready, rank_of, chosen_place, slot_found, chosen}
use Rattle.tz_state.specs.Execution.{takes_first}
use Rattle.tz_frames.specs.FrameAccess.{Vector}
use Rattle.tz_frames.specs.Machine.{Framed, framed}
use Rattle.tz_frames.specs.declared.frame.StackFault.{StackFault}
use Rattle.tz_frames.specs.declared.entering.Entering.{Entering}
use Rattle.tz_frames.specs.declared.entering.Choice.{Choice}
use Rattle.tz_frames.specs.declared.entering.Choice.TheVariants as choices
use Rattle.tz_frames.specs.declared.entering.Entered.{Entered}
use Rattle.tz_frames.specs.declared.entering.Entered.TheVariants as entered
use Rattle.tz_frames.specs.declared.leaving.Returning.{Returning}
use Rattle.tz_frames.specs.declared.leaving.Unstacked.{Unstacked}
use Rattle.tz_frames.specs.declared.leaving.Left.{Left}
use Rattle.tz_frames.specs.declared.leaving.Left.TheVariants as lefts
use Rattle.tz_frames.specs.declared.entering.FrameFault.{FrameFault}
use Rattle.tz_frames.specs.declared.leaving.Refusal.{Refusal}
use Rattle.tz_frames.specs.declared.leaving.Refusal.TheVariants as refusals
use Rattle.tz_frames.specs.Status.{Raised, faulted, frame_faulted}
use Rattle.tz_frames.specs.Stack.{Pushed, pushed_basic, pushed_additional}
use Rattle.tz_frames.specs.Enter.{Work, Chosen, Done, can_be_hard_fault, vector_choice, vectored_by, vectored, vector_failed, vector_touched, needs_additional, with_additional, callee_process, callee_privileged, raised_choice, after_raise, stacked_by, stacked, taking, choosing_from, choosing, locked_up, goes_on, tries, interrupted, begins_raised, begins, enters, without_frame}
use Rattle.tz_frames.specs.Leave.{returning_by, side_of_bit, exc_return_fault, slot_returning, freed, core_returning, chaining, Leaving, left_of, chained, chained_raised, unstacked, modes_agree, resumes, goes_back, leaves_noting, leaves}
use Rattle.tz_nvic.proofs.Least.{least_found}
use Rattle.tz_nvic.proofs.Places.{index_back}
use Rattle.tz_twin.specs.Integrity.{Handles}
use Rattle.tz_twin.proofs.Bytes.{and_first, and_second}

-- ---- the slot

-- of a slot that is chosen: it stands at its place, on its side, and pends
record Waits (e : ExceptionsValue) (given : Slot) : Type 0 where
  pub side : side_at e (index_of given) ≡ given.side
  pub pending : (at e (index_of given)).pending ≡ true

waits_at : (e : ExceptionsValue) (i : ℕ) → is_ready e i ≡ true → Waits e (slot_at e i)
waits_at e i h =
    let back = index_back e i (and_first _ _ h) in
    record { side = ap (side_at e) back; pending = ap (λ (j : ℕ). (at e j).pending) back ∙ and_first _ _ (and_second _ _ h) }

waits_found : (e : ExceptionsValue) (o : Option ℕ) (given : Slot) → chosen_place e ≡ o → slot_found e o ≡ Some given → Waits e given
waits_found e None given p h = cc
waits_found e (Some i) given p h =
    let same : slot_at e i ≡ given = cc in
    subst (λ (x : Slot). Waits e x) same (waits_at e i (least_found (is_ready e) (rank_of e) places i p).is_ready)

waits_chosen : (e : ExceptionsValue) (given : Slot) → chosen e ≡ Some given → Waits e given
waits_chosen e given h = waits_found e (chosen_place e) given refl h

-- one that pends has a place, so what is put there is there
set_there : (xs : List SlotState) (i : ℕ) (r : SlotState) → (slice_index_or xs i idle).pending ≡ true → slice_index_or (slice_set xs i r) i idle ≡ r
set_there [] i r e = cc
set_there (x ∷ xs) zero r e = refl
set_there (x ∷ xs) (suc i) r e = set_there xs i r e

-- it is active once it is taken, and of the same side
record Acts (e : ExceptionsValue) (given : Slot) : Type 0 where
  pub side : side_at e (index_of given) ≡ given.side
  pub active : (at e (index_of given)).active ≡ true

acts_activated : (e : ExceptionsValue) (given : Slot) → Waits e given → Acts (activated e given) given
acts_activated e given h = record { side = same (nat_lt i 32) ∙ h.side; active = ap (λ (q : SlotState). q.active) there } where
  i : ℕ
  i = index_of given

  there : at (activated e given) i ≡ record (at e i) { pending = false; active = true }
  there = set_there e.slots i (record (at e i) { pending = false; active = true }) h.pending

  low : Side
  low = cond (i % 2 == 1) NonSecure (system_side e (i / 2))

  same : (t : Bool) → cond t low (at (activated e given) i).target ≡ cond t low (at e i).target
  same true = refl
  same false = ap (λ (q : SlotState). q.target) there

-- ---- one choice

HandlesBy : Core → ExceptionsValue → Choice → Type 0
HandlesBy c e (choices.Taken given) = Handles given c e
HandlesBy c e choices.Lockup = Unit {0}
HandlesBy c e choices.Again = Unit {0}

abbrev Picks : Chosen Framed → Type 0
Picks a = HandlesBy a.work.core a.work.exceptions a.choice

vectored_by_picks : (profile : Profile) (w : Work Framed) (given : Slot) (r : Result ℕ Fault) → Waits w.exceptions given → Picks (vectored_by profile w given r)
unfolding HandlesBy vector_failed
vectored_by_picks profile w given (Ok vector) h =
    let acts = acts_activated w.exceptions given h in record { number = refl; runs = refl; side = acts.side; active = acts.active }
vectored_by_picks profile w given (Err fault) h = go (can_be_hard_fault w.core w.exceptions given) where
  go : (t : Bool) → HandlesBy (vector_failed w given).work.core (vector_failed w given).work.exceptions (vector_choice t)
  go true = tt
  go false = tt

vectored_picks : (profile : Profile) (w : Work Framed) (given : Slot) → Waits w.exceptions given → Picks (vectored framed profile w given)
unfolding vectored
vectored_picks profile w given h =
    vectored_by_picks profile (record w { entry = vector_touched w.entry given.side }) given (framed w.held (Vector given.number given.side)).1 h

raise_picks : (f : Framed) (x : Entering) (r : Raised) → Picks (after_raise f x r)
unfolding HandlesBy
raise_picks f x r = go r.locks where
  go : (t : Bool) → HandlesBy r.core r.exceptions (raised_choice t)
  go true = tt
  go false = tt

stacked_by_picks : (profile : Profile) (w : Work Framed) (given : Slot) (first : Option FrameFault) (fault : Option StackFault) → Waits w.exceptions given
    → Picks (stacked_by framed profile w given first fault)
stacked_by_picks profile w given None (Some fault) h = raise_picks w.held (without_frame w.entry true fault) (frame_faulted true Secure fault w.core w.exceptions)
stacked_by_picks profile w given (Some first) (Some fault) h = vectored_picks profile w given h
stacked_by_picks profile w given first None h = vectored_picks profile w given h

stacked_picks : (profile : Profile) (w : Work Framed) (given : Slot) (p : Pushed Framed) → Waits w.exceptions given → Picks (stacked framed profile w given p)
stacked_picks profile w given p h =
    stacked_by_picks profile (record w { core = p.core; held = p.held; entry = with_additional w.entry }) given w.entry.frame p.fault h

picks_cond : (t : Bool) (x y : Chosen Framed) → Picks x → Picks y → Picks (cond t x y)
picks_cond true x y p q = p
picks_cond false x y p q = q

taking_picks : (profile : Profile) (w : Work Framed) (given : Slot) → Waits w.exceptions given → Picks (taking framed profile w given)
unfolding taking
taking_picks profile w given h =
    let p = pushed_additional framed w.core w.held (callee_process w.core w.entry) (callee_privileged w.core w.entry) in
    let v : Work Framed = record w { entry = record w.entry { needed_additional = w.entry.needed_additional || needs_additional w.entry given } } in
    picks_cond (needs_additional w.entry given && not w.entry.skip) (stacked framed profile w given p) (vectored framed profile v given)
    (stacked_picks profile w given p h) (vectored_picks profile v given h)

choosing_from_picks : (profile : Profile) (w : Work Framed) (first : Option Slot) → chosen w.exceptions ≡ first → Picks (choosing_from framed profile w first)
unfolding HandlesBy
choosing_from_picks profile w None h = tt
choosing_from_picks profile w (Some given) h = taking_picks profile w given (waits_chosen w.exceptions given h)

choosing_picks : (profile : Profile) (w : Work Framed) → Picks (choosing framed profile w)
unfolding choosing
choosing_picks profile w = choosing_from_picks profile w (chosen w.exceptions) refl

-- ---- the choices

-- what an entry ends in
abbrev pub EnteredHandles : Core → ExceptionsValue → Entered → Type 0
EnteredHandles c e (entered.Taken given entry) = Handles given c e
EnteredHandles c e (entered.Lockup entry) = Unit {0}

abbrev Ends : Done Framed → Type 0
Ends d = EnteredHandles d.core d.exceptions d.result

goes_on_ends : (again : Work Framed → Done Framed) (w : Work Framed) (choice : Choice) → HandlesBy w.core w.exceptions choice → ((v : Work Framed) → Ends (again v)) → Ends (goes_on again w choice)
unfolding HandlesBy
goes_on_ends again w (choices.Taken given) h more = h
goes_on_ends again w choices.Lockup h more = tt
goes_on_ends again w choices.Again h more = more w

tries_ends : (profile : Profile) (n : ℕ) (w : Work Framed) → Ends (tries framed profile n w)
unfolding tries
tries_ends profile zero w = tt
tries_ends profile (suc n) w =
    goes_on_ends (tries framed profile n) (choosing framed profile w).work (choosing framed profile w).choice (choosing_picks profile w) (tries_ends profile n)

-- ---- entry

ends_cond : (t : Bool) (x y : Done Framed) → Ends x → Ends y → Ends (cond t x y)
ends_cond true x y p q = p
ends_cond false x y p q = q

begins_raised_ends : (profile : Profile) (f : Framed) (x : Entering) (r : Raised) → Ends (begins_raised framed profile f x r)
begins_raised_ends profile f x r =
    let w : Work Framed = record { core = r.core; exceptions = r.exceptions; held = f; entry = x } in
    ends_cond r.locks (locked_up w) (tries framed profile 4 w) tt (tries_ends profile 4 w)

begins_ends : (profile : Profile) (side : Side) (e : ExceptionsValue) (x : Entering) (c : Core) (f : Framed) (fault : Option StackFault)
    → Ends (begins framed profile side e x c f fault)
begins_ends profile side e x c f None = tries_ends profile 4 (record { core = c; exceptions = e; held = f; entry = x })
begins_ends profile side e x c f (Some fault) = begins_raised_ends profile f (without_frame x false fault) (frame_faulted true side fault c e)

pub enters_handles : (profile : Profile) (c : Core) (e : ExceptionsValue) (f : Framed) (back : ℕ)
    → let d = enters framed profile c e f back in EnteredHandles d.core d.exceptions d.result
unfolding enters
enters_handles profile c e f back =
    let p = pushed_basic framed c f back in begins_ends profile c.run.side e (interrupted c) p.core p.held p.fault

-- ---- return

-- what a return ends in, where it is a tail-chain
abbrev pub LeftHandles : Core → ExceptionsValue → Left → Type 0
LeftHandles c e (lefts.Chained given refused entry) = Handles given c e
LeftHandles c e (lefts.Resumed touched) = Unit {0}
LeftHandles c e (lefts.Lockup refused entry) = Unit {0}

abbrev Leaves : Leaving Framed → Type 0
Leaves l = LeftHandles l.core l.exceptions l.result

entered_left : (refused : Option Refusal) (c : Core) (e : ExceptionsValue) (x : Entered) → EnteredHandles c e x → LeftHandles c e (left_of refused x)
entered_left refused c e (entered.Taken given entry) h = h
entered_left refused c e (entered.Lockup entry) h = tt

leaves_cond : (t : Bool) (x y : Leaving Framed) → Leaves x → Leaves y → Leaves (cond t x y)
leaves_cond true x y p q = p
leaves_cond false x y p q = q

chained_leaves : (profile : Profile) (r : Returning) (refused : Option Refusal) (touched : Bool) (c : Core) (e : ExceptionsValue) (f : Framed) → Leaves (chained framed profile r refused touched c e f)
unfolding chained
chained_leaves profile r refused touched c e f =
    let w : Work Framed = record { core = c; exceptions = e; held = f; entry = chaining r touched } in
    let d = tries framed profile 4 w in
    entered_left refused d.core d.exceptions d.result (tries_ends profile 4 w)

raised_leaves : (profile : Profile) (r : Returning) (refusal : Refusal) (touched : Bool) (f : Framed) (raised : Raised) → Leaves (chained_raised framed profile r refusal touched f raised)
raised_leaves profile r refusal touched f raised =
    leaves_cond raised.locks _ (chained framed profile r (Some refusal) touched raised.core raised.exceptions f) tt
    (chained_leaves profile r (Some refusal) touched raised.core raised.exceptions f)

resumes_leaves : (profile : Profile) (r : Returning) (c : Core) (e : ExceptionsValue) (f : Framed) (u : Result Unstacked StackFault)
    → Leaves (resumes framed profile r c e f u)
resumes_leaves profile r c e f (Err fault) = raised_leaves profile r (refusals.Frame fault) r.secure f (frame_faulted false (side_of_bit r.secure) fault c e)
resumes_leaves profile r c e f (Ok u) =
    let raised = faulted (side_of_bit r.secure) (InvPc (side_of_bit r.secure)) c e in
    leaves_cond (modes_agree r u.basic) _ (chained_raised framed profile r (refusals.Mode (side_of_bit r.secure)) r.secure f raised) tt (raised_leaves profile r (refusals.Mode (side_of_bit r.secure)) r.secure f raised)

goes_back_leaves : (profile : Profile) (r : Returning) (c : Core) (e : ExceptionsValue) (f : Framed) → Leaves (goes_back framed profile r c e f)
unfolding goes_back
goes_back_leaves profile r c e f =
    leaves_cond (takes_first e c.masks) (chained framed profile r None false c e f) (resumes framed profile r c e f (unstacked framed c r f))
    (chained_leaves profile r None false c e f) (resumes_leaves profile r c e f (unstacked framed c r f))

noting_leaves : (profile : Profile) (side : Side) (fault : Option Fault) (r : Returning) (c : Core) (e : ExceptionsValue) (f : Framed)
    → Leaves (leaves_noting framed profile side fault r c e f)
noting_leaves profile side (Some fault) r c e f = raised_leaves profile r (refusals.Value fault) false f (faulted side fault c e)
noting_leaves profile side None r c e f = goes_back_leaves profile r c e f

pub leaves_handles : (profile : Profile) (c : Core) (e : ExceptionsValue) (f : Framed) (value : ℕ)
    → let l = leaves framed profile c e f value in LeftHandles l.core l.exceptions l.result
unfolding leaves
leaves_handles profile c e f value =
    let r = returning_by c.run.side value in
    noting_leaves profile c.run.side (exc_return_fault c e value) r (core_returning e r c) (freed e (slot_returning c r)) f
