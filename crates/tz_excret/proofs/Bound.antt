-- Why three choices are enough. One that is made again has written the additional frame, which is written once, or has
-- made a HardFault pend; and then NMI or a HardFault comes first, whose vector is the last that is read.
use Rattle.std.proofs.Common.{◌≡◌, ◌⊎◌, inl, inr, ℕ, zero, suc, ◌+◌, ◌*◌, ◌<◌, ◌≤◌, Bool, true, false, ◌&&◌, ◌||◌, not, cond, List, [], ◌∷◌, Option, Some, None, Result, Ok, Err, refl, sym, ap, ◌∙◌, subst, arith}
use Rattle.std.specs.Prelude.{◌==◌, length, slice_set, slice_index_or}
use Rattle.std.proofs.lemmas.List.{length-set, get_or-set_same}
use Rattle.tz_table.specs.declared.units.Side.{Side}
use Rattle.tz_table.specs.declared.units.Side.TheVariants.{Secure, NonSecure}
use Rattle.tz_model.specs.declared.board.Profile.{Profile}
use Rattle.tz_model.specs.declared.report.Fault.{Fault}
use Rattle.tz_model.specs.declared.report.Slot.{Slot}
use Rattle.tz_regs.specs.declared.parts.Core.{Core}
use Rattle.tz_state.specs.declared.slot.SlotState.{SlotState}
use Rattle.tz_state.specs.declared.taken.Taken.{Taken}
use Rattle.tz_state.specs.declared.taken.Taken.TheVariants.{AsIs, Hard, Lockup}
use Rattle.tz_state.specs.Slots.{ExceptionsValue, idle, at, places, index_of, exception_number, slot_at}
use Rattle.tz_state.specs.SlotChanges.{pended}
use Rattle.tz_state.specs.Priority.{priority_of, subpriority_of, rank_of, is_ready, chosen_place, slot_found, chosen}
use Rattle.tz_state.specs.Escalation.{hard_side, escalated}
use Rattle.tz_nvic.proofs.Least.{least_found}
use Rattle.tz_frames.specs.FrameAccess.{FrameAnswering, Vector}
use Rattle.tz_frames.specs.declared.frame.StackFault.{StackFault}
use Rattle.tz_frames.specs.declared.entering.FrameFault.{FrameFault}
use Rattle.tz_frames.specs.declared.entering.Choice.{Choice}
use Rattle.tz_frames.specs.declared.entering.Choice.TheVariants as choices
use Rattle.tz_frames.specs.Status.{slot, with_status, frame_status, frame_exception, raised_as}
use Rattle.tz_frames.specs.Stack.{Pushed, pushed_additional}
use Rattle.tz_frames.specs.Enter.{Work, Chosen, Done, is_last_resort, vector_choice, vector_failed, vectored_by, vectored, vector_touched, needs_additional, with_additional, callee_process, callee_privileged, stacked_by, taking, choosing_from, choosing, goes_on, tries}

-- ---- slots

-- each slot has its place
abbrev Placed : ExceptionsValue → Type 0
Placed e = length e.slots ≡ places

-- a HardFault pends, of either side
abbrev Hardened : ExceptionsValue → Type 0
Hardened e = ((at e 6).pending ≡ true) ⊎ ((at e 7).pending ≡ true)

still_pending : (xs : List SlotState) (i j : ℕ) (r : SlotState) → r.pending ≡ true → (slice_index_or xs j idle).pending ≡ true → (slice_index_or (slice_set xs i r) j idle).pending ≡ true
still_pending [] i j r e h = h
still_pending (x ∷ xs) zero zero r e h = e
still_pending (x ∷ xs) zero (suc j) r e h = h
still_pending (x ∷ xs) (suc i) zero r e h = h
still_pending (x ∷ xs) (suc i) (suc j) r e h = still_pending xs i j r e h

placed_pended : (e : ExceptionsValue) (given : Slot) → Placed e → Placed (pended e given)
placed_pended e given h = length-set e.slots (index_of given) (record (at e (index_of given)) { pending = true }) ∙ h

hardened_pended : (e : ExceptionsValue) (given : Slot) → Hardened e → Hardened (pended e given)
hardened_pended e given (inl h) = inl (still_pending e.slots (index_of given) 6 (record (at e (index_of given)) { pending = true }) refl h)
hardened_pended e given (inr h) = inr (still_pending e.slots (index_of given) 7 (record (at e (index_of given)) { pending = true }) refl h)

now_pending : (e : ExceptionsValue) (i : ℕ) → i < length e.slots → (slice_index_or (slice_set e.slots i (record (at e i) { pending = true })) i idle).pending ≡ true
now_pending e i h = ap (λ (s : SlotState). s.pending) (get_or-set_same e.slots i (record (at e i) { pending = true }) idle h)

hard_pended : (e : ExceptionsValue) (side : Side) → Placed e → Hardened (pended e (slot 3 side))
hard_pended e Secure h = inl (now_pending e 6 (omega (arith, h)))
hard_pended e NonSecure h = inr (now_pending e 7 (omega (arith, h)))

-- ---- what comes first where a HardFault pends

rank_high : (e : ExceptionsValue) (i : ℕ) → (exception_number i == 2) ≡ false → (exception_number i == 3) ≡ false → 524288 ≤ rank_of e i
unfolding rank_of priority_of
rank_high e i p q = rw (p, q) (omega arith)

hard_below : (t : Bool) → (cond t 1 3 * 256 + 0) * 512 + 6 ≤ 393223
hard_below true = omega arith
hard_below false = omega arith

rank_secure : (e : ExceptionsValue) → rank_of e 6 ≤ 393223
unfolding rank_of priority_of subpriority_of
rank_secure e = hard_below e.bfhfnmins

rank_nonsecure : (e : ExceptionsValue) → rank_of e 7 ≤ 393223
unfolding rank_of priority_of subpriority_of
rank_nonsecure e = omega arith

-- the place of NMI or of a HardFault
abbrev IsLast : ℕ → Type 0
IsLast i = (exception_number i == 2 || exception_number i == 3) ≡ true

low_is_last : (e : ExceptionsValue) (i : ℕ) → rank_of e i ≤ 393223 → IsLast i
low_is_last e i h = go (exception_number i == 2) (exception_number i == 3) refl refl where
  go : (t u : Bool) → (exception_number i == 2) ≡ t → (exception_number i == 3) ≡ u → (t || u) ≡ true
  go true u p q = refl
  go false true p q = refl
  go false false p q = absurd (omega (arith, h, rank_high e i p q))

and_true : (t : Bool) → t ≡ true → (t && true) ≡ true
and_true true h = refl
and_true false h = cc

first_is_last : (e : ExceptionsValue) (i : ℕ) → Hardened e → chosen_place e ≡ Some i → IsLast i
first_is_last e i (inl h) found =
    let k = least_found (is_ready e) (rank_of e) places i found in
    low_is_last e i (omega (arith, k.least 6 (omega arith) (and_true (at e 6).pending h), rank_secure e))
first_is_last e i (inr h) found =
    let k = least_found (is_ready e) (rank_of e) places i found in
    low_is_last e i (omega (arith, k.least 7 (omega arith) (and_true (at e 7).pending h), rank_nonsecure e))

-- ---- one choice

-- a choice that is made again goes on from work of which this holds
abbrev Again : {H : Type 0} → (Work H → Type 0) → Chosen H → Type 0
Again P a = a.choice ≡ choices.Again → P a.work

again_cond : {H : Type 0} (P : Work H → Type 0) (t : Bool) (a b : Chosen H) → (t ≡ true → Again P a) → (t ≡ false → Again P b) → Again P (cond t a b)
again_cond P true a b h k = h refl
again_cond P false a b h k = k refl

-- the additional frame isn't written any more
abbrev Skips : {H : Type 0} → Work H → Type 0
Skips w = w.entry.skip ≡ true

-- ---- a vector

-- what a failed vector leaves: HardFault pends
record Harder {H : Type 0} (x : Bool) (w : Work H) : Type 0 where
  pub placed : Placed w.exceptions
  pub hardened : Hardened w.exceptions
  pub skip : w.entry.skip ≡ x

by_vector : {H : Type 0} (profile : Profile) (w : Work H) (given : Slot) (answer : Result ℕ Fault) → Placed w.exceptions → Again (Harder w.entry.skip) (vectored_by profile w given answer)
unfolding vector_failed
by_vector profile w given (Ok vector) h again = absurd cc
by_vector profile w given (Err fault) h again = record {
  placed = placed_pended w.exceptions (slot 3 (hard_side w.exceptions given.side)) h;
  hardened = hard_pended w.exceptions (hard_side w.exceptions given.side) h;
  skip = refl;
}

vectored_again : {H : Type 0} (answering : FrameAnswering H) (profile : Profile) (w : Work H) (given : Slot) → Placed w.exceptions → Again (Harder w.entry.skip) (vectored answering profile w given)
unfolding vectored
vectored_again answering profile w given h =
    by_vector profile (record w { entry = vector_touched w.entry given.side }) given (answering w.held (Vector given.number given.side)).1 h

-- where it is NMI's or a HardFault's, the choice isn't made again
ends_choice : (last taken : Bool) → last ≡ true → vector_choice (not last && taken) ≡ choices.Again → ⊥
ends_choice true taken is again = absurd cc
ends_choice false taken is again = absurd cc

by_last : {H : Type 0} (profile : Profile) (w : Work H) (given : Slot) (answer : Result ℕ Fault) → is_last_resort given ≡ true → (vectored_by profile w given answer).choice ≡ choices.Again → ⊥
unfolding vector_failed
by_last profile w given (Ok vector) is again = absurd cc
by_last profile w given (Err fault) is again = ends_choice (is_last_resort given) _ is again

vectored_ends : {H : Type 0} (answering : FrameAnswering H) (profile : Profile) (w : Work H) (given : Slot) → is_last_resort given ≡ true → (vectored answering profile w given).choice ≡ choices.Again → ⊥
unfolding vectored
vectored_ends answering profile w given is =
    by_last profile (record w { entry = vector_touched w.entry given.side }) given (answering w.held (Vector given.number given.side)).1 is

-- ---- a frame

raised_placed : (t : Taken) (given : Slot) (c : Core) (e : ExceptionsValue) → Placed e → Placed (raised_as t given c e).exceptions
raised_placed AsIs given c e h = placed_pended e given h
raised_placed (Hard side) given c e h = placed_pended e (slot 3 side) h
raised_placed Lockup given c e h = h

raised_hardened : (t : Taken) (given : Slot) (c : Core) (e : ExceptionsValue) → Hardened e → Hardened (raised_as t given c e).exceptions
raised_hardened AsIs given c e h = hardened_pended e given h
raised_hardened (Hard side) given c e h = hardened_pended e (slot 3 side) h
raised_hardened Lockup given c e h = h

stacked_by_again : {H : Type 0} (answering : FrameAnswering H) (profile : Profile) (w : Work H) (given : Slot) (first : Option FrameFault) (fault : Option StackFault) → Placed w.exceptions → Skips w
    → Again (λ v. Placed v.exceptions × Skips v) (stacked_by answering profile w given first fault)
stacked_by_again answering profile w given None (Some fault) h s again =
    let of = frame_exception w.exceptions Secure fault in
    let c = with_status w.core (frame_status true Secure fault w.core.status) in
    (raised_placed (escalated w.exceptions c.masks of) of c w.exceptions h, s)
stacked_by_again answering profile w given (Some first) (Some fault) h s again = let k = vectored_again answering profile w given h again in (k.placed, k.skip ∙ s)
stacked_by_again answering profile w given first None h s again = let k = vectored_again answering profile w given h again in (k.placed, k.skip ∙ s)

-- the choice is the last but for a frame that faults
abbrev Ending : {H : Type 0} → Work H → Type 0
Ending w = Placed w.exceptions × Hardened w.exceptions × Skips w

stacked_by_last : {H : Type 0} (answering : FrameAnswering H) (profile : Profile) (w : Work H) (given : Slot) (first : Option FrameFault) (fault : Option StackFault) → Placed w.exceptions → Hardened w.exceptions → Skips w
    → is_last_resort given ≡ true → Again Ending (stacked_by answering profile w given first fault)
stacked_by_last answering profile w given None (Some fault) h d s is again =
    let of = frame_exception w.exceptions Secure fault in
    let c = with_status w.core (frame_status true Secure fault w.core.status) in
    let t = escalated w.exceptions c.masks of in
    (raised_placed t of c w.exceptions h, raised_hardened t of c w.exceptions d, s)
stacked_by_last answering profile w given (Some first) (Some fault) h d s is again = absurd (vectored_ends answering profile w given is again)
stacked_by_last answering profile w given first None h d s is again = absurd (vectored_ends answering profile w given is again)

-- ---- an exception

-- the work whose additional frame was written, well or not
abbrev Stacked : {H : Type 0} → Work H → Pushed H → Work H
Stacked w p = record w { core = p.core; held = p.held; entry = with_additional w.entry }

abbrev pushed_by : {H : Type 0} → FrameAnswering H → Work H → Pushed H
pushed_by answering w = pushed_additional answering w.core w.held (callee_process w.core w.entry) (callee_privileged w.core w.entry)

-- without the additional frame
abbrev unstacked : {H : Type 0} → Work H → Slot → Work H
unstacked w given = record w { entry = record w.entry { needed_additional = w.entry.needed_additional || needs_additional w.entry given } }

no_frame : (f s : Bool) → s ≡ true → (f && not s) ≡ true → ⊥
no_frame true true e h = cc
no_frame true false e h = cc
no_frame false s e h = cc

-- after the first choice
abbrev Second : {H : Type 0} → Work H → Type 0
Second w = Placed w.exceptions × (Hardened w.exceptions ⊎ Skips w)

taking_first : {H : Type 0} (answering : FrameAnswering H) (profile : Profile) (w : Work H) (given : Slot) → Placed w.exceptions → Again Second (taking answering profile w given)
unfolding taking
taking_first answering profile w given h =
    let p = pushed_by answering w in
    again_cond Second (needs_additional w.entry given && not w.entry.skip) _ _
    (λ e again. let k = stacked_by_again answering profile (Stacked w p) given w.entry.frame p.fault h refl again in (k.0, inr k.1))
    (λ e again. let k = vectored_again answering profile (unstacked w given) given h again in (k.placed, inl k.hardened))

taking_framed : {H : Type 0} (answering : FrameAnswering H) (profile : Profile) (w : Work H) (given : Slot) → Placed w.exceptions → Skips w → Again Ending (taking answering profile w given)
unfolding taking
taking_framed answering profile w given h s =
    again_cond Ending (needs_additional w.entry given && not w.entry.skip) _ _
    (λ e again. absurd (no_frame (needs_additional w.entry given) w.entry.skip s e))
    (λ e again. let k = vectored_again answering profile (unstacked w given) given h again in (k.placed, k.hardened, k.skip ∙ s))

taking_hard : {H : Type 0} (answering : FrameAnswering H) (profile : Profile) (w : Work H) (given : Slot) → Placed w.exceptions → Hardened w.exceptions → is_last_resort given ≡ true → Again Ending (taking answering profile w given)
unfolding taking
taking_hard answering profile w given h d is =
    let p = pushed_by answering w in
    again_cond Ending (needs_additional w.entry given && not w.entry.skip) _ _
    (λ e again. stacked_by_last answering profile (Stacked w p) given w.entry.frame p.fault h d refl is again)
    (λ e again. absurd (vectored_ends answering profile (unstacked w given) given is again))

abbrev Never : {H : Type 0} → Work H → Type 0
Never w = ⊥

taking_last : {H : Type 0} (answering : FrameAnswering H) (profile : Profile) (w : Work H) (given : Slot) → Skips w → is_last_resort given ≡ true → Again Never (taking answering profile w given)
unfolding taking
taking_last answering profile w given s is =
    again_cond Never (needs_additional w.entry given && not w.entry.skip) _ _
    (λ e again. no_frame (needs_additional w.entry given) w.entry.skip s e)
    (λ e again. vectored_ends answering profile (unstacked w given) given is again)

-- ---- a choice

chosen_is_last : (e : ExceptionsValue) (given : Slot) → Hardened e → chosen e ≡ Some given → is_last_resort given ≡ true
chosen_is_last e given d found = go (chosen_place e) refl found where
  go : (o : Option ℕ) → chosen_place e ≡ o → slot_found e o ≡ Some given → is_last_resort given ≡ true
  go None f h = absurd cc
  go (Some i) f h =
      let same : slot_at e i ≡ given = cc in
      subst (λ (s : Slot). is_last_resort s ≡ true) same (first_is_last e i d f)

-- what is so after each exception that may be chosen is so after the choice
choosing_again : {H : Type 0} (answering : FrameAnswering H) (profile : Profile) (w : Work H) (P : Work H → Type 0) → ((given : Slot) → chosen w.exceptions ≡ Some given → Again P (taking answering profile w given))
    → Again P (choosing answering profile w)
unfolding choosing
choosing_again answering profile w P each = go (chosen w.exceptions) refl where
  go : (o : Option Slot) → chosen w.exceptions ≡ o → Again P (choosing_from answering profile w o)
  go None f again = absurd cc
  go (Some given) f again = each given f again

-- ---- the choices of an entry

same_on : {H : Type 0} (f g : Work H → Done H) (w : Work H) (c : Choice) → (c ≡ choices.Again → f w ≡ g w) → goes_on f w c ≡ goes_on g w c
same_on f g w (choices.Taken given) h = refl
same_on f g w choices.Lockup h = refl
same_on f g w choices.Again h = h refl

one_is_enough : {H : Type 0} (answering : FrameAnswering H) (profile : Profile) (n : ℕ) (w : Work H) → Ending w → tries answering profile (suc n) w ≡ tries answering profile 1 w
unfolding tries
one_is_enough answering profile n w (h, d, s) =
    same_on (tries answering profile n) (tries answering profile 0) (choosing answering profile w).work (choosing answering profile w).choice
    (λ again. absurd (choosing_again answering profile w Never (λ given f. taking_last answering profile w given s (chosen_is_last w.exceptions given d f)) again))

second_ends : {H : Type 0} (answering : FrameAnswering H) (profile : Profile) (w : Work H) → Second w → Again Ending (choosing answering profile w)
second_ends answering profile w (h, inl d) = choosing_again answering profile w Ending (λ given f. taking_hard answering profile w given h d (chosen_is_last w.exceptions given d f))
second_ends answering profile w (h, inr s) = choosing_again answering profile w Ending (λ given f. taking_framed answering profile w given h s)

two_are_enough : {H : Type 0} (answering : FrameAnswering H) (profile : Profile) (n : ℕ) (w : Work H) → Second w → tries answering profile (suc (suc n)) w ≡ tries answering profile 2 w
unfolding tries
two_are_enough answering profile n w h =
    same_on (tries answering profile (suc n)) (tries answering profile 1) (choosing answering profile w).work (choosing answering profile w).choice
    (λ again. one_is_enough answering profile n (choosing answering profile w).work (second_ends answering profile w h again))

three_are_enough : {H : Type 0} (answering : FrameAnswering H) (profile : Profile) (n : ℕ) (w : Work H) → Placed w.exceptions → tries answering profile (suc (suc (suc n))) w ≡ tries answering profile 3 w
unfolding tries
three_are_enough answering profile n w h =
    same_on (tries answering profile (suc (suc n))) (tries answering profile 2) (choosing answering profile w).work (choosing answering profile w).choice
    (λ again. two_are_enough answering profile n (choosing answering profile w).work
    (choosing_again answering profile w Second (λ given f. taking_first answering profile w given h) again))

pub enough : {H : Type 0} (answering : FrameAnswering H) (profile : Profile) (w : Work H) (n : ℕ) → length w.exceptions.slots ≡ places → 3 ≤ n → tries answering profile n w ≡ tries answering profile 4 w
enough answering profile w zero h l = absurd (omega (arith, l))
enough answering profile w (suc zero) h l = absurd (omega (arith, l))
enough answering profile w (suc (suc zero)) h l = absurd (omega (arith, l))
enough answering profile w (suc (suc (suc n))) h l = three_are_enough answering profile n w h ∙ sym (three_are_enough answering profile 1 w h)
