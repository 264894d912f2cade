-- SVC of Secure code whose basic frame is written without a fault leaves the core in Secure state: what it pends is of
-- the Secure side and comes first, and so is the HardFault that stands in for it.
use Rattle.std.proofs.Common.{◌≡◌, ℕ, suc, ◌+◌, ◌<◌, Bool, true, false, ◌&&◌, ◌||◌, not, cond, List, [], ◌∷◌, length, Option, Some, None, Result, Ok, Err, refl, sym, ap, ◌∙◌, subst, arith}
use Rattle.std.specs.Prelude.{nat_lt, slice_set}
use Rattle.std.proofs.lemmas.Bool.Decides.{nat_tests}
use Rattle.std.proofs.lemmas.List.{length-set}
use Rattle.tz_table.specs.declared.units.Side.{Side}
use Rattle.tz_table.specs.declared.units.Side.TheVariants.{Secure, NonSecure}
use Rattle.tz_model.specs.declared.board.Profile.{Profile}
use Rattle.tz_model.specs.declared.report.Fault.{Fault}
use Rattle.tz_model.specs.declared.report.Fault.TheVariants.{Call}
use Rattle.tz_model.specs.declared.report.ScriptEvent.{ScriptEvent}
use Rattle.tz_model.specs.declared.channel.Channel.{Channel}
use Rattle.tz_model.specs.declared.report.Slot.{Slot}
use Rattle.tz_regs.specs.declared.parts.Core.{Core}
use Rattle.tz_regs.specs.declared.parts.Masks.{Masks}
use Rattle.tz_regs.specs.Banks.{stacks_of}
use Rattle.tz_state.specs.declared.taken.Taken.{Taken as Becomes}
use Rattle.tz_state.specs.declared.taken.Taken.TheVariants.{AsIs, Hard, Lockup}
use Rattle.tz_state.specs.Due.{slot_of_event, slots_pended, slots_due, due, begun}
use Rattle.tz_state.specs.Escalation.{hard_side, hardened, escalated}
use Rattle.tz_state.specs.Execution.{execution, takes_first}
use Rattle.tz_state.specs.First.{FitGroups}
use Rattle.tz_state.specs.Memory.{word_at, with_word}
use Rattle.tz_state.specs.Moves.{goes, moves_word, after_move, irq_of, pends_irq, Moving, channel_of, moved_by, moved, all_moved, moving_in, moves_of}
use Rattle.tz_state.specs.Priority.{hard_priority, priority_of, chosen}
use Rattle.tz_state.specs.SlotChanges.{pended}
use Rattle.tz_state.specs.Slots.{ExceptionsValue, places, first_interrupt_place, at, exists, index_of}
use Rattle.tz_state.specs.State.{Bus, State, with_exceptions, with_memory}
use Rattle.tz_state.specs.Timers.{ticked_s}
use Rattle.tz_frames.specs.declared.entering.Entered.{Entered}
use Rattle.tz_frames.specs.declared.entering.Entered.TheVariants as entered
use Rattle.tz_frames.specs.declared.frame.StackFault.{StackFault}
use Rattle.tz_frames.specs.declared.frame.StackFault.TheVariants.{Limit}
use Rattle.tz_frames.specs.Enter.{Work, Chosen, Done, goes_on, tries, choosing, choosing_from, taking, needs_additional, stacked, vector_touched, vectored, vectored_by, vector_failed, vector_choice, can_be_hard_fault, callee_process, callee_privileged, interrupted, begins, enters}
use Rattle.tz_frames.specs.FrameAccess.{Vector}
use Rattle.tz_frames.specs.Machine.{Framed, framed}
use Rattle.tz_frames.specs.Stack.{Pushed, pushed, pushed_with, pushed_basic, pushed_additional, with_side_sp, splim_of, written}
use Rattle.tz_frames.specs.Status.{Raised, slot, raised_as}
use Rattle.tz_sem.specs.declared.ending.Course.{Course}
use Rattle.tz_sem.specs.Ended.{Ended}
use Rattle.tz_sem.specs.Step.{started}
use Rattle.tz_sem.specs.Taking.{state_of, framed_in, taken_by, after_entry, preempted, goes_on_at, passed_by, after_raise, faults}
use Rattle.tz_resume.specs.Resumption.{basic_pushed}
use Rattle.tz_resume.specs.Words.{IsWhole}
use Rattle.tz_resume.specs.Steps.{IsTyped, CallsBy, raised_by_call, behind_call}
use Rattle.tz_resume.proofs.Words.{word_stays}
use Rattle.tz_resume.proofs.Least.{none_lower, call_first, hard_first, hard_after_call}

-- ---- what a step begins with keeps what types say

slots_kept : (events : List ScriptEvent) (e : ExceptionsValue) → length (slots_due e events) ≡ length e.slots
unfolding slots_due
slots_kept [] e = refl
slots_kept (event ∷ more) e = slots_kept more (record e { slots = slots_pended e (slot_of_event event) }) ∙ by (exists e (slot_of_event event)) where
  i : ℕ
  i = index_of (slot_of_event event)

  by : (t : Bool) → length (cond t (slice_set e.slots i (record (at e i) { pending = true })) e.slots) ≡ length e.slots
  by true = length-set e.slots i (record (at e i) { pending = true })
  by false = refl

begun_slots : (e : ExceptionsValue) (events : List ScriptEvent) → length (begun e events).slots ≡ length e.slots
begun_slots e events = length-set (ticked_s (due e events)).slots 31 _ ∙ length-set (due e events).slots 30 _ ∙ slots_kept events e

-- memory that has a byte for each address of the regions, and so many slots
record Fits (b : Bus) (n : ℕ) (m : Moving) : Type 0 where
  pub whole : IsWhole (with_memory b m.memory)
  pub slots : length m.slots ≡ n

fits_moved : (b : Bus) (e : ExceptionsValue) (side : Side) (n : ℕ) (m : Moving) → Fits b n m → Fits b n (moved b e side m)
fits_moved b e side n m k = go (goes c) where
  c : Channel
  c = channel_of side m.channels

  after : Channel
  after = after_move b side c

  here : ExceptionsValue
  here = record e { slots = m.slots }

  i : ℕ
  i = first_interrupt_place + irq_of after

  whole : (t : Bool) → IsWhole (with_memory b (cond t (with_word m.memory c.dst (word_at m.memory c.src)) m.memory))
  whole true q mapped = word_stays m.memory c.dst (word_at m.memory c.src) q (k.whole q mapped)
  whole false q mapped = k.whole q mapped

  slots : (t : Bool) → length (cond t (slice_set m.slots i (record (at here i) { pending = true })) m.slots) ≡ n
  slots true = length-set m.slots i (record (at here i) { pending = true }) ∙ k.slots
  slots false = k.slots

  go : (t : Bool) → Fits b n (cond t (moved_by b e side c m) m)
  go true = record { whole = whole (moves_word b side c); slots = slots (pends_irq side here after) }
  go false = k

fits_all : (b : Bus) (e : ExceptionsValue) (side : Side) (n : ℕ) (m : Moving) → Fits b n m → Fits b n (all_moved b e side m)
unfolding all_moved
fits_all b e Secure n m k = fits_moved b e NonSecure n (moved b e Secure m) (fits_moved b e Secure n m k)
fits_all b e NonSecure n m k = fits_moved b e NonSecure n m k

fits_of : (s : State) → IsWhole s.bus → Fits s.bus (length s.exceptions.slots) (moves_of s)
unfolding moves_of
fits_of s k = go (s.bus.board.mover && not s.core.run.locked) where
  here : Fits s.bus (length s.exceptions.slots) (moving_in s)
  here = record { whole = k; slots = refl }

  go : (t : Bool) → Fits s.bus (length s.exceptions.slots) (cond t (all_moved s.bus s.exceptions s.core.run.side (moving_in s)) (moving_in s))
  go true = fits_all s.bus s.exceptions s.core.run.side (length s.exceptions.slots) (moving_in s) here
  go false = here

pub typed_started : (s : State) (events : List ScriptEvent) → IsTyped s → IsTyped (started s events)
typed_started s events t =
    let f = fits_of (with_exceptions s (begun s.exceptions events)) t.whole in
    record { registers = t.registers; pointer = t.pointer; whole = f.whole; slots = f.slots ∙ begun_slots s.exceptions events ∙ t.slots; groups = t.groups }

-- ---- an entry whose first exception is Secure

abbrev IsSecure : Done Framed → Type 0
IsSecure d = d.core.run.side ≡ Secure

-- its vector is read, or fails; then the choice is made again where HardFault can be taken
vectored_secure : (profile : Profile) (again : Work Framed → Done Framed) (w : Work Framed) (number : ℕ) → w.core.run.side ≡ Secure
    → (can_be_hard_fault w.core w.exceptions (slot number Secure) ≡ true → (v : Work Framed) → v.core.run.side ≡ Secure → v.exceptions ≡ pended w.exceptions (slot 3 (hard_side w.exceptions Secure)) → IsSecure (again v))
    → IsSecure (goes_on again (vectored framed profile w (slot number Secure)).work (vectored framed profile w (slot number Secure)).choice)
unfolding vectored vector_failed
vectored_secure profile again w number side more = go (framed w.held (Vector number Secure)).1 where
  given : Slot
  given = slot number Secure

  x : Work Framed
  x = record w { entry = vector_touched w.entry Secure }

  harden : (t : Bool) → can_be_hard_fault w.core w.exceptions given ≡ t → IsSecure (goes_on again (vector_failed x given).work (vector_choice t))
  harden true e = more e (vector_failed x given).work side refl
  harden false e = side

  go : (v : Result ℕ Fault) → IsSecure (goes_on again (vectored_by profile x given v).work (vectored_by profile x given v).choice)
  go (Ok vector) = refl
  go (Err fault) = harden (can_be_hard_fault w.core w.exceptions given) refl

none_needed : (secure skip : Bool) → (secure && false && not skip) ≡ false
none_needed true skip = refl
none_needed false skip = refl

-- no additional frame is written for it
taking_secure : (profile : Profile) (again : Work Framed → Done Framed) (w : Work Framed) (number : ℕ) → w.core.run.side ≡ Secure
    → (can_be_hard_fault w.core w.exceptions (slot number Secure) ≡ true → (v : Work Framed) → v.core.run.side ≡ Secure → v.exceptions ≡ pended w.exceptions (slot 3 (hard_side w.exceptions Secure)) → IsSecure (again v))
    → IsSecure (goes_on again (taking framed profile w (slot number Secure)).work (taking framed profile w (slot number Secure)).choice)
unfolding taking
taking_secure profile again w number side more = by (needs_additional w.entry given && not w.entry.skip) (none_needed w.entry.secure w.entry.skip) where
  given : Slot
  given = slot number Secure

  p : Pushed Framed
  p = pushed_additional framed w.core w.held (callee_process w.core w.entry) (callee_privileged w.core w.entry)

  v : Work Framed
  v = record w { entry = record w.entry { needed_additional = w.entry.needed_additional || needs_additional w.entry given } }

  ends : Chosen Framed → Type 0
  ends c = IsSecure (goes_on again c.work c.choice)

  by : (t : Bool) → t ≡ false → ends (cond t (stacked framed profile w given p) (vectored framed profile v given))
  by true e = cc
  by false e = vectored_secure profile again v number side more

choosing_secure : (profile : Profile) (again : Work Framed → Done Framed) (w : Work Framed) (number : ℕ) → w.core.run.side ≡ Secure → chosen w.exceptions ≡ Some (slot number Secure)
    → (can_be_hard_fault w.core w.exceptions (slot number Secure) ≡ true → (v : Work Framed) → v.core.run.side ≡ Secure → v.exceptions ≡ pended w.exceptions (slot 3 (hard_side w.exceptions Secure)) → IsSecure (again v))
    → IsSecure (goes_on again (choosing framed profile w).work (choosing framed profile w).choice)
unfolding choosing
choosing_secure profile again w number side is more =
    subst (λ (o : Option Slot). IsSecure (goes_on again (choosing_from framed profile w o).work (choosing_from framed profile w o).choice)) (sym is) (taking_secure profile again w number side more)

-- HardFault is the last that is tried
hard_secure : (profile : Profile) (n : ℕ) (w : Work Framed) → w.core.run.side ≡ Secure → chosen w.exceptions ≡ Some (slot 3 Secure) → IsSecure (tries framed profile (suc n) w)
unfolding tries
hard_secure profile n w side is = choosing_secure profile (tries framed profile n) w 3 side is (λ e v side' is'. cc)

one_side : (t : Bool) → cond t Secure Secure ≡ Secure
one_side true = refl
one_side false = refl

-- HardFault that stands in for a Secure exception is Secure
hard_same : (e : ExceptionsValue) → pended e (slot 3 (hard_side e Secure)) ≡ pended e (slot 3 Secure)
hard_same e = ap (λ (side : Side). pended e (slot 3 side)) (one_side e.bfhfnmins)

call_secure : (profile : Profile) (w : Work Framed) → w.core.run.side ≡ Secure → chosen w.exceptions ≡ Some (slot 11 Secure) → chosen (pended w.exceptions (slot 3 Secure)) ≡ Some (slot 3 Secure)
    → IsSecure (tries framed profile 4 w)
unfolding tries
call_secure profile w side is then =
    choosing_secure profile (tries framed profile 3) w 11 side is
    (λ e v side' is'. hard_secure profile 2 v side' (ap (λ (f : ExceptionsValue). chosen f) (is' ∙ hard_same w.exceptions) ∙ then))

-- ---- the entry

pushed_side : (c : Core) (h : Framed) (side : Side) (process privileged : Bool) (base : ℕ) (words : List ℕ) → (pushed framed c h side process privileged base words).core.run.side ≡ c.run.side
pushed_side c h side process privileged base words = by (nat_lt base (splim_of process (stacks_of side c))) where
  by : (t : Bool) → (cond t (record { core = with_side_sp side process (splim_of process (stacks_of side c)) c; held = h; fault = Some (Limit side) })
      (pushed_with (with_side_sp side process base c) (written framed side privileged h base words))).core.run.side ≡ c.run.side
  by true = refl
  by false = refl

basic_side : (c : Core) (h : Framed) (back : ℕ) → (pushed_basic framed c h back).core.run.side ≡ c.run.side
unfolding pushed_basic
basic_side c h back = pushed_side c h c.run.side _ _ _ _

-- so it is with an entry of which all tries are
entry_secure : (profile : Profile) (c : Core) (e : ExceptionsValue) (h : Framed) (back : ℕ) → c.run.side ≡ Secure → (pushed_basic framed c h back).fault ≡ None
    → ((w : Work Framed) → w.core.run.side ≡ Secure → w.exceptions ≡ e → IsSecure (tries framed profile 4 w)) → IsSecure (enters framed profile c e h back)
unfolding enters
entry_secure profile c e h back side none more =
    let p = pushed_basic framed c h back in
    let w : Work Framed = record { core = p.core; exceptions = e; held = p.held; entry = interrupted c } in
    subst (λ (x : Option StackFault). IsSecure (begins framed profile c.run.side e (interrupted c) p.core p.held x)) (sym none) (more w (basic_side c h back ∙ side) refl)

preempted_secure : (s : State) (course : Course) (back : ℕ) → s.core.run.side ≡ Secure → (basic_pushed s.core (framed_in course.negative s) back).fault ≡ None
    → ((w : Work Framed) → w.core.run.side ≡ Secure → w.exceptions ≡ s.exceptions → IsSecure (tries framed s.bus.board.profile 4 w)) → (preempted s course back).state.core.run.side ≡ Secure
unfolding preempted
preempted_secure s course back side none more =
    by (enters framed s.bus.board.profile s.core s.exceptions (framed_in course.negative s) back) (entry_secure s.bus.board.profile s.core s.exceptions (framed_in course.negative s) back side none more) where
      result : (d : Done Framed) (x : Entered) → IsSecure d → (taken_by (state_of d.core d.exceptions d.held.bus) course x).state.core.run.side ≡ Secure
      result d (entered.Taken given touched) k = k
      result d (entered.Lockup touched) k = k

      by : (d : Done Framed) → IsSecure d → (after_entry course d).state.core.run.side ≡ Secure
      by d k = result d d.result k

-- ---- SVC

-- as what SVC is raised: SVCall where it can be taken, else HardFault where that can, else the machine locks
abbrev Raises : ExceptionsValue → Masks → Becomes → Type 0
Raises e m AsIs = priority_of e 22 < execution e m
Raises e m (Hard side) = (side ≡ Secure) × (hard_priority e Secure < execution e m)
Raises e m Lockup = Unit {0}

below : (a b : ℕ) → nat_lt a b ≡ true → a < b
below a b e = grind (arith, nat_tests)

raises : (e : ExceptionsValue) (m : Masks) → Raises e m (escalated e m (slot 11 Secure))
raises e m = by (nat_lt (priority_of e 22) (execution e m)) refl where
  hard : (t : Bool) → nat_lt (hard_priority e Secure) (execution e m) ≡ t → Raises e m (cond t (Hard Secure) Lockup)
  hard true is = (refl, below (hard_priority e Secure) (execution e m) is)
  hard false is = tt

  by : (t : Bool) → nat_lt (priority_of e 22) (execution e m) ≡ t → Raises e m (cond t AsIs (hardened e m (hard_side e Secure)))
  by true is = below (priority_of e 22) (execution e m) is
  by false is = subst (λ (side : Side). Raises e m (hardened e m side)) (sym (one_side e.bfhfnmins)) (hard (nat_lt (hard_priority e Secure) (execution e m)) refl)

-- where Secure code runs
abbrev secured : State → State
secured s = record s { core = record s.core { run = record s.core.run { side = Secure } } }

-- no fault of the basic frame, where SVC is raised so
abbrev Written : State → Course → Raised → Type 0
Written s course r =
    (pushed_basic framed (passed_by Call r.core) (framed_in course.negative (state_of (passed_by Call r.core) r.exceptions s.bus)) (goes_on_at Call s.core.registers.pc)).fault ≡ None

secured_call : (s0 : State) (course : Course) → FitGroups s0.exceptions → length s0.exceptions.slots ≡ places → takes_first s0.exceptions s0.core.masks ≡ false → Written (secured s0) course (raised_by_call (secured s0))
    → (faults (secured s0) course Call).state.core.run.side ≡ Secure
unfolding faults
secured_call s0 course fits size cant none = by (escalated e m (slot 11 Secure)) (raises e m) none where
  s : State
  s = secured s0

  e : ExceptionsValue
  e = s.exceptions

  m : Masks
  m = s.core.masks

  back : ℕ
  back = goes_on_at Call s.core.registers.pc

  by : (t : Becomes) → Raises e m t → Written s course (raised_as t (slot 11 Secure) s.core e) → (after_raise s course Call (raised_as t (slot 11 Secure) s.core e)).state.core.run.side ≡ Secure
  by AsIs low none' =
      preempted_secure (state_of (passed_by Call s.core) (pended e (slot 11 Secure)) s.bus) course back refl none'
      (λ w side is.
      call_secure s.bus.board.profile w side (ap (λ (f : ExceptionsValue). chosen f) is ∙ call_first e m fits size cant low)
      (ap (λ (f : ExceptionsValue). chosen (pended f (slot 3 Secure))) is ∙ hard_after_call e m fits size cant low))
  by (Hard side) (same, low) none' =
      let r = raised_as (Hard side) (slot 11 Secure) s.core e in
      preempted_secure (state_of (passed_by Call r.core) r.exceptions s.bus) course back refl none'
      (λ w side' is.
      hard_secure s.bus.board.profile 3 w side'
      (ap (λ (f : ExceptionsValue). chosen f) (is ∙ ap (λ (of : Side). pended e (slot 3 of)) same)
      ∙ hard_first e fits size (λ j small ready d. omega (arith, low, none_lower e m fits cant j small ready))))
  by Lockup k none' = refl

secure_state : (s : State) → s.core.run.side ≡ Secure → s ≡ secured s
secure_state s e = ap (λ (side : Side). record s { core = record s.core { run = record s.core.run { side = side } } }) e

call_stays : (s : State) (course : Course) → FitGroups s.exceptions → length s.exceptions.slots ≡ places → takes_first s.exceptions s.core.masks ≡ false → s.core.run.side ≡ Secure → Written s course (raised_by_call s)
    → (faults s course Call).state.core.run.side ≡ Secure
call_stays s course fits size cant side none =
    subst (λ (x : State). (faults x course Call).state.core.run.side ≡ Secure) (sym (secure_state s side))
    (secured_call s course fits size cant (subst (λ (x : State). Written x course (raised_by_call x)) (secure_state s side) none))

pub calls_stay : (s : State) (e : Ended) (at : State) (course : Course) → IsTyped s → CallsBy s e at course → s.core.run.side ≡ Secure
    → (basic_pushed (behind_call at).core (framed_in course.negative (behind_call at)) (goes_on_at Call at.core.registers.pc)).fault ≡ None
    → e.state.core.run.side ≡ Secure
calls_stay s e at course t k secure none =
    ap (λ (x : State). x.core.run.side) k.state
    ∙ call_stays at course (subst (λ (x : ExceptionsValue). FitGroups x) (sym k.exceptions) t.groups) (ap (λ (x : ExceptionsValue). length x.slots) k.exceptions ∙ t.slots)
    (ap (λ (x : ExceptionsValue). takes_first x at.core.masks) k.exceptions ∙ ap (λ (m : Masks). takes_first s.exceptions m) k.masks ∙ k.first) (k.side ∙ secure) none
