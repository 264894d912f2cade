-- Entries and returns keep the number of the exception within 9 bits.
use Rattle.std.proofs.Common.{◌≡◌, ℕ, zero, suc, ◌-◌, ◌/◌, ◌^◌, ◌<◌, Bool, true, false, ◌&&◌, ◌||◌, not, cond, List, Option, Some, None, Result, Ok, Err, refl, sym, subst, arith}
use Rattle.std.specs.Prelude.{nat_lt}
use Rattle.tz_table.specs.declared.units.Side.{Side}
use Rattle.tz_table.specs.declared.units.Side.TheVariants.{Secure}
use Rattle.tz_model.specs.declared.board.Profile.{Profile}
use Rattle.tz_model.specs.declared.report.Fault.{Fault}
use Rattle.tz_model.specs.declared.report.Fault.TheVariants.{InvPc}
use Rattle.tz_model.specs.declared.report.Slot.{Slot}
use Rattle.tz_regs.specs.declared.parts.Core.{Core}
use Rattle.tz_regs.specs.declared.parts.Registers.{Registers}
use Rattle.tz_state.specs.declared.taken.Taken.{Taken as Becomes}
use Rattle.tz_state.specs.declared.taken.Taken.TheVariants.{AsIs, Hard, Lockup}
use Rattle.tz_regs.specs.Banks.{stacks_of}
use Rattle.tz_state.specs.Least.{lower_of, least_below}
use Rattle.tz_state.specs.Slots.{ExceptionsValue, exception_number, places}
use Rattle.tz_state.specs.Priority.{chosen, chosen_place, slot_found, is_ready, rank_of}
use Rattle.tz_state.specs.Execution.{takes_first}
use Rattle.tz_state.specs.Escalation.{escalated}
use Rattle.tz_frames.specs.declared.frame.StackFault.{StackFault}
use Rattle.tz_frames.specs.declared.frame.StackFault.TheVariants.{Limit}
use Rattle.tz_frames.specs.declared.entering.FrameFault.{FrameFault}
use Rattle.tz_frames.specs.declared.entering.Entering.{Entering}
use Rattle.tz_frames.specs.declared.leaving.Refusal.{Refusal}
use Rattle.tz_frames.specs.declared.leaving.Refusal.TheVariants.{Value, Frame, Mode}
use Rattle.tz_frames.specs.declared.leaving.Returning.{Returning}
use Rattle.tz_frames.specs.declared.leaving.Unstacked.{Unstacked}
use Rattle.tz_frames.specs.declared.leaving.Left.TheVariants as lefts
use Rattle.tz_frames.specs.FrameAccess.{Vector}
use Rattle.tz_frames.specs.Machine.{Framed, framed}
use Rattle.tz_frames.specs.Status.{Raised, raised_as, faulted, frame_faulted, with_status, status_after, frame_status, exception_of, frame_exception}
use Rattle.tz_frames.specs.Stack.{Pushed, pushed, pushed_with, pushed_basic, pushed_additional, with_side_sp, splim_of, written}
use Rattle.tz_frames.specs.Enter.{Work, Chosen, Done, goes_on, locked_up, with_lock, tries, chooses, choosing, choosing_from, taking, needs_additional, stacked, stacked_by, after_raise, raised_choice, with_additional, without_frame, vector_touched, vectored, vectored_by, vector_failed, vector_choice, can_be_hard_fault, callee_process, callee_privileged, interrupted, enters, begins}
use Rattle.tz_frames.specs.Leave.{chaining, chained, chained_raised, unstacked, resumed, modes_agree, resumes, goes_back, leaves_noting, leaves, exc_return_fault, freed, slot_returning, returning_by, core_returning, side_of_bit}
use Rattle.tz_resume.specs.Number.{IsNumbered}

-- ---- the chosen slot

lower_small : (rank : ℕ → ℕ) (n : ℕ) (o : Option ℕ) → ((i : ℕ) → o ≡ Some i → i < n) → lower_of rank n o < suc n
lower_small rank n None k = omega arith
lower_small rank n (Some found) k = by (nat_lt (rank n) (rank found)) where
  by : (t : Bool) → cond t n found < suc n
  by true = omega arith
  by false = let small : found < n = k found refl in omega arith

least_small : (ready : ℕ → Bool) (rank : ℕ → ℕ) (n i : ℕ) → least_below ready rank n ≡ Some i → i < n
unfolding least_below
least_small ready rank zero i e = cc
least_small ready rank (suc n) i e = by (ready n) e (lower_small rank n (least_below ready rank n) (λ j is. least_small ready rank n j is)) (λ is. least_small ready rank n i is) where
  by : (t : Bool) → cond t (Some (lower_of rank n (least_below ready rank n))) (least_below ready rank n) ≡ Some i → lower_of rank n (least_below ready rank n) < suc n
      → (least_below ready rank n ≡ Some i → i < n) → i < suc n
  by true e' low rest = let same : lower_of rank n (least_below ready rank n) ≡ i = cc in subst (λ (k : ℕ). k < suc n) same low
  by false e' low rest = let small : i < n = rest e' in omega arith

number_small : (i : ℕ) → i < 272 → exception_number i < 2 ^ 9
number_small i small = by (nat_lt i 32) where
  by : (t : Bool) → cond t (i / 2) (i - 16) < 2 ^ 9
  by true = omega arith
  by false = omega arith

abbrev Fits : Option Slot → Type 0
Fits None = Unit
Fits (Some given) = given.number < 2 ^ 9

chosen_fits : (e : ExceptionsValue) → Fits (chosen e)
chosen_fits e = by (chosen_place e) (λ i is. least_small (is_ready e) (rank_of e) places i is) where
  by : (o : Option ℕ) → ((i : ℕ) → o ≡ Some i → i < 272) → Fits (slot_found e o)
  by None k = tt
  by (Some i) k = number_small i (k i refl)

-- ---- frames and faults

pushed_keeps : (c : Core) (h : Framed) (side : Side) (process privileged : Bool) (base : ℕ) (words : List ℕ) → (pushed framed c h side process privileged base words).core.registers ≡ c.registers
pushed_keeps c h side process privileged base words = by (nat_lt base (splim_of process (stacks_of side c))) where
  by : (t : Bool) → (cond t (record { core = with_side_sp side process (splim_of process (stacks_of side c)) c; held = h; fault = Some (Limit side) })
      (pushed_with (with_side_sp side process base c) (written framed side privileged h base words))).core.registers ≡ c.registers
  by true = refl
  by false = refl

basic_numbered : (c : Core) (h : Framed) (back : ℕ) → IsNumbered c → IsNumbered (pushed_basic framed c h back).core
unfolding pushed_basic
basic_numbered c h back k = subst (λ (r : Registers). r.ipsr < 2 ^ 9) (sym (pushed_keeps c h c.run.side _ _ _ _)) k

additional_numbered : (c : Core) (h : Framed) (process privileged : Bool) → IsNumbered c → IsNumbered (pushed_additional framed c h process privileged).core
unfolding pushed_additional
additional_numbered c h process privileged k = subst (λ (r : Registers). r.ipsr < 2 ^ 9) (sym (pushed_keeps c h Secure process privileged _ _)) k

as_numbered : (t : Becomes) (given : Slot) (c : Core) (e : ExceptionsValue) → IsNumbered c → IsNumbered (raised_as t given c e).core
as_numbered AsIs given c e k = k
as_numbered (Hard side) given c e k = k
as_numbered Lockup given c e k = k

pub faulted_numbered : (side : Side) (fault : Fault) (c : Core) (e : ExceptionsValue) → IsNumbered c → IsNumbered (faulted side fault c e).core
faulted_numbered side fault c e k =
    let d = with_status c (status_after side fault c.status) in
    as_numbered (escalated e d.masks (exception_of e side fault)) (exception_of e side fault) d e k

frame_numbered : (stacking : Bool) (side : Side) (fault : StackFault) (c : Core) (e : ExceptionsValue) → IsNumbered c → IsNumbered (frame_faulted stacking side fault c e).core
frame_numbered stacking side fault c e k =
    let d = with_status c (frame_status stacking side fault c.status) in
    as_numbered (escalated e d.masks (frame_exception e side fault)) (frame_exception e side fault) d e k

-- ---- the choices of an entry

abbrev After : (Work Framed → Done Framed) → Chosen Framed → Type 0
After again c = IsNumbered (goes_on again c.work c.choice).core

abbrev Keeps : (Work Framed → Done Framed) → Type 0
Keeps again = (w : Work Framed) → IsNumbered w.core → IsNumbered (again w).core

vectored_numbered : (profile : Profile) (again : Work Framed → Done Framed) (w : Work Framed) (given : Slot) → Keeps again → given.number < 2 ^ 9 → IsNumbered w.core → After again (vectored framed profile w given)
unfolding vectored vector_failed
vectored_numbered profile again w given keeps small k = go (framed w.held (Vector given.number given.side)).1 where
  x : Work Framed
  x = record w { entry = vector_touched w.entry given.side }

  harden : (t : Bool) → IsNumbered (goes_on again (vector_failed x given).work (vector_choice t)).core
  harden true = keeps (vector_failed x given).work k
  harden false = k

  go : (v : Result ℕ Fault) → After again (vectored_by profile x given v)
  go (Ok vector) = small
  go (Err fault) = harden (can_be_hard_fault x.core x.exceptions given)

stacked_numbered : (profile : Profile) (again : Work Framed → Done Framed) (w : Work Framed) (given : Slot) (first : Option FrameFault) (o : Option StackFault) → Keeps again → given.number < 2 ^ 9 → IsNumbered w.core
    → After again (stacked_by framed profile w given first o)
stacked_numbered profile again w given None (Some fault) keeps small k = by (frame_faulted true Secure fault w.core w.exceptions) (frame_numbered true Secure fault w.core w.exceptions k) where
  by : (r : Raised) → IsNumbered r.core → After again (after_raise w.held (without_frame w.entry true fault) r)
  by r k' = locks r.locks where
    locks : (t : Bool) → IsNumbered (goes_on again (after_raise w.held (without_frame w.entry true fault) r).work (raised_choice t)).core
    locks true = k'
    locks false = keeps (after_raise w.held (without_frame w.entry true fault) r).work k'
stacked_numbered profile again w given (Some first) (Some fault) keeps small k = vectored_numbered profile again w given keeps small k
stacked_numbered profile again w given (Some first) None keeps small k = vectored_numbered profile again w given keeps small k
stacked_numbered profile again w given None None keeps small k = vectored_numbered profile again w given keeps small k

taking_numbered : (profile : Profile) (again : Work Framed → Done Framed) (w : Work Framed) (given : Slot) → Keeps again → given.number < 2 ^ 9 → IsNumbered w.core → After again (taking framed profile w given)
unfolding taking
taking_numbered profile again w given keeps small k = by (needs_additional w.entry given && not w.entry.skip) where
  p : Pushed Framed
  p = pushed_additional framed w.core w.held (callee_process w.core w.entry) (callee_privileged w.core w.entry)

  w2 : Work Framed
  w2 = record w { entry = record w.entry { needed_additional = w.entry.needed_additional || needs_additional w.entry given } }

  by : (t : Bool) → After again (cond t (stacked framed profile w given p) (vectored framed profile w2 given))
  by true =
      stacked_numbered profile again (record w { core = p.core; held = p.held; entry = with_additional w.entry }) given w.entry.frame p.fault keeps small
      (additional_numbered w.core w.held (callee_process w.core w.entry) (callee_privileged w.core w.entry) k)
  by false = vectored_numbered profile again w2 given keeps small k

choosing_numbered : (profile : Profile) (again : Work Framed → Done Framed) (w : Work Framed) → Keeps again → IsNumbered w.core → After again (choosing framed profile w)
unfolding choosing
choosing_numbered profile again w keeps k = by (chosen w.exceptions) (chosen_fits w.exceptions) where
  by : (o : Option Slot) → Fits o → After again (choosing_from framed profile w o)
  by None small = k
  by (Some given) small = taking_numbered profile again w given keeps small k

tries_numbered : (profile : Profile) (n : ℕ) (w : Work Framed) → IsNumbered w.core → IsNumbered (tries framed profile n w).core
unfolding tries
tries_numbered profile zero w k = k
tries_numbered profile (suc n) w k = choosing_numbered profile (tries framed profile n) w (λ w' k'. tries_numbered profile n w' k') k

pub enters_numbered : (profile : Profile) (c : Core) (e : ExceptionsValue) (h : Framed) (back : ℕ) → IsNumbered c → IsNumbered (enters framed profile c e h back).core
unfolding enters
enters_numbered profile c e h back k = by (pushed_basic framed c h back).fault where
  p : Pushed Framed
  p = pushed_basic framed c h back

  j : IsNumbered p.core
  j = basic_numbered c h back k

  raised : (x : Entering) (r : Raised) → IsNumbered r.core → (t : Bool)
      → IsNumbered (cond t (locked_up (record { core = r.core; exceptions = r.exceptions; held = p.held; entry = x })) (chooses framed profile (record { core = r.core; exceptions = r.exceptions; held = p.held; entry = x }))).core
  raised x r k' true = k'
  raised x r k' false = tries_numbered profile 4 (record { core = r.core; exceptions = r.exceptions; held = p.held; entry = x }) k'

  by : (o : Option StackFault) → IsNumbered (begins framed profile c.run.side e (interrupted c) p.core p.held o).core
  by None = tries_numbered profile 4 (record { core = p.core; exceptions = e; held = p.held; entry = interrupted c }) j
  by (Some fault) = raised (without_frame (interrupted c) false fault) (frame_faulted true c.run.side fault p.core e) (frame_numbered true c.run.side fault p.core e j) (frame_faulted true c.run.side fault p.core e).locks

-- ---- a return

chained_numbered : (profile : Profile) (r : Returning) (refused : Option Refusal) (t : Bool) (c : Core) (e : ExceptionsValue) (h : Framed) → IsNumbered c → IsNumbered (chained framed profile r refused t c e h).core
unfolding chained
chained_numbered profile r refused t c e h k = tries_numbered profile 4 (record { core = c; exceptions = e; held = h; entry = chaining r t }) k

raised_numbered : (profile : Profile) (r : Returning) (refusal : Refusal) (t : Bool) (h : Framed) (x : Raised) → IsNumbered x.core → IsNumbered (chained_raised framed profile r refusal t h x).core
raised_numbered profile r refusal t h x k = by x.locks where
  by : (locks : Bool) → IsNumbered (cond locks (record { core = with_lock x.core; exceptions = x.exceptions; held = h; result = lefts.Lockup (Some refusal) (chaining r t) }) (chained framed profile r (Some refusal) t x.core x.exceptions h)).core
  by true = k
  by false = chained_numbered profile r (Some refusal) t x.core x.exceptions h k

resumes_numbered : (profile : Profile) (r : Returning) (c : Core) (e : ExceptionsValue) (h : Framed) (o : Result Unstacked StackFault) → IsNumbered c → IsNumbered (resumes framed profile r c e h o).core
resumes_numbered profile r c e h (Err fault) k = raised_numbered profile r (Frame fault) r.secure h (frame_faulted false (side_of_bit r.secure) fault c e) (frame_numbered false (side_of_bit r.secure) fault c e k)
resumes_numbered profile r c e h (Ok u) k = by (modes_agree r u.basic) where
  by : (t : Bool) → IsNumbered (cond t (record { core = resumed r u c; exceptions = e; held = h; result = lefts.Resumed r.secure }) (chained_raised framed profile r (Mode (side_of_bit r.secure)) r.secure h (faulted (side_of_bit r.secure) (InvPc (side_of_bit r.secure)) c e))).core
  by true = omega arith
  by false = raised_numbered profile r (Mode (side_of_bit r.secure)) r.secure h (faulted (side_of_bit r.secure) (InvPc (side_of_bit r.secure)) c e) (faulted_numbered (side_of_bit r.secure) (InvPc (side_of_bit r.secure)) c e k)

back_numbered : (profile : Profile) (r : Returning) (c : Core) (e : ExceptionsValue) (h : Framed) → IsNumbered c → IsNumbered (goes_back framed profile r c e h).core
unfolding goes_back
back_numbered profile r c e h k = by (takes_first e c.masks) where
  by : (t : Bool) → IsNumbered (cond t (chained framed profile r None false c e h) (resumes framed profile r c e h (unstacked framed c r h))).core
  by true = chained_numbered profile r None false c e h k
  by false = resumes_numbered profile r c e h (unstacked framed c r h) k

noting_numbered : (profile : Profile) (side : Side) (o : Option Fault) (r : Returning) (c : Core) (e : ExceptionsValue) (h : Framed) → IsNumbered c → IsNumbered (leaves_noting framed profile side o r c e h).core
noting_numbered profile side (Some fault) r c e h k = raised_numbered profile r (Value fault) false h (faulted side fault c e) (faulted_numbered side fault c e k)
noting_numbered profile side None r c e h k = back_numbered profile r c e h k

pub leaves_numbered : (profile : Profile) (c : Core) (e : ExceptionsValue) (h : Framed) (value : ℕ) → IsNumbered c → IsNumbered (leaves framed profile c e h value).core
unfolding leaves
leaves_numbered profile c e h value k =
    let r = returning_by c.run.side value in
    noting_numbered profile c.run.side (exc_return_fault c e value) r (core_returning e r c) (freed e (slot_returning c r)) h k
