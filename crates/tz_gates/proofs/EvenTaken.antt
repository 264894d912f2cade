-- PC stays even where exceptions are taken and return.
use Rattle.std.proofs.Common.{◌≡◌, ℕ, zero, suc, ◌%◌, Bool, true, false, ◌&&◌, ◌||◌, not, cond, List, Option, Some, None, Result, Ok, Err, refl, sym, subst, arith}
use Rattle.tz_table.specs.declared.units.Side.{Side}
use Rattle.tz_table.specs.declared.units.Side.TheVariants.{Secure, NonSecure}
use Rattle.tz_table.specs.declared.units.Code.{Code}
use Rattle.tz_model.specs.declared.board.Profile.{Profile}
use Rattle.tz_model.specs.declared.report.Fault.{Fault}
use Rattle.tz_model.specs.declared.report.Fault.TheVariants.{InvPc, Call}
use Rattle.tz_model.specs.declared.report.Slot.{Slot}
use Rattle.tz_model.specs.Words.{even_of}
use Rattle.tz_regs.specs.declared.parts.Core.{Core}
use Rattle.tz_regs.specs.declared.parts.Registers.{Registers}
use Rattle.tz_regs.specs.declared.parts.Stacks.{Stacks}
use Rattle.tz_regs.specs.Banks.{stacks_of, with_stacks}
use Rattle.tz_regs.specs.Registers.{is_privileged, uses_process}
use Rattle.tz_state.specs.declared.taken.Taken.{Taken}
use Rattle.tz_state.specs.declared.taken.Taken.TheVariants as takes
use Rattle.tz_state.specs.Slots.{ExceptionsValue}
use Rattle.tz_state.specs.Priority.{chosen}
use Rattle.tz_state.specs.Execution.{takes_first}
use Rattle.tz_state.specs.Escalation.{escalated}
use Rattle.tz_state.specs.State.{State}
use Rattle.tz_frames.specs.declared.frame.StackFault.{StackFault}
use Rattle.tz_frames.specs.declared.entering.Choice.{Choice}
use Rattle.tz_frames.specs.declared.entering.Choice.TheVariants as choices
use Rattle.tz_frames.specs.declared.entering.Entering.{Entering}
use Rattle.tz_frames.specs.declared.entering.Entered.{Entered}
use Rattle.tz_frames.specs.declared.entering.Entered.TheVariants as entered
use Rattle.tz_frames.specs.declared.leaving.Returning.{Returning}
use Rattle.tz_frames.specs.declared.leaving.Unstacked.{Unstacked}
use Rattle.tz_frames.specs.declared.leaving.Left.{Left}
use Rattle.tz_frames.specs.declared.leaving.Left.TheVariants as left
use Rattle.tz_frames.specs.declared.entering.FrameFault.{FrameFault}
use Rattle.tz_frames.specs.declared.leaving.Refusal.{Refusal}
use Rattle.tz_frames.specs.declared.leaving.Refusal.TheVariants as refusals
use Rattle.tz_frames.specs.FrameAccess.{Vector}
use Rattle.tz_frames.specs.Machine.{Framed, framed}
use Rattle.tz_frames.specs.Status.{Raised, exception_of, frame_exception, status_after, frame_status, with_status, raised_as, faulted, frame_faulted}
use Rattle.tz_frames.specs.Stack.{Pushed, splim_of, with_sp, pushed, pushed_basic, pushed_additional}
use Rattle.tz_frames.specs.Enter.{Work, Chosen, Done, vector_failed, vectored_by, vector_touched, vectored, needs_additional, callee_process, callee_privileged, stacked_by, with_additional, taking, choosing_from, choosing, goes_on, locked_up, tries, chooses, without_frame, interrupted, begins, enters}
use Rattle.tz_frames.specs.Leave.{returning_by, side_of_bit, exc_return_fault, slot_returning, freed, core_returning, Leaving, chained, chained_raised, modes_agree, resumes, unstacked, goes_back, leaves_noting, leaves}
use Rattle.tz_sem.specs.declared.ending.Course.{Course}
use Rattle.tz_sem.specs.Ended.{Passed}
use Rattle.tz_sem.specs.Taking.{state_of, locks, framed_in, taken_by, preempted, goes_on_at, passed_by, faults, left_by, returns}

pub record Even (n : ℕ) : Type 0 where
  pub even : n % 2 ≡ 0

pub even_down : (n : ℕ) → Even (even_of n)
even_down n = record { even = omega arith }

-- PC is even in registers that are the same
same_even : (r q : Registers) → r ≡ q → Even q.pc → Even r.pc
same_even r q e h = subst (λ (x : Registers). Even x.pc) (sym e) h

-- ---- faults

raised_same : (t : Taken) (given : Slot) (c : Core) (e : ExceptionsValue) → (raised_as t given c e).core.registers ≡ c.registers
raised_same takes.AsIs given c e = refl
raised_same (takes.Hard side) given c e = refl
raised_same takes.Lockup given c e = refl

pub faulted_same : (side : Side) (fault : Fault) (c : Core) (e : ExceptionsValue) → (faulted side fault c e).core.registers ≡ c.registers
faulted_same side fault c e = raised_same (escalated e c.masks (exception_of e side fault)) (exception_of e side fault) (with_status c (status_after side fault c.status)) e

frame_faulted_same : (stacking : Bool) (side : Side) (fault : StackFault) (c : Core) (e : ExceptionsValue) → (frame_faulted stacking side fault c e).core.registers ≡ c.registers
frame_faulted_same stacking side fault c e =
    raised_same (escalated e c.masks (frame_exception e side fault)) (frame_exception e side fault) (with_status c (frame_status stacking side fault c.status)) e

-- ---- frames

stacks_same : (side : Side) (c : Core) (s : Stacks) → (with_stacks side c s).registers ≡ c.registers
stacks_same Secure c s = refl
stacks_same NonSecure c s = refl

pushed_cond : (r : Registers) (t : Bool) (x y : Pushed Framed) → x.core.registers ≡ r → y.core.registers ≡ r → (cond t x y).core.registers ≡ r
pushed_cond r true x y p q = p
pushed_cond r false x y p q = q

pushed_same : (c : Core) (f : Framed) (side : Side) (process privileged : Bool) (base : ℕ) (words : List ℕ) → (pushed framed c f side process privileged base words).core.registers ≡ c.registers
pushed_same c f side process privileged base words = pushed_cond c.registers _ _ _ (stacks_same side c (with_sp process (splim_of process (stacks_of side c)) (stacks_of side c))) (stacks_same side c (with_sp process base (stacks_of side c)))

basic_same : (c : Core) (f : Framed) (back : ℕ) → (pushed_basic framed c f back).core.registers ≡ c.registers
unfolding pushed_basic
basic_same c f back = pushed_same c f c.run.side (uses_process c.registers.ipsr (stacks_of c.run.side c)) (is_privileged c.registers.ipsr (stacks_of c.run.side c)) _ _

additional_same : (c : Core) (f : Framed) (process privileged : Bool) → (pushed_additional framed c f process privileged).core.registers ≡ c.registers
unfolding pushed_additional
additional_same c f process privileged = pushed_same c f Secure process privileged _ _

-- ---- the choices of an entry

abbrev EvenWork : Work Framed → Type 0
EvenWork w = Even w.core.registers.pc

even_vectored_by : (profile : Profile) (w : Work Framed) (given : Slot) (r : Result ℕ Fault) → EvenWork w → EvenWork (vectored_by profile w given r).work
unfolding vector_failed
even_vectored_by profile w given (Ok vector) h = even_down vector
even_vectored_by profile w given (Err fault) h = h

even_vectored : (profile : Profile) (w : Work Framed) (given : Slot) → EvenWork w → EvenWork (vectored framed profile w given).work
unfolding vectored
even_vectored profile w given h =
    even_vectored_by profile (record w { entry = vector_touched w.entry given.side }) given (framed w.held (Vector given.number given.side)).1 h

even_stacked : (profile : Profile) (w : Work Framed) (given : Slot) (first : Option FrameFault) (fault : Option StackFault) → EvenWork w → EvenWork (stacked_by framed profile w given first fault).work
even_stacked profile w given None (Some fault) h = same_even _ w.core.registers (frame_faulted_same true Secure fault w.core w.exceptions) h
even_stacked profile w given (Some first) (Some fault) h = even_vectored profile w given h
even_stacked profile w given None None h = even_vectored profile w given h
even_stacked profile w given (Some first) None h = even_vectored profile w given h

even_chosen : (t : Bool) (x y : Chosen Framed) → EvenWork x.work → EvenWork y.work → EvenWork (cond t x y).work
even_chosen true x y p q = p
even_chosen false x y p q = q

even_taking : (profile : Profile) (w : Work Framed) (given : Slot) → EvenWork w → EvenWork (taking framed profile w given).work
unfolding taking
even_taking profile w given h =
    let p = pushed_additional framed w.core w.held (callee_process w.core w.entry) (callee_privileged w.core w.entry) in
    let e = additional_same w.core w.held (callee_process w.core w.entry) (callee_privileged w.core w.entry) in
    even_chosen (needs_additional w.entry given && not w.entry.skip) _ _
    (even_stacked profile (record w { core = p.core; held = p.held; entry = with_additional w.entry }) given w.entry.frame p.fault (same_even p.core.registers w.core.registers e h))
    (even_vectored profile (record w { entry = record w.entry { needed_additional = w.entry.needed_additional || needs_additional w.entry given } }) given h)

even_choosing_from : (profile : Profile) (w : Work Framed) (o : Option Slot) → EvenWork w → EvenWork (choosing_from framed profile w o).work
even_choosing_from profile w None h = h
even_choosing_from profile w (Some given) h = even_taking profile w given h

even_choosing : (profile : Profile) (w : Work Framed) → EvenWork w → EvenWork (choosing framed profile w).work
unfolding choosing
even_choosing profile w h = even_choosing_from profile w (chosen w.exceptions) h

even_goes_on : (again : Work Framed → Done Framed) (w : Work Framed) (choice : Choice) → EvenWork w → ((x : Work Framed) → EvenWork x → Even (again x).core.registers.pc) → Even (goes_on again w choice).core.registers.pc
even_goes_on again w (choices.Taken given) h more = h
even_goes_on again w choices.Lockup h more = h
even_goes_on again w choices.Again h more = more w h

even_tries : (profile : Profile) (n : ℕ) (w : Work Framed) → EvenWork w → Even (tries framed profile n w).core.registers.pc
unfolding tries
even_tries profile zero w h = h
even_tries profile (suc n) w h = even_goes_on (tries framed profile n) (choosing framed profile w).work (choosing framed profile w).choice (even_choosing profile w h) (λ x k. even_tries profile n x k)

even_done : (t : Bool) (x y : Done Framed) → Even x.core.registers.pc → Even y.core.registers.pc → Even (cond t x y).core.registers.pc
even_done true x y p q = p
even_done false x y p q = q

even_begins : (profile : Profile) (side : Side) (e : ExceptionsValue) (x : Entering) (c : Core) (f : Framed) (fault : Option StackFault) → Even c.registers.pc → Even (begins framed profile side e x c f fault).core.registers.pc
even_begins profile side e x c f None h = even_tries profile 4 (record { core = c; exceptions = e; held = f; entry = x }) h
even_begins profile side e x c f (Some fault) h =
    let r = frame_faulted true side fault c e in
    let k = same_even r.core.registers c.registers (frame_faulted_same true side fault c e) h in
    let w : Work Framed = record { core = r.core; exceptions = r.exceptions; held = f; entry = without_frame x false fault } in
    even_done r.locks (locked_up w) (chooses framed profile w) k (even_tries profile 4 w k)

even_enters : (profile : Profile) (c : Core) (e : ExceptionsValue) (f : Framed) (back : ℕ) → Even c.registers.pc → Even (enters framed profile c e f back).core.registers.pc
unfolding enters
even_enters profile c e f back h =
    let p = pushed_basic framed c f back in
    even_begins profile c.run.side e (interrupted c) p.core p.held p.fault (same_even p.core.registers c.registers (basic_same c f back) h)

-- ---- entry

abbrev pub EvenState : State → Type 0
EvenState s = Even s.core.registers.pc

even_taken_by : (s : State) (course : Course) (result : Entered) → EvenState s → EvenState (taken_by s course result).state
even_taken_by s course (entered.Taken given entry) h = h
even_taken_by s course (entered.Lockup entry) h = h

pub even_preempted : (s : State) (course : Course) (back : ℕ) → EvenState s → EvenState (preempted s course back).state
unfolding preempted
even_preempted s course back h =
    let d = enters framed s.bus.board.profile s.core s.exceptions (framed_in course.negative s) back in
    even_taken_by (state_of d.core d.exceptions d.held.bus) course d.result (even_enters s.bus.board.profile s.core s.exceptions (framed_in course.negative s) back h)

pub even_cond : (t : Bool) (p q : Passed) → EvenState p.state → EvenState q.state → EvenState (cond t p q).state
even_cond true p q h k = h
even_cond false p q h k = k

even_passed : (fault : Fault) (c : Core) → Even c.registers.pc → Even (passed_by fault c).registers.pc
even_passed Call c h = h
even_passed _ c h = h

pub even_faults : (s : State) (course : Course) (fault : Fault) → EvenState s → EvenState (faults s course fault).state
unfolding faults
even_faults s course fault h =
    let r = faulted s.core.run.side fault s.core s.exceptions in
    let k = same_even r.core.registers s.core.registers (faulted_same s.core.run.side fault s.core s.exceptions) h in
    let to = state_of (passed_by fault r.core) r.exceptions s.bus in
    even_cond r.locks (locks (state_of r.core r.exceptions s.bus) course.touched None) (preempted to course (goes_on_at fault s.core.registers.pc)) k
    (even_preempted to course (goes_on_at fault s.core.registers.pc) (even_passed fault r.core k))

-- ---- return

abbrev EvenLeaving : Leaving Framed → Type 0
EvenLeaving l = Even l.core.registers.pc

even_leaving : (t : Bool) (x y : Leaving Framed) → EvenLeaving x → EvenLeaving y → EvenLeaving (cond t x y)
even_leaving true x y p q = p
even_leaving false x y p q = q

even_chained : (profile : Profile) (r : Returning) (refused : Option Refusal) (touched : Bool) (c : Core) (e : ExceptionsValue) (f : Framed) → Even c.registers.pc → EvenLeaving (chained framed profile r refused touched c e f)
unfolding chained
even_chained profile r refused touched c e f h = even_tries profile 4 _ h

even_chained_raised : (profile : Profile) (r : Returning) (refusal : Refusal) (touched : Bool) (f : Framed) (raised : Raised) → Even raised.core.registers.pc → EvenLeaving (chained_raised framed profile r refusal touched f raised)
even_chained_raised profile r refusal touched f raised h =
    even_leaving raised.locks _ (chained framed profile r (Some refusal) touched raised.core raised.exceptions f) h (even_chained profile r (Some refusal) touched raised.core raised.exceptions f h)

even_resumes : (profile : Profile) (r : Returning) (c : Core) (e : ExceptionsValue) (f : Framed) (u : Result Unstacked StackFault) → Even c.registers.pc → EvenLeaving (resumes framed profile r c e f u)
even_resumes profile r c e f (Err fault) h =
    even_chained_raised profile r (refusals.Frame fault) r.secure f (frame_faulted false (side_of_bit r.secure) fault c e) (same_even _ c.registers (frame_faulted_same false (side_of_bit r.secure) fault c e) h)
even_resumes profile r c e f (Ok u) h =
    even_leaving (modes_agree r u.basic) _ (chained_raised framed profile r (refusals.Mode (side_of_bit r.secure)) r.secure f (faulted (side_of_bit r.secure) (InvPc (side_of_bit r.secure)) c e)) (even_down u.basic.back)
    (even_chained_raised profile r (refusals.Mode (side_of_bit r.secure)) r.secure f (faulted (side_of_bit r.secure) (InvPc (side_of_bit r.secure)) c e)
    (same_even _ c.registers (faulted_same (side_of_bit r.secure) (InvPc (side_of_bit r.secure)) c e) h))

even_goes_back : (profile : Profile) (r : Returning) (c : Core) (e : ExceptionsValue) (f : Framed) → Even c.registers.pc → EvenLeaving (goes_back framed profile r c e f)
unfolding goes_back
even_goes_back profile r c e f h =
    even_leaving (takes_first e c.masks) (chained framed profile r None false c e f) (resumes framed profile r c e f (unstacked framed c r f)) (even_chained profile r None false c e f h)
    (even_resumes profile r c e f (unstacked framed c r f) h)

even_noting : (profile : Profile) (side : Side) (fault : Option Fault) (r : Returning) (c : Core) (e : ExceptionsValue) (f : Framed) → Even c.registers.pc → EvenLeaving (leaves_noting framed profile side fault r c e f)
even_noting profile side (Some fault) r c e f h =
    even_chained_raised profile r (refusals.Value fault) false f (faulted side fault c e) (same_even _ c.registers (faulted_same side fault c e) h)
even_noting profile side None r c e f h = even_goes_back profile r c e f h

even_leaves : (profile : Profile) (c : Core) (e : ExceptionsValue) (f : Framed) (value : ℕ) → Even c.registers.pc → EvenLeaving (leaves framed profile c e f value)
unfolding leaves
even_leaves profile c e f value h =
    let r = returning_by c.run.side value in
    even_noting profile c.run.side (exc_return_fault c e value) r (core_returning e r c) (freed e (slot_returning c r)) f
    (same_even (core_returning e r c).registers c.registers (stacks_same (side_of_bit r.es) c (record (stacks_of (side_of_bit r.es) c) { spsel = r.process })) h)

even_left : (s : State) (course : Course) (code : Code) (value : ℕ) (result : Left) → EvenState s → EvenState (left_by s course code value result).state
even_left s course code value (left.Resumed touched) h = h
even_left s course code value (left.Chained given refused entry) h = h
even_left s course code value (left.Lockup refused entry) h = h

pub even_returns : (s : State) (course : Course) (code : Code) (value : ℕ) → EvenState s → EvenState (returns s course code value).state
unfolding returns
even_returns s course code value h =
    let l = leaves framed s.bus.board.profile s.core s.exceptions (framed_in course.negative s) value in
    even_left (state_of l.core l.exceptions l.held.bus) course code value l.result (even_leaves s.bus.board.profile s.core s.exceptions (framed_in course.negative s) value h)
