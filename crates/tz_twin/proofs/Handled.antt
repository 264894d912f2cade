-- What an exception finds that an entry or a tail-chain takes: facts of one run, of either side.
use Rattle.std.proofs.Common.{◌≡◌, ℕ, zero, suc, ◌+◌, ◌-◌, ◌*◌, ◌/◌, ◌%◌, ◌^◌, ◌==◌, Bool, true, false, ◌&&◌, ◌||◌, not, cond, List, [], ◌∷◌, Option, Some, None, Result, Ok, Err, refl, sym, ◌∙◌, subst}
use Rattle.std.specs.Prelude.{nat_lt, if◌then◌else◌}
use Rattle.tz_table.specs.declared.units.Side.{Side}
use Rattle.tz_table.specs.declared.units.Side.TheVariants.{Secure, NonSecure}
use Rattle.tz_table.specs.declared.units.Size.TheVariants.{Word}
use Rattle.tz_model.specs.declared.board.Profile.{Profile}
use Rattle.tz_model.specs.declared.report.Fault.{Fault}
use Rattle.tz_model.specs.declared.report.Fault.TheVariants.{Undef, InvState, InvPc, NoCp, StackLimit, Unaligned, DivZero, DataAccess, Exec, Precise, ExecBus, Violation, EntryPoint, Transition, ExcReturn, Signature, Breakpoint, Call}
use Rattle.tz_model.specs.declared.report.Slot.{Slot}
use Rattle.tz_model.specs.Words.{wrap, even_of}
use Rattle.tz_regs.specs.declared.parts.Core.{Core}
use Rattle.tz_regs.specs.declared.parts.Registers.{Registers}
use Rattle.tz_regs.specs.declared.parts.Status.{Status}
use Rattle.tz_regs.specs.Banks.{stacks_of}
use Rattle.tz_regs.specs.FaultBits.{iaccviol, daccviol, munstkerr, mstkerr, mmarvalid, undefinstr, invstate, invpc, nocp, stkof, unaligned, divbyzero}
use Rattle.tz_regs.specs.Registers.{is_privileged, uses_process, sp_of}
use Rattle.tz_regs.specs.Special.{number_of}
use Rattle.tz_state.specs.declared.request.Kind.TheVariants.{Write}
use Rattle.tz_state.specs.declared.taken.Taken.{Taken}
use Rattle.tz_state.specs.declared.taken.Taken.TheVariants.{AsIs, Hard, Lockup}
use Rattle.tz_state.specs.Memory.{every, word_at}
use Rattle.tz_state.specs.Attribution.{is_open}
use Rattle.tz_state.specs.Slots.{ExceptionsValue}
use Rattle.tz_state.specs.Priority.{chosen}
use Rattle.tz_state.specs.Execution.{takes_first}
use Rattle.tz_state.specs.Escalation.{escalated}
use Rattle.tz_state.specs.Access.{may_touch}
use Rattle.tz_state.specs.State.{Bus, map_in}
use Rattle.tz_frames.specs.FrameAccess.{FrameStore}
use Rattle.tz_frames.specs.Machine.{Framed, frame_verdict, vector_at, vector_verdict, framed_read, framed_write, framed}
use Rattle.tz_frames.specs.declared.frame.StackFault.{StackFault}
use Rattle.tz_frames.specs.declared.frame.StackFault.TheVariants.{Limit, Access, Signature as Unsigned}
use Rattle.tz_frames.specs.declared.entering.Entering.{Entering}
use Rattle.tz_frames.specs.declared.entering.Choice.{Choice}
use Rattle.tz_frames.specs.declared.entering.Choice.TheVariants as choices
use Rattle.tz_frames.specs.declared.entering.Entered.{Entered}
use Rattle.tz_frames.specs.declared.entering.Entered.TheVariants as entered
use Rattle.tz_frames.specs.declared.leaving.Returning.{Returning}
use Rattle.tz_frames.specs.declared.leaving.Unstacked.{Unstacked}
use Rattle.tz_frames.specs.declared.leaving.Left.{Left}
use Rattle.tz_frames.specs.declared.leaving.Left.TheVariants as lefts
use Rattle.tz_frames.specs.declared.entering.FrameFault.{FrameFault}
use Rattle.tz_frames.specs.declared.leaving.Refusal.{Refusal}
use Rattle.tz_frames.specs.declared.leaving.Refusal.TheVariants as refusals
use Rattle.tz_frames.specs.Registers.{no_flags, scratch_cleared, all_cleared}
use Rattle.tz_frames.specs.Status.{with_ufsr, with_mmfsr, with_mmfar, status_after, word_status, frame_status, exception_of, frame_exception, Raised, with_status, raised_as, faulted, frame_faulted}
use Rattle.tz_frames.specs.Stack.{Pushed, splim_of, with_side_sp, after_store, written, pushed_with, pushed, basic_base, basic_words, pushed_basic, callee_words, pushed_additional}
use Rattle.tz_frames.specs.Enter.{Work, Chosen, Done, is_secure, exc_return, dcrs_of, handling, can_be_hard_fault, vector_choice, vectored_by, vectored, vector_failed, vector_touched, needs_additional, with_additional, callee_process, callee_privileged, raised_choice, after_raise, stacked_by, stacked, taking, choosing_from, choosing, locked_up, goes_on, tries, interrupted, begins_raised, begins, enters, without_frame}
use Rattle.tz_frames.specs.Leave.{returning_by, side_of_bit, exc_return_fault, slot_returning, freed, core_returning, chaining, Leaving, left_of, chained, chained_raised, unstacked, modes_agree, resumes, goes_back, leaves_noting, leaves}

-- what a Non-secure handler finds, from the registers `r` of the code before it, which was Secure or not, and from the
-- table that VTOR of the Non-secure side names
pub record Handled (secure : Bool) (table number : ℕ) (r : Registers) (c : Core) (f : Framed) : Type 0 where
  pub side : c.run.side ≡ NonSecure
  pub vector : every (is_open (map_in f.bus)) (wrap (table + 4 * number)) Word ≡ true
  pub registers : c.registers ≡ record {
    general = (cond secure (all_cleared r) (scratch_cleared r)).general;
    lr = c.registers.lr;
    pc = even_of (word_at f.bus.memory (wrap (table + 4 * number)));
    apsr = no_flags;
    it = 0;
    t = word_at f.bus.memory (wrap (table + 4 * number)) % 2 == 1;
    ipsr = number;
  }
  pub lr : (c.registers.lr / 2 ^ 6 % 2 == 1) ≡ secure
  pub vtor : c.status.ns.vtor ≡ table

-- by the side of the exception that was taken; where it is Secure, Secure code runs
abbrev pub HandledAt : Bool → ℕ → Registers → Core → Framed → Slot → Type 0
HandledAt secure vtor r c f given = of_side given.side where
  of_side : Side → Type 0
  of_side Secure = c.run.side ≡ Secure
  of_side NonSecure = Handled secure vtor given.number r c f

-- where an entry takes an exception
abbrev pub EnteredHandled : Bool → ℕ → Registers → Core → Framed → Entered → Type 0
EnteredHandled secure vtor r c f (entered.Taken given entry) = HandledAt secure vtor r c f given
EnteredHandled secure vtor r c f (entered.Lockup entry) = Unit {0}

-- where a return is a tail-chain; and one that unstacked for Secure code resumed it
abbrev pub LeftHandled : Bool → ℕ → Registers → Core → Framed → Left → Type 0
LeftHandled secure vtor r c f (lefts.Chained given refused entry) = HandledAt secure vtor r c f given
LeftHandled secure vtor r c f (lefts.Resumed touched) = touched ≡ true → c.run.side ≡ Secure
LeftHandled secure vtor r c f (lefts.Lockup refused entry) = Unit {0}

-- ---- what is carried on until an exception is taken

-- of the beginning: whether the code is Secure, VTOR of the Non-secure side, and the registers
record Known : Type 0 where
  pub secure : Bool
  pub vtor : ℕ
  pub registers : Registers

record Carried (k : Known) (c : Core) (f : Framed) : Type 0 where
  pub registers : c.registers ≡ k.registers
  pub status : c.status.ns.vtor ≡ k.vtor
  pub held : f.vtor_ns ≡ k.vtor

record Carries (k : Known) (w : Work Framed) : Type 0 where
  pub carried : Carried k w.core w.held
  pub secure : w.entry.secure ≡ k.secure

-- what comes of a choice
abbrev Came : Known → Work Framed → Choice → Type 0
Came k v (choices.Taken given) = HandledAt k.secure k.vtor k.registers v.core v.held given
Came k v choices.Lockup = Unit {0}
Came k v choices.Again = Carries k v

abbrev CameOf : Known → Chosen Framed → Type 0
CameOf k a = Came k a.work a.choice

-- what an entry ends in, and what a return does
abbrev Ends : Known → Done Framed → Type 0
Ends k d = EnteredHandled k.secure k.vtor k.registers d.core d.held d.result

abbrev Leaves : Known → Leaving Framed → Type 0
Leaves k l = LeftHandled k.secure k.vtor k.registers l.core l.held l.result

-- ---- faults: they set no VTOR, and no register

ufsr_vtor : (side : Side) (bits : ℕ) (s : Status) → (with_ufsr side bits s).ns.vtor ≡ s.ns.vtor
ufsr_vtor Secure bits s = refl
ufsr_vtor NonSecure bits s = refl

mmfsr_vtor : (side : Side) (bits : ℕ) (s : Status) → (with_mmfsr side bits s).ns.vtor ≡ s.ns.vtor
mmfsr_vtor Secure bits s = refl
mmfsr_vtor NonSecure bits s = refl

mmfar_vtor : (side : Side) (a : ℕ) (s : Status) → (with_mmfar side a s).ns.vtor ≡ s.ns.vtor
mmfar_vtor Secure a s = refl
mmfar_vtor NonSecure a s = refl

status_vtor : (side : Side) (fault : Fault) (s : Status) → (status_after side fault s).ns.vtor ≡ s.ns.vtor
status_vtor side Undef s = ufsr_vtor side undefinstr s
status_vtor side InvState s = ufsr_vtor side invstate s
status_vtor side (InvPc of) s = ufsr_vtor of invpc s
status_vtor side NoCp s = ufsr_vtor side nocp s
status_vtor side (StackLimit of) s = ufsr_vtor of stkof s
status_vtor side Unaligned s = ufsr_vtor side unaligned s
status_vtor side DivZero s = ufsr_vtor side divbyzero s
status_vtor side (DataAccess a of) s = mmfar_vtor of a (with_mmfsr of (daccviol + mmarvalid) s) ∙ mmfsr_vtor of (daccviol + mmarvalid) s
status_vtor side (Exec of) s = mmfsr_vtor of iaccviol s
status_vtor side (Precise a) s = refl
status_vtor side ExecBus s = refl
status_vtor side (Violation a) s = refl
status_vtor side EntryPoint s = refl
status_vtor side Transition s = refl
status_vtor side ExcReturn s = refl
status_vtor side Signature s = refl
status_vtor side Breakpoint s = refl
status_vtor side Call s = refl

word_vtor : (stacking : Bool) (side : Side) (fault : Fault) (s : Status) → (word_status stacking side fault s).ns.vtor ≡ s.ns.vtor
word_vtor stacking side (DataAccess a of) s = mmfsr_vtor of (if stacking then mstkerr else munstkerr) s
word_vtor stacking side (Precise a) s = refl
word_vtor stacking side (Violation a) s = refl
word_vtor stacking side fault s = status_vtor side fault s

frame_vtor : (stacking : Bool) (side : Side) (fault : StackFault) (s : Status) → (frame_status stacking side fault s).ns.vtor ≡ s.ns.vtor
frame_vtor stacking side (Limit of) s = ufsr_vtor of stkof s
frame_vtor stacking side (Access fault) s = word_vtor stacking side fault s
frame_vtor stacking side Unsigned s = refl

raised_as_carried : (k : Known) (t : Taken) (given : Slot) (c : Core) (e : ExceptionsValue) (f : Framed) → Carried k c f → Carried k (raised_as t given c e).core f
raised_as_carried k AsIs given c e f h = h
raised_as_carried k (Hard side) given c e f h = record { registers = h.registers; status = h.status; held = h.held }
raised_as_carried k Lockup given c e f h = record { registers = h.registers; status = h.status; held = h.held }

faulted_carried : (k : Known) (side : Side) (fault : Fault) (c : Core) (e : ExceptionsValue) (f : Framed) → Carried k c f → Carried k (faulted side fault c e).core f
faulted_carried k side fault c e f h =
    let given = exception_of e side fault in
    raised_as_carried k (escalated e c.masks given) given (with_status c (status_after side fault c.status)) e f
    (record { registers = h.registers; status = status_vtor side fault c.status ∙ h.status; held = h.held })

frame_faulted_carried : (k : Known) (stacking : Bool) (side : Side) (fault : StackFault) (c : Core) (e : ExceptionsValue) (f : Framed) → Carried k c f
    → Carried k (frame_faulted stacking side fault c e).core f
frame_faulted_carried k stacking side fault c e f h =
    let given = frame_exception e side fault in
    raised_as_carried k (escalated e c.masks given) given (with_status c (frame_status stacking side fault c.status)) e f
    (record { registers = h.registers; status = frame_vtor stacking side fault c.status ∙ h.status; held = h.held })

-- ---- frames that are written

store_vtor : (v : Option Fault) (f : Framed) (a value : ℕ) → (framed_write v f a value).0.vtor_ns ≡ f.vtor_ns
store_vtor (Some fault) f a value = refl
store_vtor None f a value = refl

after_store_vtor : (n : ℕ) (a : Framed × Result ℕ Fault) (later : Framed → Framed × Option Fault) → a.0.vtor_ns ≡ n → ((g : Framed) → g.vtor_ns ≡ n → (later g).0.vtor_ns ≡ n)
    → (after_store a later).0.vtor_ns ≡ n
after_store_vtor n (g, Ok done) later h more = more g h
after_store_vtor n (g, Err fault) later h more = h

written_vtor : (n : ℕ) (side : Side) (privileged : Bool) (words : List ℕ) (f : Framed) (a : ℕ) → f.vtor_ns ≡ n → (written framed side privileged f a words).0.vtor_ns ≡ n
unfolding written
written_vtor n side privileged [] f a h = h
written_vtor n side privileged (word ∷ words) f a h =
    after_store_vtor n (framed f (FrameStore a side privileged word)) (λ left. written framed side privileged left (wrap (a + 4)) words)
    (store_vtor (frame_verdict f Write a side privileged) f a word ∙ h) (λ g is. written_vtor n side privileged words g (wrap (a + 4)) is)

abbrev CarriedBy : Known → Pushed Framed → Type 0
CarriedBy k p = Carried k p.core p.held

pushed_cond : (k : Known) (t : Bool) (x y : Pushed Framed) → CarriedBy k x → CarriedBy k y → CarriedBy k (cond t x y)
pushed_cond k true x y p q = p
pushed_cond k false x y p q = q

pushed_carried : (k : Known) (c : Core) (f : Framed) (side : Side) (process privileged : Bool) (base : ℕ) (words : List ℕ) → Carried k c f
    → CarriedBy k (pushed framed c f side process privileged base words)
pushed_carried k c f side process privileged base words h =
    pushed_cond k (nat_lt base (splim_of process (stacks_of side c))) _ (pushed_with (with_side_sp side process base c) (written framed side privileged f base words))
    (record { registers = h.registers; status = h.status; held = h.held })
    (record { registers = h.registers; status = h.status; held = written_vtor k.vtor side privileged words f base h.held })

basic_carried : (k : Known) (c : Core) (f : Framed) (back : ℕ) → Carried k c f → CarriedBy k (pushed_basic framed c f back)
unfolding pushed_basic
basic_carried k c f back h =
    let process = uses_process c.registers.ipsr (stacks_of c.run.side c) in
    let sp = sp_of process (stacks_of c.run.side c) in
    pushed_carried k c f c.run.side process (is_privileged c.registers.ipsr (stacks_of c.run.side c)) (basic_base sp) (basic_words c.registers back sp) h

additional_carried : (k : Known) (c : Core) (f : Framed) (process privileged : Bool) → Carried k c f → CarriedBy k (pushed_additional framed c f process privileged)
unfolding pushed_additional
additional_carried k c f process privileged h =
    pushed_carried k c f Secure process privileged (wrap (sp_of process c.stacks_s + (2 ^ 32 - 40))) (callee_words c.registers.general) h

-- ---- the exception is taken

-- bit 6 of EXC_RETURN
return_bit : (secure dcrs thread spsel : Bool)
    → ((0xFFFFFF80 + 2 ^ 6 * number_of secure + 2 ^ 5 * number_of dcrs + 2 ^ 4 + 2 ^ 3 * number_of thread + 2 ^ 2 * number_of spsel + 0) / 2 ^ 6 % 2 == 1) ≡ secure
return_bit true true true true = refl
return_bit true true true false = refl
return_bit true true false true = refl
return_bit true true false false = refl
return_bit true false true true = refl
return_bit true false true false = refl
return_bit true false false true = refl
return_bit true false false false = refl
return_bit false true true true = refl
return_bit false true true false = refl
return_bit false true false true = refl
return_bit false true false false = refl
return_bit false false true true = refl
return_bit false false true false = refl
return_bit false false false true = refl
return_bit false false false false = refl

-- a vector that is read is Non-secure
open_vector : (b : Bus) (a : ℕ) → vector_verdict b NonSecure a ≡ None → every (is_open (map_in b)) a Word ≡ true
unfolding may_touch
open_vector b a e = go (every (is_open (map_in b)) a Word) _ e where
  go : (touch : Bool) (rest : Option Fault) → cond (not touch) (Some (Violation a)) rest ≡ None → touch ≡ true
  go true rest h = refl
  go false rest h = cc

abbrev of_number : ℕ → Side → Slot
of_number number side = record { number = number; side = side }

-- the flags are clear in both cases
cleared_registers : (secure : Bool) (r : Registers) (lr pc number : ℕ) (t : Bool)
    → record (cond secure (all_cleared r) (scratch_cleared r)) { lr = lr; pc = pc; it = 0; t = t; ipsr = number }
    ≡ record { general = (cond secure (all_cleared r) (scratch_cleared r)).general; lr = lr; pc = pc; apsr = no_flags; it = 0; t = t; ipsr = number }
cleared_registers true r lr pc number t = refl
cleared_registers false r lr pc number t = refl

handling_finds : (profile : Profile) (w : Work Framed) (number : ℕ) → w.core.status.ns.vtor ≡ w.held.vtor_ns → vector_verdict w.held.bus NonSecure (vector_at w.held number NonSecure) ≡ None
    → Handled w.entry.secure w.held.vtor_ns number w.core.registers
    (handling profile w.core w.entry (of_number number NonSecure) (word_at w.held.bus.memory (vector_at w.held number NonSecure))) w.held
handling_finds profile w number vtor e =
    let vector = word_at w.held.bus.memory (vector_at w.held number NonSecure) in
    record {
      side = refl;
      vector = open_vector w.held.bus (vector_at w.held number NonSecure) e;
      registers = cleared_registers w.entry.secure w.core.registers (exc_return w.entry w.core.stacks_ns.spsel NonSecure) (even_of vector) number (vector % 2 == 1);
      lr = return_bit w.entry.secure (dcrs_of w.entry NonSecure) w.entry.thread w.core.stacks_ns.spsel;
      vtor = vtor;
    }

-- of what the core carries on, by what it had in the beginning
handled_from : (k : Known) (w : Work Framed) (number : ℕ) (c : Core) → Carries k w → Handled w.entry.secure w.held.vtor_ns number w.core.registers c w.held
    → Handled k.secure k.vtor number k.registers c w.held
handled_from k w number c h x =
    subst (λ (secure : Bool). Handled secure k.vtor number k.registers c w.held) h.secure
    (subst (λ (vtor : ℕ). Handled w.entry.secure vtor number k.registers c w.held) h.carried.held
    (subst (λ (r : Registers). Handled w.entry.secure w.held.vtor_ns number r c w.held) h.carried.registers x))

-- a vector that fails takes no exception
failed_came : (k : Known) (w : Work Framed) (given : Slot) → Carries k w → CameOf k (vector_failed w given)
unfolding vector_failed
failed_came k w given h = go (can_be_hard_fault w.core w.exceptions given) where
  go : (taken : Bool) → Came k (vector_failed w given).work (vector_choice taken)
  go true = record { carried = record { registers = h.carried.registers; status = h.carried.status; held = h.carried.held }; secure = h.secure }
  go false = tt

-- by what the vector's address was refused for, or wasn't
vectored_by_came : (k : Known) (profile : Profile) (w : Work Framed) (number : ℕ) (side : Side) (v : Option Fault) → vector_verdict w.held.bus side (vector_at w.held number side) ≡ v → Carries k w
    → CameOf k (vectored_by profile w (of_number number side) (framed_read v w.held (vector_at w.held number side)).1)
vectored_by_came k profile w number Secure None e h = refl
vectored_by_came k profile w number NonSecure None e h =
    let vector = word_at w.held.bus.memory (vector_at w.held number NonSecure) in
    handled_from k w number (handling profile w.core w.entry (of_number number NonSecure) vector) h (handling_finds profile w number (h.carried.status ∙ sym h.carried.held) e)
vectored_by_came k profile w number side (Some fault) e h = failed_came k w (of_number number side) h

vectored_came : (k : Known) (profile : Profile) (w : Work Framed) (given : Slot) → Carries k w → CameOf k (vectored framed profile w given)
unfolding vectored
vectored_came k profile w given h =
    vectored_by_came k profile (record w { entry = vector_touched w.entry given.side }) given.number given.side _ refl (record { carried = h.carried; secure = h.secure })

-- ---- one choice

raise_came : (k : Known) (f : Framed) (x : Entering) (r : Raised) → Carried k r.core f → x.secure ≡ k.secure → CameOf k (after_raise f x r)
raise_came k f x r h is = go r.locks where
  go : (locks : Bool) → Came k (after_raise f x r).work (raised_choice locks)
  go true = tt
  go false = record { carried = h; secure = is }

stacked_by_came : (k : Known) (profile : Profile) (w : Work Framed) (given : Slot) (first : Option FrameFault) (fault : Option StackFault) → Carries k w → CameOf k (stacked_by framed profile w given first fault)
stacked_by_came k profile w given None (Some fault) h =
    raise_came k w.held (without_frame w.entry true fault) (frame_faulted true Secure fault w.core w.exceptions) (frame_faulted_carried k true Secure fault w.core w.exceptions w.held h.carried) h.secure
stacked_by_came k profile w given (Some first) (Some fault) h = vectored_came k profile w given h
stacked_by_came k profile w given first None h = vectored_came k profile w given h

stacked_came : (k : Known) (profile : Profile) (w : Work Framed) (given : Slot) (p : Pushed Framed) → CarriedBy k p → w.entry.secure ≡ k.secure → CameOf k (stacked framed profile w given p)
stacked_came k profile w given p h is =
    stacked_by_came k profile (record w { core = p.core; held = p.held; entry = with_additional w.entry }) given w.entry.frame p.fault (record { carried = h; secure = is })

chosen_cond : (k : Known) (t : Bool) (x y : Chosen Framed) → CameOf k x → CameOf k y → CameOf k (cond t x y)
chosen_cond k true x y p q = p
chosen_cond k false x y p q = q

taking_came : (k : Known) (profile : Profile) (w : Work Framed) (given : Slot) → Carries k w → CameOf k (taking framed profile w given)
unfolding taking
taking_came k profile w given h =
    let p = pushed_additional framed w.core w.held (callee_process w.core w.entry) (callee_privileged w.core w.entry) in
    let v : Work Framed = record w { entry = record w.entry { needed_additional = w.entry.needed_additional || needs_additional w.entry given } } in
    chosen_cond k (needs_additional w.entry given && not w.entry.skip) (stacked framed profile w given p) (vectored framed profile v given)
    (stacked_came k profile w given p (additional_carried k w.core w.held (callee_process w.core w.entry) (callee_privileged w.core w.entry) h.carried) h.secure)
    (vectored_came k profile v given (record { carried = h.carried; secure = h.secure }))

choosing_from_came : (k : Known) (profile : Profile) (w : Work Framed) (first : Option Slot) → Carries k w → CameOf k (choosing_from framed profile w first)
choosing_from_came k profile w None h = tt
choosing_from_came k profile w (Some given) h = taking_came k profile w given h

choosing_came : (k : Known) (profile : Profile) (w : Work Framed) → Carries k w → CameOf k (choosing framed profile w)
unfolding choosing
choosing_came k profile w h = choosing_from_came k profile w (chosen w.exceptions) h

-- ---- the choices

goes_on_ends : (k : Known) (again : Work Framed → Done Framed) (w : Work Framed) (choice : Choice) → Came k w choice → ((v : Work Framed) → Carries k v → Ends k (again v)) → Ends k (goes_on again w choice)
goes_on_ends k again w (choices.Taken given) h more = h
goes_on_ends k again w choices.Lockup h more = tt
goes_on_ends k again w choices.Again h more = more w h

tries_ends : (k : Known) (profile : Profile) (n : ℕ) (w : Work Framed) → Carries k w → Ends k (tries framed profile n w)
unfolding tries
tries_ends k profile zero w h = tt
tries_ends k profile (suc n) w h =
    goes_on_ends k (tries framed profile n) (choosing framed profile w).work (choosing framed profile w).choice (choosing_came k profile w h) (tries_ends k profile n)

-- ---- entry

done_cond : (k : Known) (t : Bool) (x y : Done Framed) → Ends k x → Ends k y → Ends k (cond t x y)
done_cond k true x y p q = p
done_cond k false x y p q = q

begins_raised_ends : (k : Known) (profile : Profile) (f : Framed) (x : Entering) (r : Raised) → Carried k r.core f → x.secure ≡ k.secure → Ends k (begins_raised framed profile f x r)
begins_raised_ends k profile f x r h is =
    let w : Work Framed = record { core = r.core; exceptions = r.exceptions; held = f; entry = x } in
    done_cond k r.locks (locked_up w) (tries framed profile 4 w) tt (tries_ends k profile 4 w (record { carried = h; secure = is }))

begins_ends : (k : Known) (profile : Profile) (side : Side) (e : ExceptionsValue) (x : Entering) (c : Core) (f : Framed) (fault : Option StackFault) → Carried k c f → x.secure ≡ k.secure
    → Ends k (begins framed profile side e x c f fault)
begins_ends k profile side e x c f None h is =
    tries_ends k profile 4 (record { core = c; exceptions = e; held = f; entry = x }) (record { carried = h; secure = is })
begins_ends k profile side e x c f (Some fault) h is =
    begins_raised_ends k profile f (without_frame x false fault) (frame_faulted true side fault c e) (frame_faulted_carried k true side fault c e f h) is

-- what an entry takes finds the registers of the code that was interrupted, cleared
pub enters_handled : (profile : Profile) (c : Core) (e : ExceptionsValue) (f : Framed) (back : ℕ) → f.vtor_ns ≡ c.status.ns.vtor
    → let d = enters framed profile c e f back in EnteredHandled (is_secure c.run.side) c.status.ns.vtor c.registers d.core d.held d.result
unfolding enters
enters_handled profile c e f back held =
    let k : Known = record { secure = is_secure c.run.side; vtor = c.status.ns.vtor; registers = c.registers } in
    let p = pushed_basic framed c f back in
    begins_ends k profile c.run.side e (interrupted c) p.core p.held p.fault (basic_carried k c f back (record { registers = refl; status = refl; held = held })) refl

-- ---- return

entered_left : (k : Known) (refused : Option Refusal) (c : Core) (f : Framed) (x : Entered) → EnteredHandled k.secure k.vtor k.registers c f x → LeftHandled k.secure k.vtor k.registers c f (left_of refused x)
entered_left k refused c f (entered.Taken given entry) h = h
entered_left k refused c f (entered.Lockup entry) h = tt

chained_leaves : (k : Known) (profile : Profile) (r : Returning) (refused : Option Refusal) (touched : Bool) (c : Core) (e : ExceptionsValue) (f : Framed) → Carried k c f → r.secure ≡ k.secure
    → Leaves k (chained framed profile r refused touched c e f)
unfolding chained
chained_leaves k profile r refused touched c e f h is =
    let w : Work Framed = record { core = c; exceptions = e; held = f; entry = chaining r touched } in
    let d = tries framed profile 4 w in
    entered_left k refused d.core d.held d.result (tries_ends k profile 4 w (record { carried = h; secure = is }))

leaving_cond : (k : Known) (t : Bool) (x y : Leaving Framed) → Leaves k x → Leaves k y → Leaves k (cond t x y)
leaving_cond k true x y p q = p
leaving_cond k false x y p q = q

chained_raised_leaves : (k : Known) (profile : Profile) (r : Returning) (refusal : Refusal) (touched : Bool) (f : Framed) (raised : Raised) → Carried k raised.core f → r.secure ≡ k.secure
    → Leaves k (chained_raised framed profile r refusal touched f raised)
chained_raised_leaves k profile r refusal touched f raised h is =
    leaving_cond k raised.locks _ (chained framed profile r (Some refusal) touched raised.core raised.exceptions f) tt
    (chained_leaves k profile r (Some refusal) touched raised.core raised.exceptions f h is)

secured : (secure : Bool) → secure ≡ true → side_of_bit secure ≡ Secure
secured true e = refl
secured false e = cc

resumes_leaves : (k : Known) (profile : Profile) (r : Returning) (c : Core) (e : ExceptionsValue) (f : Framed) (u : Result Unstacked StackFault) → Carried k c f → r.secure ≡ k.secure
    → Leaves k (resumes framed profile r c e f u)
resumes_leaves k profile r c e f (Err fault) h is =
    let side = side_of_bit r.secure in
    chained_raised_leaves k profile r (refusals.Frame fault) r.secure f (frame_faulted false side fault c e) (frame_faulted_carried k false side fault c e f h) is
resumes_leaves k profile r c e f (Ok u) h is =
    let side = side_of_bit r.secure in
    let raised = faulted side (InvPc side) c e in
    leaving_cond k (modes_agree r u.basic) _ (chained_raised framed profile r (refusals.Mode (side_of_bit r.secure)) r.secure f raised) (secured r.secure)
    (chained_raised_leaves k profile r (refusals.Mode (side_of_bit r.secure)) r.secure f raised (faulted_carried k side (InvPc side) c e f h) is)

goes_back_leaves : (k : Known) (profile : Profile) (r : Returning) (c : Core) (e : ExceptionsValue) (f : Framed) → Carried k c f → r.secure ≡ k.secure → Leaves k (goes_back framed profile r c e f)
unfolding goes_back
goes_back_leaves k profile r c e f h is =
    leaving_cond k (takes_first e c.masks) (chained framed profile r None false c e f) (resumes framed profile r c e f (unstacked framed c r f))
    (chained_leaves k profile r None false c e f h is) (resumes_leaves k profile r c e f (unstacked framed c r f) h is)

leaves_noting_leaves : (k : Known) (profile : Profile) (side : Side) (fault : Option Fault) (r : Returning) (c : Core) (e : ExceptionsValue) (f : Framed) → Carried k c f → r.secure ≡ k.secure
    → Leaves k (leaves_noting framed profile side fault r c e f)
leaves_noting_leaves k profile side (Some fault) r c e f h is = chained_raised_leaves k profile r (refusals.Value fault) false f (faulted side fault c e) (faulted_carried k side fault c e f h) is
leaves_noting_leaves k profile side None r c e f h is = goes_back_leaves k profile r c e f h is

-- what a tail-chain takes finds the registers of the handler that returned, cleared
pub leaves_handled : (profile : Profile) (c : Core) (e : ExceptionsValue) (f : Framed) (value : ℕ) → f.vtor_ns ≡ c.status.ns.vtor
    → let l = leaves framed profile c e f value in LeftHandled (returning_by c.run.side value).secure c.status.ns.vtor c.registers l.core l.held l.result
unfolding leaves
leaves_handled profile c e f value held =
    let r = returning_by c.run.side value in
    let k : Known = record { secure = r.secure; vtor = c.status.ns.vtor; registers = c.registers } in
    leaves_noting_leaves k profile c.run.side (exc_return_fault c e value) r (core_returning e r c) (freed e (slot_returning c r)) f (record { registers = refl; status = refl; held = held }) refl
