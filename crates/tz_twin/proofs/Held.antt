-- Entry and return change of what they hold the memory alone.
use Rattle.std.proofs.Common.{◌≡◌, ℕ, zero, suc, ◌+◌, ◌-◌, ◌^◌, Bool, true, false, ◌&&◌, ◌||◌, not, cond, List, [], ◌∷◌, Option, Some, None, Result, Ok, Err, refl, ap, ◌∙◌}
use Rattle.std.specs.Prelude.{nat_lt}
use Rattle.tz_table.specs.declared.units.Side.{Side}
use Rattle.tz_table.specs.declared.units.Side.TheVariants.{Secure}
use Rattle.tz_model.specs.declared.board.Profile.{Profile}
use Rattle.tz_model.specs.declared.report.Fault.{Fault}
use Rattle.tz_model.specs.declared.report.Fault.TheVariants.{InvPc}
use Rattle.tz_model.specs.declared.report.Slot.{Slot}
use Rattle.tz_model.specs.Words.{wrap}
use Rattle.tz_regs.specs.declared.parts.Core.{Core}
use Rattle.tz_regs.specs.Banks.{stacks_of}
use Rattle.tz_regs.specs.Registers.{is_privileged, uses_process, sp_of}
use Rattle.tz_state.specs.declared.request.Kind.TheVariants.{Write}
use Rattle.tz_state.specs.Slots.{ExceptionsValue}
use Rattle.tz_state.specs.Priority.{chosen}
use Rattle.tz_state.specs.Execution.{takes_first}
use Rattle.tz_state.specs.State.{Bus, with_memory}
use Rattle.tz_frames.specs.FrameAccess.{FrameAccess, Vector, SecureLoad, FrameLoad, FrameStore}
use Rattle.tz_frames.specs.Machine.{Framed, frame_verdict, framed_read, framed_write, framed}
use Rattle.tz_frames.specs.declared.frame.StackFault.{StackFault}
use Rattle.tz_frames.specs.declared.entering.Entering.{Entering}
use Rattle.tz_frames.specs.declared.entering.Choice.{Choice}
use Rattle.tz_frames.specs.declared.entering.Choice.TheVariants as choices
use Rattle.tz_frames.specs.declared.leaving.Returning.{Returning}
use Rattle.tz_frames.specs.declared.leaving.Unstacked.{Unstacked}
use Rattle.tz_frames.specs.declared.entering.FrameFault.{FrameFault}
use Rattle.tz_frames.specs.declared.leaving.Refusal.{Refusal}
use Rattle.tz_frames.specs.declared.leaving.Refusal.TheVariants as refusals
use Rattle.tz_frames.specs.Status.{Raised, faulted, frame_faulted}
use Rattle.tz_frames.specs.Stack.{Pushed, splim_of, with_side_sp, after_store, written, pushed_with, pushed, basic_base, basic_words, pushed_basic, callee_words, pushed_additional}
use Rattle.tz_frames.specs.Enter.{Work, Chosen, Done, vectored_by, vectored, vector_failed, vector_touched, needs_additional, with_additional, callee_process, callee_privileged, stacked_by, stacked, taking, choosing_from, choosing, locked_up, goes_on, tries, interrupted, begins_raised, begins, enters, without_frame}
use Rattle.tz_frames.specs.Leave.{returning_by, exc_return_fault, slot_returning, freed, core_returning, chaining, side_of_bit, Leaving, chained, chained_raised, unstacked, modes_agree, resumes, goes_back, leaves_noting, leaves}

-- of a bus the memory alone is another
abbrev pub BusKept : Framed → Framed → Type 0
BusKept f f' = f'.bus ≡ with_memory f.bus f'.bus.memory

pub bus_then : (f f' f'' : Framed) → BusKept f f' → BusKept f' f'' → BusKept f f''
bus_then f f' f'' h k = k ∙ ap (λ (b : Bus). with_memory b f''.bus.memory) h

-- ---- looks

looked_kept : (v : Option Fault) (f : Framed) (a : ℕ) → BusKept f (framed_read v f a).0
looked_kept (Some fault) f a = refl
looked_kept None f a = refl

store_kept : (v : Option Fault) (f : Framed) (a value : ℕ) → BusKept f (framed_write v f a value).0
store_kept (Some fault) f a value = refl
store_kept None f a value = refl

pub framed_kept : (f : Framed) (q : FrameAccess) → BusKept f (framed f q).0
framed_kept f (Vector number side) = looked_kept _ f _
framed_kept f (SecureLoad a) = looked_kept _ f a
framed_kept f (FrameLoad a side privileged) = looked_kept _ f a
framed_kept f (FrameStore a side privileged value) = store_kept (frame_verdict f Write a side privileged) f a value

-- ---- frames that are written

after_store_kept : (f : Framed) (a : Framed × Result ℕ Fault) (later : Framed → Framed × Option Fault) → BusKept f a.0 → ((g : Framed) → BusKept g (later g).0) → BusKept f (after_store a later).0
after_store_kept f (g, Ok done) later h more = bus_then f g (later g).0 h (more g)
after_store_kept f (g, Err fault) later h more = h

pub written_held : (side : Side) (privileged : Bool) (words : List ℕ) (f : Framed) (a : ℕ) → BusKept f (written framed side privileged f a words).0
unfolding written
written_held side privileged [] f a = refl
written_held side privileged (word ∷ words) f a =
    after_store_kept f (framed f (FrameStore a side privileged word)) (λ left. written framed side privileged left (wrap (a + 4)) words) (framed_kept f (FrameStore a side privileged word))
    (λ g. written_held side privileged words g (wrap (a + 4)))

pushed_cond : (f : Framed) (t : Bool) (x y : Pushed Framed) → BusKept f x.held → BusKept f y.held → BusKept f (cond t x y).held
pushed_cond f true x y h k = h
pushed_cond f false x y h k = k

pushed_held : (c : Core) (f : Framed) (side : Side) (process privileged : Bool) (base : ℕ) (words : List ℕ) → BusKept f (pushed framed c f side process privileged base words).held
pushed_held c f side process privileged base words =
    pushed_cond f (nat_lt base (splim_of process (stacks_of side c))) _ (pushed_with (with_side_sp side process base c) (written framed side privileged f base words)) refl
    (written_held side privileged words f base)

pub basic_held : (c : Core) (f : Framed) (back : ℕ) → BusKept f (pushed_basic framed c f back).held
unfolding pushed_basic
basic_held c f back =
    let process = uses_process c.registers.ipsr (stacks_of c.run.side c) in
    let sp = sp_of process (stacks_of c.run.side c) in
    pushed_held c f c.run.side process (is_privileged c.registers.ipsr (stacks_of c.run.side c)) (basic_base sp) (basic_words c.registers back sp)

additional_held : (c : Core) (f : Framed) (process privileged : Bool) → BusKept f (pushed_additional framed c f process privileged).held
unfolding pushed_additional
additional_held c f process privileged =
    pushed_held c f Secure process privileged (wrap (sp_of process c.stacks_s + (2 ^ 32 - 40))) (callee_words c.registers.general)

-- ---- one choice

vectored_by_held : (profile : Profile) (w : Work Framed) (given : Slot) (r : Result ℕ Fault) → BusKept w.held (vectored_by profile w given r).work.held
unfolding vector_failed
vectored_by_held profile w given (Ok vector) = refl
vectored_by_held profile w given (Err fault) = refl

vectored_held : (profile : Profile) (w : Work Framed) (given : Slot) → BusKept w.held (vectored framed profile w given).work.held
unfolding vectored
vectored_held profile w given =
    vectored_by_held profile (record w { entry = vector_touched w.entry given.side }) given (framed w.held (Vector given.number given.side)).1

stacked_by_held : (profile : Profile) (w : Work Framed) (given : Slot) (first : Option FrameFault) (fault : Option StackFault) → BusKept w.held (stacked_by framed profile w given first fault).work.held
stacked_by_held profile w given None (Some fault) = refl
stacked_by_held profile w given (Some first) (Some fault) = vectored_held profile w given
stacked_by_held profile w given first None = vectored_held profile w given

stacked_held : (profile : Profile) (w : Work Framed) (given : Slot) (p : Pushed Framed) → BusKept w.held p.held → BusKept w.held (stacked framed profile w given p).work.held
stacked_held profile w given p h =
    bus_then w.held p.held (stacked framed profile w given p).work.held h
    (stacked_by_held profile (record w { core = p.core; held = p.held; entry = with_additional w.entry }) given w.entry.frame p.fault)

chosen_cond : (f : Framed) (t : Bool) (x y : Chosen Framed) → BusKept f x.work.held → BusKept f y.work.held → BusKept f (cond t x y).work.held
chosen_cond f true x y h k = h
chosen_cond f false x y h k = k

taking_held : (profile : Profile) (w : Work Framed) (given : Slot) → BusKept w.held (taking framed profile w given).work.held
unfolding taking
taking_held profile w given =
    chosen_cond w.held (needs_additional w.entry given && not w.entry.skip)
    (stacked framed profile w given (pushed_additional framed w.core w.held (callee_process w.core w.entry) (callee_privileged w.core w.entry)))
    (vectored framed profile (record w { entry = record w.entry { needed_additional = w.entry.needed_additional || needs_additional w.entry given } }) given)
    (stacked_held profile w given (pushed_additional framed w.core w.held (callee_process w.core w.entry) (callee_privileged w.core w.entry))
    (additional_held w.core w.held (callee_process w.core w.entry) (callee_privileged w.core w.entry)))
    (vectored_held profile (record w { entry = record w.entry { needed_additional = w.entry.needed_additional || needs_additional w.entry given } }) given)

choosing_from_held : (profile : Profile) (w : Work Framed) (first : Option Slot) → BusKept w.held (choosing_from framed profile w first).work.held
choosing_from_held profile w None = refl
choosing_from_held profile w (Some given) = taking_held profile w given

choosing_held : (profile : Profile) (w : Work Framed) → BusKept w.held (choosing framed profile w).work.held
unfolding choosing
choosing_held profile w = choosing_from_held profile w (chosen w.exceptions)

-- ---- the choices

goes_on_held : (f : Framed) (again : Work Framed → Done Framed) (w : Work Framed) (choice : Choice) → BusKept f w.held → ((v : Work Framed) → BusKept v.held (again v).held) → BusKept f (goes_on again w choice).held
goes_on_held f again w (choices.Taken given) h more = h
goes_on_held f again w choices.Lockup h more = h
goes_on_held f again w choices.Again h more = bus_then f w.held (again w).held h (more w)

tries_held : (profile : Profile) (n : ℕ) (w : Work Framed) → BusKept w.held (tries framed profile n w).held
unfolding tries
tries_held profile zero w = refl
tries_held profile (suc n) w =
    goes_on_held w.held (tries framed profile n) (choosing framed profile w).work (choosing framed profile w).choice (choosing_held profile w) (tries_held profile n)

-- ---- entry

done_cond : (f : Framed) (t : Bool) (x y : Done Framed) → BusKept f x.held → BusKept f y.held → BusKept f (cond t x y).held
done_cond f true x y h k = h
done_cond f false x y h k = k

begins_raised_held : (profile : Profile) (f : Framed) (x : Entering) (r : Raised) → BusKept f (begins_raised framed profile f x r).held
begins_raised_held profile f x r =
    let w : Work Framed = record { core = r.core; exceptions = r.exceptions; held = f; entry = x } in
    done_cond f r.locks (locked_up w) (tries framed profile 4 w) refl (tries_held profile 4 w)

begins_held : (profile : Profile) (side : Side) (e : ExceptionsValue) (x : Entering) (c : Core) (f : Framed) (fault : Option StackFault) → BusKept f (begins framed profile side e x c f fault).held
begins_held profile side e x c f None = tries_held profile 4 (record { core = c; exceptions = e; held = f; entry = x })
begins_held profile side e x c f (Some fault) = begins_raised_held profile f (without_frame x false fault) (frame_faulted true side fault c e)

pub enters_held : (profile : Profile) (c : Core) (e : ExceptionsValue) (f : Framed) (back : ℕ) → BusKept f (enters framed profile c e f back).held
unfolding enters
enters_held profile c e f back =
    let p = pushed_basic framed c f back in
    bus_then f p.held (begins framed profile c.run.side e (interrupted c) p.core p.held p.fault).held (basic_held c f back)
    (begins_held profile c.run.side e (interrupted c) p.core p.held p.fault)

-- ---- return

chained_held : (profile : Profile) (r : Returning) (refused : Option Refusal) (touched : Bool) (c : Core) (e : ExceptionsValue) (f : Framed) → BusKept f (chained framed profile r refused touched c e f).held
unfolding chained
chained_held profile r refused touched c e f = tries_held profile 4 (record { core = c; exceptions = e; held = f; entry = chaining r touched })

leaving_cond : (f : Framed) (t : Bool) (x y : Leaving Framed) → BusKept f x.held → BusKept f y.held → BusKept f (cond t x y).held
leaving_cond f true x y h k = h
leaving_cond f false x y h k = k

chained_raised_held : (profile : Profile) (r : Returning) (refusal : Refusal) (touched : Bool) (f : Framed) (raised : Raised) → BusKept f (chained_raised framed profile r refusal touched f raised).held
chained_raised_held profile r refusal touched f raised =
    leaving_cond f raised.locks _ (chained framed profile r (Some refusal) touched raised.core raised.exceptions f) refl
    (chained_held profile r (Some refusal) touched raised.core raised.exceptions f)

resumes_held : (profile : Profile) (r : Returning) (c : Core) (e : ExceptionsValue) (f : Framed) (u : Result Unstacked StackFault) → BusKept f (resumes framed profile r c e f u).held
resumes_held profile r c e f (Err fault) = chained_raised_held profile r (refusals.Frame fault) r.secure f (frame_faulted false (side_of_bit r.secure) fault c e)
resumes_held profile r c e f (Ok u) =
    let raised = faulted (side_of_bit r.secure) (InvPc (side_of_bit r.secure)) c e in
    leaving_cond f (modes_agree r u.basic) _ (chained_raised framed profile r (refusals.Mode (side_of_bit r.secure)) r.secure f raised) refl (chained_raised_held profile r (refusals.Mode (side_of_bit r.secure)) r.secure f raised)

goes_back_held : (profile : Profile) (r : Returning) (c : Core) (e : ExceptionsValue) (f : Framed) → BusKept f (goes_back framed profile r c e f).held
unfolding goes_back
goes_back_held profile r c e f =
    leaving_cond f (takes_first e c.masks) (chained framed profile r None false c e f) (resumes framed profile r c e f (unstacked framed c r f))
    (chained_held profile r None false c e f) (resumes_held profile r c e f (unstacked framed c r f))

leaves_noting_held : (profile : Profile) (side : Side) (fault : Option Fault) (r : Returning) (c : Core) (e : ExceptionsValue) (f : Framed) → BusKept f (leaves_noting framed profile side fault r c e f).held
leaves_noting_held profile side (Some fault) r c e f = chained_raised_held profile r (refusals.Value fault) false f (faulted side fault c e)
leaves_noting_held profile side None r c e f = goes_back_held profile r c e f

pub leaves_held : (profile : Profile) (c : Core) (e : ExceptionsValue) (f : Framed) (value : ℕ) → BusKept f (leaves framed profile c e f value).held
unfolding leaves
leaves_held profile c e f value =
    let r = returning_by c.run.side value in
    leaves_noting_held profile c.run.side (exc_return_fault c e value) r (core_returning e r c) (freed e (slot_returning c r)) f
