-- An entry from Non-secure code that doesn't look at Secure state spares the Secure side.
use Rattle.std.proofs.Common.{◌≡◌, ℕ, zero, suc, Bool, true, false, ◌&&◌, ◌||◌, not, cond, Option, Some, None, Result, Ok, Err, refl, sym, ◌∙◌, subst}
use Rattle.tz_table.specs.declared.units.Side.{Side}
use Rattle.tz_table.specs.declared.units.Side.TheVariants.{Secure, NonSecure}
use Rattle.tz_model.specs.declared.board.Profile.{Profile}
use Rattle.tz_model.specs.declared.report.Fault.{Fault}
use Rattle.tz_model.specs.declared.report.Slot.{Slot}
use Rattle.tz_model.specs.Words.{is_nonsecure_side}
use Rattle.tz_regs.specs.declared.parts.Core.{Core}
use Rattle.tz_state.specs.Memory.{Memory}
use Rattle.tz_state.specs.Attribution.{MapState}
use Rattle.tz_state.specs.Slots.{ExceptionsValue, at, index_of}
use Rattle.tz_state.specs.SlotChanges.{activated}
use Rattle.tz_state.specs.Priority.{chosen}
use Rattle.tz_state.specs.Escalation.{hard_side}
use Rattle.tz_state.specs.State.{map_in}
use Rattle.tz_frames.specs.FrameAccess.{Vector}
use Rattle.tz_frames.specs.Machine.{Framed, framed}
use Rattle.tz_frames.specs.declared.frame.StackFault.{StackFault}
use Rattle.tz_frames.specs.declared.entering.Entering.{Entering}
use Rattle.tz_frames.specs.declared.entering.Choice.{Choice}
use Rattle.tz_frames.specs.declared.entering.Choice.TheVariants as choices
use Rattle.tz_frames.specs.declared.entering.Entered.{Entered}
use Rattle.tz_frames.specs.declared.entering.Entered.TheVariants as entered
use Rattle.tz_frames.specs.Status.{slot, Raised, frame_faulted}
use Rattle.tz_frames.specs.Stack.{pushed_basic, pushed_additional}
use Rattle.tz_frames.specs.Enter.{Work, Chosen, Done, is_secure, handling, vectored_by, vectored, vector_failed, vector_touched, needs_additional, callee_process, callee_privileged, stacked, taking, choosing_from, choosing, with_lock, locked_up, goes_on, tries, interrupted, begins_raised, begins, enters, without_frame}
use Rattle.tz_twin.proofs.Slots.{quiet}
use Rattle.tz_twin.proofs.Spared.{KeptBy, kept_from, kept_all, kept_then, flags_quiet, frame_faulted_kept, frame_faulted_side}
use Rattle.tz_twin.proofs.OwnFrames.{OwnFrameSome, basic_own}

-- whether an entry looked at Secure state
abbrev pub entered_touched : Entered → Bool
entered_touched (entered.Taken given entry) = entry.touched
entered_touched (entered.Lockup entry) = entry.touched

-- whether a Non-secure exception calls for an additional frame that is to be written
abbrev pub writes_callee : Entering → Bool
writes_callee x = x.secure && not x.skip

-- between cores and exceptions: the Secure side is kept, with all bytes, and no Secure code comes to run
pub record Spared (c c' : Core) (e e' : ExceptionsValue) : Type 0 where
  pub kept : (m : MapState) (n : Memory) → KeptBy c c' e e' m n n
  pub side : c.run.side ≡ NonSecure → c'.run.side ≡ NonSecure

pub spared_all : (c : Core) (e : ExceptionsValue) → Spared c c e e
spared_all c e = record { kept = λ m n. kept_all c e m n; side = λ is. is }

pub spared_then : (c1 c2 c3 : Core) (e1 e2 e3 : ExceptionsValue) → Spared c1 c2 e1 e2 → Spared c2 c3 e2 e3 → Spared c1 c3 e1 e3
spared_then c1 c2 c3 e1 e2 e3 h k = record {
  kept = λ m n. kept_then c1 c2 c3 e1 e2 e3 m n n n (h.kept m n) (k.kept m n);
  side = λ is. k.side (h.side is);
}

-- a choice writes nothing; where it has not looked at Secure state, it had not before, and spares the Secure side
pub record Spares (w v : Work Framed) : Type 0 where
  pub held : v.held ≡ w.held
  pub callee : writes_callee v.entry ≡ writes_callee w.entry
  pub touched : v.entry.touched ≡ false → w.entry.touched ≡ false
  pub spared : v.entry.touched ≡ false → Spared w.core v.core w.exceptions v.exceptions

spares_all : (w : Work Framed) → Spares w w
spares_all w = record {
  held = refl;
  callee = refl;
  touched = λ t. t;
  spared = λ t. spared_all w.core w.exceptions;
}

-- ---- one choice

-- the exception of a vector
abbrev of_number : ℕ → Side → Slot
of_number number side = record { number = number; side = side }

abbrev looking : Work Framed → Side → Work Framed
looking w side = record w { entry = vector_touched w.entry side }

handling_spared : (profile : Profile) (w : Work Framed) (number vector : ℕ) → let given = of_number number NonSecure in Spared w.core (handling profile w.core w.entry given vector) w.exceptions (activated w.exceptions given)
handling_spared profile w number vector =
    let given = of_number number NonSecure in
    record {
      kept =
          λ m n. kept_from w.core (handling profile w.core w.entry given vector) w.exceptions (activated w.exceptions given) m n refl refl refl (flags_quiet w.exceptions (index_of given) false true);
      side = λ is. refl;
    }

failed_spared : (w : Work Framed) (given : Slot) → Spared w.core (vector_failed w given).work.core w.exceptions (vector_failed w given).work.exceptions
unfolding vector_failed
failed_spared w given =
    let hard = slot 3 (hard_side w.exceptions given.side) in
    record {
      kept =
          λ m n. kept_from w.core (vector_failed w given).work.core w.exceptions (vector_failed w given).work.exceptions m n refl refl refl
          (flags_quiet w.exceptions (index_of hard) true (at w.exceptions (index_of hard)).active);
      side = λ is. is;
    }

vectored_by_spares : (profile : Profile) (w : Work Framed) (number : ℕ) (side : Side) (r : Result ℕ Fault) → Spares w (vectored_by profile (looking w side) (of_number number side) r).work
unfolding vector_failed
vectored_by_spares profile w number Secure (Ok vector) = record { held = refl; callee = refl; touched = λ t. cc; spared = λ t. absurd (cc) }
vectored_by_spares profile w number Secure (Err fault) = record { held = refl; callee = refl; touched = λ t. cc; spared = λ t. absurd (cc) }
vectored_by_spares profile w number NonSecure (Ok vector) = record {
  held = refl;
  callee = refl;
  touched = λ t. t;
  spared = λ t. handling_spared profile (looking w NonSecure) number vector;
}
vectored_by_spares profile w number NonSecure (Err fault) = record {
  held = refl;
  callee = refl;
  touched = λ t. t;
  spared = λ t. failed_spared (looking w NonSecure) (of_number number NonSecure);
}

vectored_spares : (profile : Profile) (w : Work Framed) (given : Slot) → Spares w (vectored framed profile w given).work
unfolding vectored
vectored_spares profile w given = vectored_by_spares profile w given.number given.side (framed w.held (Vector given.number given.side)).1

-- with another word on whether the additional frame was called for
abbrev with_needed : Work Framed → Bool → Work Framed
with_needed w needed_additional = record w { entry = record w.entry { needed_additional = needed_additional } }

spares_needed : (w v : Work Framed) (needed_additional : Bool) → Spares (with_needed w needed_additional) v → Spares w v
spares_needed w v needed_additional h = record { held = h.held; callee = h.callee; touched = h.touched; spared = h.spared }

spares_second : (w : Work Framed) (t : Bool) (x y : Chosen Framed) → t ≡ false → Spares w y.work → Spares w (cond t x y).work
spares_second w true x y is h = absurd (cc)
spares_second w false x y is h = h

pub no_callee : (a b c : Bool) → (a && not c) ≡ false → ((a && b) && not c) ≡ false
no_callee true true c h = h
no_callee true false c h = refl
no_callee false b c h = refl

taking_spares : (profile : Profile) (w : Work Framed) (given : Slot) → writes_callee w.entry ≡ false → Spares w (taking framed profile w given).work
unfolding taking
taking_spares profile w given none =
    let needed_additional = w.entry.needed_additional || needs_additional w.entry given in
    spares_second w (needs_additional w.entry given && not w.entry.skip)
    (stacked framed profile w given (pushed_additional framed w.core w.held (callee_process w.core w.entry) (callee_privileged w.core w.entry)))
    (vectored framed profile (with_needed w needed_additional) given) (no_callee w.entry.secure (is_nonsecure_side given.side) w.entry.skip none)
    (spares_needed w (vectored framed profile (with_needed w needed_additional) given).work needed_additional (vectored_spares profile (with_needed w needed_additional) given))

choosing_from_spares : (profile : Profile) (w : Work Framed) (first : Option Slot) → writes_callee w.entry ≡ false → Spares w (choosing_from framed profile w first).work
choosing_from_spares profile w None none = spares_all w
choosing_from_spares profile w (Some given) none = taking_spares profile w given none

pub choosing_spares : (profile : Profile) (w : Work Framed) → writes_callee w.entry ≡ false → Spares w (choosing framed profile w).work
unfolding choosing
choosing_spares profile w none = choosing_from_spares profile w (chosen w.exceptions) none

-- ---- the choices

pub record SparesDone (w : Work Framed) (d : Done Framed) : Type 0 where
  pub held : d.held ≡ w.held
  pub touched : entered_touched d.result ≡ false → w.entry.touched ≡ false
  pub spared : entered_touched d.result ≡ false → Spared w.core d.core w.exceptions d.exceptions

pub lock_spared : (c : Core) (e : ExceptionsValue) → Spared c (with_lock c) e e
lock_spared c e = record { kept = λ m n. kept_from c (with_lock c) e e m n refl refl refl (quiet e); side = λ is. is }

locked_spares : (w : Work Framed) → SparesDone w (locked_up w)
locked_spares w = record { held = refl; touched = λ t. t; spared = λ t. lock_spared w.core w.exceptions }

spares_then : (w v : Work Framed) (d : Done Framed) → Spares w v → SparesDone v d → SparesDone w d
spares_then w v d h k = record {
  held = k.held ∙ h.held;
  touched = λ t. h.touched (k.touched t);
  spared = λ t. spared_then w.core v.core d.core w.exceptions v.exceptions d.exceptions (h.spared (k.touched t)) (k.spared t);
}

goes_on_spares : (again : Work Framed → Done Framed) (w v : Work Framed) (choice : Choice) → writes_callee w.entry ≡ false → Spares w v
    → ((u : Work Framed) → writes_callee u.entry ≡ false → SparesDone u (again u)) → SparesDone w (goes_on again v choice)
goes_on_spares again w v (choices.Taken given) none h more = record { held = h.held; touched = h.touched; spared = h.spared }
goes_on_spares again w v choices.Lockup none h more = spares_then w v (locked_up v) h (locked_spares v)
goes_on_spares again w v choices.Again none h more = spares_then w v (again v) h (more v (h.callee ∙ none))

pub tries_spares : (profile : Profile) (n : ℕ) (w : Work Framed) → writes_callee w.entry ≡ false → SparesDone w (tries framed profile n w)
unfolding tries
tries_spares profile zero w none = locked_spares w
tries_spares profile (suc n) w none =
    goes_on_spares (tries framed profile n) w (choosing framed profile w).work (choosing framed profile w).choice none (choosing_spares profile w none) (tries_spares profile n)

-- ---- entry

-- what an entry leaves of a core, exceptions and what is held
pub record EntrySpared (c : Core) (e : ExceptionsValue) (f : Framed) (d : Done Framed) : Type 0 where
  pub held : d.held ≡ f
  pub spared : entered_touched d.result ≡ false → Spared c d.core e d.exceptions

entry_cond : (c : Core) (e : ExceptionsValue) (f : Framed) (t : Bool) (x y : Done Framed) → EntrySpared c e f x → EntrySpared c e f y → EntrySpared c e f (cond t x y)
entry_cond c e f true x y h k = h
entry_cond c e f false x y h k = k

begins_raised_spares : (profile : Profile) (c : Core) (e : ExceptionsValue) (f : Framed) (x : Entering) (r : Raised) → writes_callee x ≡ false → Spared c r.core e r.exceptions
    → EntrySpared c e f (begins_raised framed profile f x r)
begins_raised_spares profile c e f x r none h =
    let w : Work Framed = record { core = r.core; exceptions = r.exceptions; held = f; entry = x } in
    let tried = tries_spares profile 4 w none in
    entry_cond c e f r.locks (locked_up w) (tries framed profile 4 w)
    (record { held = refl; spared = λ t. spared_then c r.core (with_lock r.core) e r.exceptions r.exceptions h (lock_spared r.core r.exceptions) })
    (record {
      held = tried.held;
      spared = λ t. spared_then c r.core (tries framed profile 4 w).core e r.exceptions (tries framed profile 4 w).exceptions h (tried.spared t);
    })

begins_spares : (profile : Profile) (side : Side) (e : ExceptionsValue) (x : Entering) (c : Core) (f : Framed) (fault : Option StackFault) → side ≡ NonSecure → writes_callee x ≡ false
    → OwnFrameSome fault → EntrySpared c e f (begins framed profile side e x c f fault)
unfolding OwnFrameSome
begins_spares profile side e x c f None is none own =
    let tried = tries_spares profile 4 (record { core = c; exceptions = e; held = f; entry = x }) none in record { held = tried.held; spared = tried.spared }
begins_spares profile Secure e x c f (Some fault) is none own = absurd (cc)
begins_spares profile NonSecure e x c f (Some fault) is none own =
    begins_raised_spares profile c e f (without_frame x false fault) (frame_faulted true NonSecure fault c e) none
    (record { kept = λ m n. frame_faulted_kept true fault c e m n own; side = λ is. frame_faulted_side true NonSecure fault c e ∙ is })

no_callee_of : (side : Side) → side ≡ NonSecure → (is_secure side && not false) ≡ false
no_callee_of Secure is = cc
no_callee_of NonSecure is = refl

-- what an entry from Non-secure code leaves
pub record EntryKept (c : Core) (e : ExceptionsValue) (f : Framed) (d : Done Framed) : Type 0 where
  pub kept : KeptBy c d.core e d.exceptions (map_in f.bus) f.bus.memory d.held.bus.memory
  pub side : d.core.run.side ≡ NonSecure

enters_both : (profile : Profile) (c : Core) (e : ExceptionsValue) (f : Framed) (back : ℕ) → c.run.side ≡ NonSecure → entered_touched (enters framed profile c e f back).result ≡ false
    → EntryKept c e f (enters framed profile c e f back)
unfolding enters
enters_both profile c e f back is untouched =
    let p = pushed_basic framed c f back in
    let pushed = basic_own c f back is in
    let d = enters framed profile c e f back in
    let begun = begins_spares profile c.run.side e (interrupted c) p.core p.held p.fault is (no_callee_of c.run.side is) pushed.own in
    let after : Spared p.core d.core e d.exceptions = begun.spared untouched in
    let all : KeptBy c d.core e d.exceptions (map_in f.bus) f.bus.memory p.held.bus.memory =
    kept_then c p.core d.core e e d.exceptions (map_in f.bus) f.bus.memory p.held.bus.memory p.held.bus.memory (pushed.kept e) (after.kept (map_in f.bus) p.held.bus.memory) in
    record {
      kept = subst (λ (g : Framed). KeptBy c d.core e d.exceptions (map_in f.bus) f.bus.memory g.bus.memory) (sym begun.held) all;
      side = after.side (pushed.side ∙ is);
    }

-- an entry from Non-secure code that didn't look at Secure state kept the Secure side
pub enters_kept : (profile : Profile) (c : Core) (e : ExceptionsValue) (f : Framed) (back : ℕ) → c.run.side ≡ NonSecure → entered_touched (enters framed profile c e f back).result ≡ false
    → KeptBy c (enters framed profile c e f back).core e (enters framed profile c e f back).exceptions (map_in f.bus) f.bus.memory (enters framed profile c e f back).held.bus.memory
enters_kept profile c e f back is untouched = (enters_both profile c e f back is untouched).kept
