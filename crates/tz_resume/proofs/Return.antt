-- A return after which code goes on took frames.
use Rattle.std.proofs.Common.{◌≡◌, ℕ, Bool, true, false, cond, Option, Some, None, Result, Ok, Err, refl}
use Rattle.tz_table.specs.declared.units.Side.{Side}
use Rattle.tz_model.specs.declared.board.Profile.{Profile}
use Rattle.tz_model.specs.declared.report.Fault.{Fault}
use Rattle.tz_model.specs.declared.report.Fault.TheVariants.{InvPc}
use Rattle.tz_regs.specs.declared.parts.Core.{Core}
use Rattle.tz_state.specs.Slots.{ExceptionsValue}
use Rattle.tz_state.specs.Execution.{takes_first}
use Rattle.tz_frames.specs.declared.frame.StackFault.{StackFault}
use Rattle.tz_frames.specs.declared.entering.Entered.{Entered}
use Rattle.tz_frames.specs.declared.entering.Entered.TheVariants as entered
use Rattle.tz_frames.specs.declared.leaving.Left.TheVariants as lefts
use Rattle.tz_frames.specs.declared.leaving.Refusal.{Refusal}
use Rattle.tz_frames.specs.declared.leaving.Refusal.TheVariants.{Value, Frame, Mode}
use Rattle.tz_frames.specs.declared.leaving.Returning.{Returning}
use Rattle.tz_frames.specs.declared.leaving.Unstacked.{Unstacked}
use Rattle.tz_frames.specs.Machine.{Framed, framed}
use Rattle.tz_frames.specs.Status.{Raised, faulted, frame_faulted}
use Rattle.tz_frames.specs.Enter.{chooses, with_lock}
use Rattle.tz_frames.specs.Leave.{Leaving, left_of, chaining, chained, chained_raised, unstacked, resumed, modes_agree, resumes, goes_back, leaves_noting, leaves, exc_return_fault, freed, slot_returning, side_of_bit}
use Rattle.tz_resume.specs.Entries.{returning, leaver}

-- what goes on where a return ends so
pub record Went (c : Core) (r : Returning) (h : Framed) (l : Leaving Framed) : Type 0 where
  pub frames : Unstacked
  pub taken : unstacked framed c r h ≡ Ok frames
  pub modes : modes_agree r frames.basic ≡ true
  pub core : l.core ≡ resumed r frames c

abbrev pub Goes : Core → Returning → Framed → Leaving Framed → Type 0
Goes c r h l = (touched : Bool) → l.result ≡ lefts.Resumed touched → Went c r h l

no_chain : (refused : Option Refusal) (x : Entered) (touched : Bool) → left_of refused x ≡ lefts.Resumed touched → ⊥
no_chain refused (entered.Taken given y) touched e = cc
no_chain refused (entered.Lockup y) touched e = cc

chained_not : (profile : Profile) (d c : Core) (r : Returning) (h : Framed) (refused : Option Refusal) (t : Bool) (e : ExceptionsValue) → Goes d r h (chained framed profile r refused t c e h)
unfolding chained
chained_not profile d c r h refused t e touched is =
    absurd (no_chain refused (chooses framed profile (record { core = c; exceptions = e; held = h; entry = chaining r t })).result touched is)

raised_not : (profile : Profile) (d : Core) (r : Returning) (h : Framed) (refusal : Refusal) (t : Bool) (x : Raised) → Goes d r h (chained_raised framed profile r refusal t h x)
raised_not profile d r h refusal t x = by x.locks where
  by : (locks : Bool) → Goes d r h (cond locks (record { core = with_lock x.core; exceptions = x.exceptions; held = h; result = lefts.Lockup (Some refusal) (chaining r t) }) (chained framed profile r (Some refusal) t x.core x.exceptions h))
  by true touched e = cc
  by false touched e = chained_not profile d x.core r h (Some refusal) t x.exceptions touched e

resumes_went : (profile : Profile) (c : Core) (r : Returning) (e : ExceptionsValue) (h : Framed) (x : Result Unstacked StackFault) → unstacked framed c r h ≡ x → Goes c r h (resumes framed profile r c e h x)
resumes_went profile c r e h (Err fault) is = raised_not profile c r h (Frame fault) r.secure (frame_faulted false (side_of_bit r.secure) fault c e)
resumes_went profile c r e h (Ok u) is = by (modes_agree r u.basic) refl where
  by : (t : Bool) → modes_agree r u.basic ≡ t → Goes c r h (cond t (record { core = resumed r u c; exceptions = e; held = h; result = lefts.Resumed r.secure }) (chained_raised framed profile r (Mode (side_of_bit r.secure)) r.secure h (faulted (side_of_bit r.secure) (InvPc (side_of_bit r.secure)) c e)))
  by true agree touched e' = record { frames = u; taken = is; modes = agree; core = refl }
  by false agree touched e' = raised_not profile c r h (Mode (side_of_bit r.secure)) r.secure (faulted (side_of_bit r.secure) (InvPc (side_of_bit r.secure)) c e) touched e'

goes_back_went : (profile : Profile) (c : Core) (r : Returning) (e : ExceptionsValue) (h : Framed) → Goes c r h (goes_back framed profile r c e h)
unfolding goes_back
goes_back_went profile c r e h = by (takes_first e c.masks) where
  by : (t : Bool) → Goes c r h (cond t (chained framed profile r None false c e h) (resumes framed profile r c e h (unstacked framed c r h)))
  by true touched e' = chained_not profile c c r h None false e touched e'
  by false touched e' = resumes_went profile c r e h (unstacked framed c r h) refl touched e'

noting_went : (profile : Profile) (side : Side) (o : Option Fault) (c : Core) (r : Returning) (e : ExceptionsValue) (h : Framed) → Goes c r h (leaves_noting framed profile side o r c e h)
noting_went profile side (Some fault) c r e h = raised_not profile c r h (Value fault) false (faulted side fault c e)
noting_went profile side None c r e h = goes_back_went profile c r e h

pub leaves_went : (profile : Profile) (c : Core) (e : ExceptionsValue) (h : Framed) (value : ℕ) → Goes (leaver c e value) (returning c value) h (leaves framed profile c e h value)
unfolding leaves
leaves_went profile c e h value = noting_went profile c.run.side (exc_return_fault c e value) (leaver c e value) (returning c value) (freed e (slot_returning c (returning c value))) h
