-- A return by its parts, each told by an equation.
use Rattle.std.proofs.Common.{◌≡◌, ℕ, Option, ap, sym, ◌∙◌}
use Rattle.tz_model.specs.declared.board.Profile.{Profile}
use Rattle.tz_model.specs.declared.report.Fault.{Fault}
use Rattle.tz_model.specs.declared.report.Slot.{Slot}
use Rattle.tz_regs.specs.declared.parts.Core.{Core}
use Rattle.tz_state.specs.Slots.{ExceptionsValue}
use Rattle.tz_frames.specs.FrameAccess.{FrameAnswering}
use Rattle.tz_frames.specs.declared.leaving.Returning.{Returning}
use Rattle.tz_frames.specs.Leave.{returning_by, slot_returning, exc_return_fault, freed, core_returning, leaves, leaves_as, leaves_noting}

pub leaves_told : {H : Type 0} → (answering : FrameAnswering H) (profile : Profile) (c : Core) (e : ExceptionsValue) (h : H) (value : ℕ) (r : Returning) (n : Option Fault) (s : Slot) (left : Core) (freed_of : ExceptionsValue)
    → r ≡ returning_by c.run.side value → n ≡ exc_return_fault c e value → s ≡ slot_returning c r → left ≡ core_returning e r c → freed_of ≡ freed e s
    → leaves answering profile c e h value ≡ leaves_noting answering profile c.run.side n r left freed_of h
unfolding leaves
leaves_told answering profile c e h value r n s left freed_of by_value by_noted by_slot by_core by_freed =
    ap (λ (x : Returning). leaves_as answering profile value x c e h) (sym by_value)
    ∙ ap (λ (x : Option Fault). leaves_noting answering profile c.run.side x r (core_returning e r c) (freed e (slot_returning c r)) h) (sym by_noted)
    ∙ ap (λ (x : Slot). leaves_noting answering profile c.run.side n r (core_returning e r c) (freed e x) h) (sym by_slot)
    ∙ ap (λ (x : Core). leaves_noting answering profile c.run.side n r x (freed e s) h) (sym by_core)
    ∙ ap (λ (x : ExceptionsValue). leaves_noting answering profile c.run.side n r left x h) (sym by_freed)
