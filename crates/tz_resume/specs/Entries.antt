-- An entry from Secure code, and a later return that lets it go on.
use Rattle.std.specs.Prelude.{◌≡◌, ℕ, Bool, true}
use Rattle.tz_model.specs.declared.board.Profile.{Profile}
use Rattle.tz_model.specs.declared.report.Slot.{Slot}
use Rattle.tz_model.specs.Words.{is_nonsecure_side}
use Rattle.tz_regs.specs.declared.parts.Core.{Core}
use Rattle.tz_regs.specs.Registers.{sp_of}
use Rattle.tz_state.specs.Slots.{ExceptionsValue}
use Rattle.tz_frames.specs.declared.entering.Entering.{Entering}
use Rattle.tz_frames.specs.declared.entering.Entered.TheVariants as entered
use Rattle.tz_frames.specs.declared.leaving.Left.TheVariants as lefts
use Rattle.tz_frames.specs.declared.leaving.Returning.{Returning}
use Rattle.tz_frames.specs.Machine.{Framed, framed}
use Rattle.tz_frames.specs.Enter.{Done, enters}
use Rattle.tz_frames.specs.Leave.{Leaving, returning_by, core_returning, has_callee, returns_to_process, return_sp, leaves}
use Rattle.tz_resume.specs.Words.{SameBytes}
use Rattle.tz_resume.specs.Resumption.{process_of, IsStacked, GoesOn}

-- the entry took a Non-secure exception, and its frames were written without a fault
pub record IsPreempted (c : Core) (f : Framed) (back : ℕ) (d : Done Framed) : Type 0 where
  pub stacked : IsStacked c f back
  pub given : Slot
  pub entering : Entering
  pub taken : d.result ≡ entered.Taken given entering
  pub nonsecure : is_nonsecure_side d.core.run.side ≡ true

-- what a return by a value counts as
abbrev pub returning : Core → ℕ → Returning
returning c value = returning_by c.run.side value

-- the core from which it takes frames
abbrev pub leaver : Core → ExceptionsValue → ℕ → Core
leaver c e value = core_returning e (returning c value) c

-- where Secure code's stack was left
abbrev pub left_at : Core → Done Framed → ℕ
left_at c d = sp_of (process_of c) d.core.stacks_s

-- the return took both frames from where the entry left the stack, their 72 bytes being as the entry left them, and the
-- code goes on
pub record IsTakenBack (c : Core) (d : Done Framed) (later : Core) (e : ExceptionsValue) (g : Framed) (value : ℕ) (l : Leaving Framed) : Type 0 where
  pub secure : (returning later value).secure ≡ true
  pub callee : has_callee (returning later value) ≡ true
  pub stack : returns_to_process (leaver later e value) (returning later value) ≡ process_of c
  pub pointer : return_sp (leaver later e value) (returning later value) ≡ left_at c d
  pub bytes : SameBytes (left_at c d) 72 d.held.bus.memory g.bus.memory
  pub touched : Bool
  pub resumed : l.result ≡ lefts.Resumed touched

abbrev pub EntriesResume : Type 0
EntriesResume =
    (profile : Profile) (c : Core) (e : ExceptionsValue) (f : Framed) (back : ℕ) → IsPreempted c f back (enters framed profile c e f back)
    → (profile' : Profile) (later : Core) (e' : ExceptionsValue) (g : Framed) (value : ℕ)
    → IsTakenBack c (enters framed profile c e f back) later e' g value (leaves framed profile' later e' g value)
    → GoesOn c back (leaves framed profile' later e' g value).core
