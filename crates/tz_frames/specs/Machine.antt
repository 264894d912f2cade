-- How the machine answers accesses of frames and vectors (DDI0553, `PushStack`, `PopStack`, `Vector`).
use Rattle.std.specs.Prelude.{ℕ, ◌+◌, ◌*◌, Bool, true, not, if◌then◌else◌, Option, Some, None, Result, Ok, Err}
use Rattle.tz_table.specs.declared.units.Side.{Side}
use Rattle.tz_table.specs.declared.units.Side.TheVariants.{Secure}
use Rattle.tz_table.specs.declared.units.Size.TheVariants.{Word}
use Rattle.tz_model.specs.declared.report.Fault.{Fault}
use Rattle.tz_model.specs.declared.report.Fault.TheVariants.{Violation, Precise}
use Rattle.tz_model.specs.Words.{wrap}
use Rattle.tz_model.specs.Ports.{always_aligned, as_running}
use Rattle.tz_regs.specs.Banks.{of_side}
use Rattle.tz_state.specs.declared.asker.Asker.{Asker}
use Rattle.tz_state.specs.declared.request.Kind.{Kind}
use Rattle.tz_state.specs.declared.request.Kind.TheVariants.{Read, Write}
use Rattle.tz_state.specs.Memory.{every, word_at, with_word}
use Rattle.tz_state.specs.Access.{may_touch, is_mapped, is_private, verdict, request_by}
use Rattle.tz_state.specs.State.{Bus, map_in, with_memory}
use Rattle.tz_frames.specs.FrameAccess.{FrameAnswering, Vector, SecureLoad, FrameLoad, FrameStore}

-- what they see and change: the bus, the vector tables of both sides, the privilege of Secure code, and whether
-- the execution priority is negative
pub record Framed : Type 0 where
  pub bus : Bus
  pub vtor_s : ℕ
  pub vtor_ns : ℕ
  pub secure_privileged : Bool
  pub negative : Bool

-- ---- verdicts

-- whose words a frame has; each has to be aligned
abbrev pub framer : Framed → Side → Bool → Asker
framer f side privileged = record { side = side; privileged = privileged; negative = f.negative; aligned = true }

-- (own) frames know the board's regions alone, so in private space they fail as in the map
abbrev pub in_map_alone : ℕ → Option Fault → Option Fault
in_map_alone addr None = if is_private addr then Some (Precise addr) else None
in_map_alone addr (Some fault) = Some fault

-- all checks of a data access
abbrev pub frame_verdict : Framed → Kind → ℕ → Side → Bool → Option Fault
frame_verdict f kind addr side privileged = in_map_alone addr (verdict f.bus (request_by (framer f side privileged) kind Word addr always_aligned as_running))

abbrev pub vector_at : Framed → ℕ → Side → ℕ
vector_at f number side = wrap (of_side side f.vtor_s f.vtor_ns + 4 * number)

-- (own) of a vector attribution and the map alone
abbrev pub vector_verdict : Bus → Side → ℕ → Option Fault
vector_verdict b side addr =
    if not (may_touch (map_in b) side Word addr) then Some (Violation addr)
    else if not (every (is_mapped b.board.regions) addr Word) then Some (Precise addr)
    else None

-- ---- answers

abbrev pub framed_read : Option Fault → Framed → ℕ → Framed × Result ℕ Fault
framed_read (Some fault) f addr = (f, Err fault)
framed_read None f addr = (f, Ok (word_at f.bus.memory addr))

abbrev pub framed_write : Option Fault → Framed → ℕ → ℕ → Framed × Result ℕ Fault
framed_write (Some fault) f addr value = (f, Err fault)
framed_write None f addr value = (record f { bus = with_memory f.bus (with_word f.bus.memory addr value) }, Ok 0)

abbrev pub framed : FrameAnswering Framed
framed f (Vector number side) = framed_read (vector_verdict f.bus side (vector_at f number side)) f (vector_at f number side)
framed f (SecureLoad addr) = framed_read (frame_verdict f Read addr Secure f.secure_privileged) f addr
framed f (FrameLoad addr side privileged) = framed_read (frame_verdict f Read addr side privileged) f addr
framed f (FrameStore addr side privileged value) = framed_write (frame_verdict f Write addr side privileged) f addr value
