-- From which stack pointer a return takes the frame (DDI0553, `ExceptionReturn`, `PopStack`).
use Rattle.std.specs.Prelude.{ℕ, Bool, ◌&&◌, if◌then◌else◌}
use Rattle.tz_regs.specs.declared.parts.Core.{Core}
use Rattle.tz_regs.specs.Banks.{stacks_of}
use Rattle.tz_regs.specs.Registers.{sp_of}
use Rattle.tz_state.specs.Difference.{is_same_flag}
use Rattle.tz_frames.specs.declared.leaving.Returning.{Returning}
use Rattle.tz_frames.specs.Leave.{side_of_bit}

-- SPSEL of the value counts where the exception and the frame are of one side, else CONTROL.SPSEL of the frame's
abbrev pub frame_uses_process : Core → Returning → Bool
frame_uses_process c r = r.thread && (if is_same_flag r.es r.secure then r.process else (stacks_of (side_of_bit r.secure) c).spsel)

-- the stack pointer from which a return takes the frame
abbrev pub frame_pointer : Core → Returning → ℕ
frame_pointer c r = sp_of (frame_uses_process c r) (stacks_of (side_of_bit r.secure) c)
