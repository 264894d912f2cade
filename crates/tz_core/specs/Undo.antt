-- What a step was before it was made, and the state that it is taken back to.
use Rattle.std.specs.Prelude.{List, [], Option, Some, None}
use Rattle.arrayvec.specs.ArrayVec.{ArrayVec}
use Rattle.tz_regs.specs.declared.parts.Core.{Core}
use Rattle.tz_state.specs.declared.request.Exclusive.{Exclusive}
use Rattle.tz_state.specs.Attribution.{SauState}
use Rattle.tz_state.specs.Protection.{MpuState}
use Rattle.tz_state.specs.Slots.{ExceptionsValue}
use Rattle.tz_state.specs.State.{State}
use Rattle.tz_access.specs.declared.written.Was.{Was}
use Rattle.tz_access.specs.Written.{undone}

-- the state before a step, but for memory and the board, and what the stores of the step overwrote, the newest last
pub record NoteValue : Type 0 where
  pub core : Core
  pub exceptions : ExceptionsValue
  pub sau : SauState
  pub mpu_s : MpuState
  pub mpu_ns : MpuState
  pub monitor : Option Exclusive
  pub written : List Was

-- the note of a state, with what stores overwrote since
abbrev pub note_of : State → List Was → NoteValue
note_of s ws =
    record {
      core = s.core;
      exceptions = s.exceptions;
      sau = s.bus.sau;
      mpu_s = s.bus.mpu_s;
      mpu_ns = s.bus.mpu_ns;
      monitor = s.bus.monitor;
      written = ws;
    }

-- what is noted of stores
abbrev pub stores_noted : Option (ArrayVec Was) → List Was
stores_noted None = []
stores_noted (Some ws) = ws.items

-- the state that a step is taken back to; the board stays
abbrev pub undo_of : NoteValue → State → State
undo_of n s =
    record {
      core = n.core;
      exceptions = n.exceptions;
      bus = record {
        sau = n.sau;
        mpu_s = n.mpu_s;
        mpu_ns = n.mpu_ns;
        monitor = n.monitor;
        memory = undone n.written s.bus.memory;
        board = s.bus.board;
      };
    }
