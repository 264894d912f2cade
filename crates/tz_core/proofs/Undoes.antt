-- What is noted of a step takes it back.
use Rattle.std.proofs.Common.{◌≡◌, List, Option, Some, None, ap, ◌∙◌, refl}
use Rattle.std.specs.Prelude.{IsSome}
use Rattle.arrayvec.specs.ArrayVec.{ArrayVec}
use Rattle.tz_model.specs.declared.report.ScriptEvent.{ScriptEvent}
use Rattle.tz_state.specs.Memory.{Memory}
use Rattle.tz_state.specs.State.{State}
use Rattle.tz_sem.specs.Step.{step}
use Rattle.tz_twin.proofs.Elsewhere.{writes_told}
use Rattle.tz_access.specs.declared.written.Was.{Was}
use Rattle.tz_access.specs.Written.{undone, before_stores}
use Rattle.tz_core.specs.Undo.{NoteValue, note_of, stores_noted, undo_of}

-- what stood before the stores, by what is noted of them
put_back : (w : Option (ArrayVec Was)) (m m' : Memory) → before_stores w m' ≡ Some m → undone (stores_noted w) m' ≡ m
unfolding before_stores
put_back None m m' e = cc
put_back (Some ws) m m' e = cc

-- a list that was there before the stores is there still
pub is_there : (w : Option (ArrayVec Was)) (m m' : Memory) → before_stores w m' ≡ Some m → IsSome w
unfolding before_stores
is_there None m m' e = cc
is_there (Some ws) m m' e = refl

-- a step leaves the board
board_stays : (s s' : State) (due : List ScriptEvent) → s' ≡ (step s due).state → s'.bus.board ≡ s.bus.board
board_stays s s' due is = ap (λ (r : State). r.bus.board) is ∙ (writes_told s due).board

noted_undoes : (s s' : State) (due : List ScriptEvent) (w : Option (ArrayVec Was)) → s' ≡ (step s due).state → before_stores w s'.bus.memory ≡ Some s.bus.memory
    → undo_of (note_of s (stores_noted w)) s' ≡ s
noted_undoes s s' due w is back =
    λ i. record {
      core = s.core;
      exceptions = s.exceptions;
      bus = record {
        sau = s.bus.sau;
        mpu_s = s.bus.mpu_s;
        mpu_ns = s.bus.mpu_ns;
        monitor = s.bus.monitor;
        memory = put_back w s.bus.memory s'.bus.memory back i;
        board = board_stays s s' due is i;
      };
    }

-- the note of the state before a step, with what its stores overwrote
pub undoes : (s s' : State) (due : List ScriptEvent) (n : NoteValue) (ws : List Was) (w : Option (ArrayVec Was)) → n ≡ note_of s ws → s' ≡ (step s due).state
    → before_stores w s'.bus.memory ≡ Some s.bus.memory → undo_of (record n { written = stores_noted w }) s' ≡ s
undoes s s' due n ws w noted is back =
    ap (λ (m : NoteValue). undo_of (record m { written = stores_noted w }) s') noted ∙ noted_undoes s s' due w is back
