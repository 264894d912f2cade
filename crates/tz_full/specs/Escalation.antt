-- What became of the exception of a fault, and why (DDI0553, `CreateException`), by the state after the step. Between the
-- fault and that state an entry changes one thing that decides it: the exception that it takes is active.
use Rattle.std.specs.Prelude.{ℕ, zero, suc, ◌==◌, nat_lt, min, Bool, ◌&&◌, not, if◌then◌else◌, List, [], ◌++◌, codes}
use Rattle.std.specs.Fmt.{signed_decimal}
use Rattle.tz_table.specs.declared.units.Side.{Side}
use Rattle.tz_table.specs.declared.units.Side.TheVariants.{Secure, NonSecure}
use Rattle.tz_model.specs.declared.report.Slot.{Slot}
use Rattle.tz_regs.specs.declared.parts.Masks.{Masks}
use Rattle.tz_state.specs.declared.taken.Taken.{Taken}
use Rattle.tz_state.specs.declared.taken.Taken.TheVariants.{AsIs, Hard, Lockup}
use Rattle.tz_state.specs.ExceptionNumbers.{hard_fault}
use Rattle.tz_state.specs.State.{State}
use Rattle.tz_state.specs.Slots.{ExceptionsValue, places, index_of, side_at, slot_at, is_enabled}
use Rattle.tz_state.specs.Priority.{priority_of, hard_priority}
use Rattle.tz_state.specs.Execution.{idle_priority, is_active, side_priority, manual_priority}
use Rattle.tz_state.specs.Escalation.{hard_side}
use Rattle.tz_full.specs.Words.{side_text}
use Rattle.tz_full.specs.ExceptionNames.{exception_name, slot_text}

-- ---- the execution priority at the fault

-- the active slots are those of the state after, but for the one that was taken
abbrev pub was_active : ExceptionsValue → ℕ → ℕ → Bool
was_active e taken i = is_active e i && not (i == taken)

-- the least priority of those at the places below n
unfoldable pub active_before : ExceptionsValue → ℕ → ℕ → ℕ
active_before e taken zero = idle_priority
active_before e taken (suc n) = if was_active e taken n then min (priority_of e n) (active_before e taken n) else active_before e taken n

-- and of all masks
unfoldable pub execution_before : ExceptionsValue → Masks → ℕ → ℕ
execution_before e m taken =
    min (active_before e taken places) (min (side_priority e Secure m.s) (side_priority e NonSecure m.ns))

-- ---- what it became

-- HardFault of a side, or lockup, below an execution priority
abbrev pub hardened_at : ExceptionsValue → ℕ → Side → Taken
hardened_at e execution side = if nat_lt (hard_priority e side) execution then Hard side else Lockup

-- the exception at a place, likewise
abbrev pub escalated_at : ExceptionsValue → ℕ → ℕ → Taken
escalated_at e execution i =
    if is_enabled e i && nat_lt (priority_of e i) execution then AsIs else hardened_at e execution (hard_side e (side_at e i))

-- ---- its line

abbrev pub why_text : Slot → Bool → List ℕ
why_text slot enabled =
    if enabled then codes "its priority is not above that of the code" else exception_name slot.number ++ codes " is not enabled"

-- HardFault pends in its place
unfoldable pub forced_line : Side → Slot → Bool → List ℕ
forced_line side slot enabled =
    codes "    HardFault " ++ side_text side ++ codes " for " ++ slot_text slot ++ codes " (FORCED): " ++ why_text slot enabled ++ codes "\n"

abbrev pub nor_text : Slot → List ℕ
nor_text slot = if slot.number == hard_fault then codes " can't be taken" else codes " can't be taken, nor HardFault"

-- the core locks
unfoldable pub lockup_line : Slot → ℕ → List ℕ
lockup_line slot execution =
    codes "    lockup: " ++ slot_text slot ++ nor_text slot ++ codes ": the code has priority " ++ signed_decimal (manual_priority execution)
    ++ codes "\n"

-- an exception that stays what it is has no line
unfoldable pub became_text : Taken → Slot → Bool → ℕ → List ℕ
became_text AsIs slot enabled execution = []
became_text (Hard side) slot enabled execution = forced_line side slot enabled
became_text Lockup slot enabled execution = lockup_line slot execution

-- the exception at a place, by an execution priority
unfoldable pub raised_at : ExceptionsValue → ℕ → ℕ → List ℕ
raised_at e execution i = became_text (escalated_at e execution i) (slot_at e i) (is_enabled e i) execution

-- an exception that a fault raised, in a step that took the one at a place
unfoldable pub raised_text : State → ℕ → Slot → List ℕ
raised_text s taken slot = raised_at s.exceptions (execution_before s.exceptions s.core.masks taken) (index_of slot)
