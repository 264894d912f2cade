-- Several steps in a row, with the events that are due at each.
use Rattle.std.specs.Prelude.{ℕ, zero, suc, ◌+◌, List}
use Rattle.tz_model.specs.declared.report.ScriptEvent.{ScriptEvent}
use Rattle.tz_state.specs.State.{State}
use Rattle.tz_sem.specs.Step.{step}

-- the events of each step, by its number
abbrev pub Events : Type 0
Events = ℕ → List ScriptEvent

-- the state after n steps from step k on
abbrev pub state_after : Events → ℕ → State → ℕ → State
state_after events k s zero = s
state_after events k s (suc n) = state_after events (k + 1) (step s (events k)).state n
