-- The number of the exception fits the 9 bits that a frame has for it.
use Rattle.std.specs.Prelude.{◌^◌, ◌<◌, List}
use Rattle.tz_model.specs.declared.report.ScriptEvent.{ScriptEvent}
use Rattle.tz_regs.specs.declared.parts.Core.{Core}
use Rattle.tz_state.specs.State.{State}
use Rattle.tz_sem.specs.Step.{step}

abbrev pub IsNumbered : Core → Type 0
IsNumbered c = c.registers.ipsr < 2 ^ 9

abbrev pub NumbersFit : Type 0
NumbersFit = (s : State) (events : List ScriptEvent) → IsNumbered s.core → IsNumbered (step s events).state.core
