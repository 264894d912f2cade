-- The text of a run in view `full`.
use Rattle.std.specs.Prelude.{ℕ, zero, suc, ◌+◌, List, [], ◌++◌}
use Rattle.tz_model.specs.declared.report.ScriptEvent.{ScriptEvent}
use Rattle.tz_model.specs.declared.report.View.TheVariants.{All}
use Rattle.tz_state.specs.State.{State}
use Rattle.tz_sem.specs.Account.{account}
use Rattle.tz_sem.specs.Run.{Events}
use Rattle.tz_sem.specs.Step.{step}
use Rattle.tz_text.specs.Line.{line}
use Rattle.tz_full.specs.Full.{full}

-- a step from a state: its line in view `all`, and what is shown under it
abbrev pub step_text : List ScriptEvent → ℕ → State → List ℕ
step_text due k s = line All k (step s due).report ++ full (account s due) due (step s due).report (step s due).state

-- the text of n steps from step k on, with the events that are due at each
abbrev pub full_from : Events → ℕ → State → ℕ → List ℕ
full_from events k s zero = []
full_from events k s (suc n) = step_text (events k) k s ++ full_from events (k + 1) (step s (events k)).state n
