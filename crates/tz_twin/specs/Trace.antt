-- The trace of a run.
use Rattle.std.specs.Prelude.{ℕ, zero, suc, ◌+◌, List, [], ◌++◌}
use Rattle.tz_model.specs.declared.report.View.{View}
use Rattle.tz_state.specs.State.{State}
use Rattle.tz_sem.specs.Step.{step}
use Rattle.tz_sem.specs.Run.{Events}
use Rattle.tz_text.specs.Line.{line}

-- the lines of n steps from step k on, with the events that are due at each
abbrev pub text_from : View → Events → ℕ → State → ℕ → List ℕ
text_from view events k s zero = []
text_from view events k s (suc n) =
    line view k (step s (events k)).report ++ text_from view events (k + 1) (step s (events k)).state n
