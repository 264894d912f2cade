-- What a trace of view `ns` has of steps: how many lines show Secure state, an exception, an instruction.
use Rattle.std.specs.Prelude.{ℕ, zero, suc, ◌+◌, Bool, true, false, ◌&&◌, not, List, [], ◌∷◌, count_by}
use Rattle.tz_model.specs.declared.report.StepKind.{StepKind}
use Rattle.tz_model.specs.declared.report.StepKind.TheVariants.{Locked, Idle, Taken, Ran}
use Rattle.tz_model.specs.declared.report.Report.{Report}
use Rattle.tz_state.specs.State.{State}
use Rattle.tz_sem.specs.Run.{Events}
use Rattle.tz_sem.specs.Step.{step}
use Rattle.tz_text.specs.Line.{is_hidden}
use Rattle.tz_run.specs.declared.tally.Tally.{Tally}

-- ---- one step

abbrev pub is_taken : StepKind → Bool
is_taken Locked = false
is_taken Idle = false
is_taken (Taken number lr) = true
is_taken (Ran pc code) = false

abbrev pub is_ran : StepKind → Bool
is_ran Locked = false
is_ran Idle = false
is_ran (Taken number lr) = false
is_ran (Ran pc code) = true

-- the line of view `ns` is one of `X`
abbrev pub shows_taken : Report → Bool
shows_taken r = not (is_hidden r) && is_taken r.kind

-- or one of `N`
abbrev pub shows_ran : Report → Bool
shows_ran r = not (is_hidden r) && is_ran r.kind

-- ---- steps in a row

-- the reports of n steps from step k on
abbrev pub reports_of : Events → ℕ → State → ℕ → List Report
reports_of events k s zero = []
reports_of events k s (suc n) = (step s (events k)).report ∷ reports_of events (k + 1) (step s (events k)).state n

-- how many of them view `ns` shows as `S`, as `X` and as `N`
abbrev pub tally_in : List Report → Tally
tally_in reports = record {
  secure = count_by is_hidden reports;
  taken = count_by shows_taken reports;
  ran = count_by shows_ran reports;
}

abbrev pub tally_of : Events → ℕ → State → ℕ → Tally
tally_of events k s n = tally_in (reports_of events k s n)
