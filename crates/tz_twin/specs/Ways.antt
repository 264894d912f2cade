-- The way out of Secure state that a step tells.
use Rattle.std.specs.Prelude.{◌≡◌, Bool, ◌&&◌, is_some}
use Rattle.tz_model.specs.Words.{is_nonsecure_side}
use Rattle.tz_state.specs.State.{side_of}
use Rattle.tz_sem.specs.Step.{Stepped}

-- the step looked at Secure state, and ends Non-secure
abbrev pub crosses_out : Stepped → Bool
crosses_out r = r.report.touched && is_nonsecure_side (side_of r.state)

-- a way is told exactly where the step crosses out
abbrev pub TellsWay : Stepped → Type 0
TellsWay r = is_some r.report.way ≡ crosses_out r
