-- What is told of a step beside its report.
use Rattle.std.specs.Prelude.{◌&&◌, List}
use Rattle.tz_model.specs.declared.report.ScriptEvent.{ScriptEvent}
use Rattle.tz_state.specs.State.{State, with_exceptions}
use Rattle.tz_state.specs.Due.{begun}
use Rattle.tz_state.specs.Moves.{moves_of}
use Rattle.tz_state.specs.Timers.{interrupts, runs_out}
use Rattle.tz_sem.specs.declared.account.Account.{Account}
use Rattle.tz_sem.specs.Step.{started, ended}

-- of a step at which these events are due, which begins with a count of both timers, and with moves
abbrev pub account : State → List ScriptEvent → Account
account s events =
    record {
      core = s.core;
      ticked_s = runs_out s.exceptions.timer_s && interrupts s.exceptions.timer_s;
      ticked_ns = runs_out s.exceptions.timer_ns && interrupts s.exceptions.timer_ns;
      moves = (moves_of (with_exceptions s (begun s.exceptions events))).told;
      ending = (ended (started s events)).ending;
    }
