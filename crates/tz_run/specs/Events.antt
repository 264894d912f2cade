-- The events of a script, step by step.
use Rattle.std.specs.Prelude.{List}
use Rattle.tz_board.specs.Scripts.{Timed, due_at}
use Rattle.tz_sem.specs.Run.{Events}

abbrev pub events_of : List Timed → Events
events_of script k = due_at k script
