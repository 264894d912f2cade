-- How a step ended, with how exceptions came into it.
use Rattle.std.specs.Prelude.{[], if◌then◌else◌, Option, None}
use Rattle.tz_table.specs.declared.units.Side.{Side}
use Rattle.tz_model.specs.declared.report.Way.{Way}
use Rattle.tz_state.specs.State.{State}
use Rattle.tz_sem.specs.declared.ending.Ending.{Ending}
use Rattle.tz_sem.specs.declared.ending.Handling.{Handling}
use Rattle.tz_sem.specs.Ended.{crosses, way_by, kind_of}
use Rattle.tz_core.specs.declared.ending.Close.{Close}

-- of a step that closed so, and of which that is noted
abbrev pub ending_of : Close → Option Handling → Ending
ending_of close noted = record { touched = close.touched; cause = close.cause; ran = close.ran; handling = noted }

-- the way out of Secure state of a step that started on a side, left a state and closed so
abbrev pub way_told : State → Side → Close → Option Way
way_told s start close =
    if crosses (record { state = s; stores = []; ending = ending_of close None }) then way_by s close.cause (kind_of start close.cause s.core.registers.lr)
    else None
