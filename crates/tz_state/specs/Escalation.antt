-- What a synchronous exception becomes (DDI0553, `CreateException`).
use Rattle.std.specs.Prelude.{nat_lt, ◌&&◌, if◌then◌else◌}
use Rattle.tz_table.specs.declared.units.Side.{Side}
use Rattle.tz_table.specs.declared.units.Side.TheVariants.{Secure}
use Rattle.tz_model.specs.declared.report.Slot.{Slot}
use Rattle.tz_regs.specs.declared.parts.Masks.{Masks}
use Rattle.tz_state.specs.Slots.{ExceptionsValue, index_of, side_at, is_enabled}
use Rattle.tz_state.specs.Priority.{hard_priority}
use Rattle.tz_state.specs.declared.taken.Taken.{Taken}
use Rattle.tz_state.specs.declared.taken.Taken.TheVariants.{AsIs, Hard, Lockup}
use Rattle.tz_state.specs.Execution.{execution, can_take}

-- HardFault is Secure, but while BFHFNMINS is 1 it is of the side of what became it
abbrev pub hard_side : ExceptionsValue → Side → Side
hard_side e side = if e.bfhfnmins then side else Secure

-- HardFault of a side, or lockup where that can't be taken
abbrev pub hardened : ExceptionsValue → Masks → Side → Taken
hardened e m side = if nat_lt (hard_priority e side) (execution e m) then Hard side else Lockup

-- an exception that is enabled and can be taken stays what it is
abbrev pub escalated : ExceptionsValue → Masks → Slot → Taken
escalated e m slot =
    if is_enabled e (index_of slot) && can_take e m slot then AsIs else hardened e m (hard_side e (side_at e (index_of slot)))
