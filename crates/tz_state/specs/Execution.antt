-- The execution priority (DDI0553, `ExecutionPriority`, `RawExecutionPriority`). As those of exceptions, these
-- priorities count four above the manual's, so that none is negative; a lower number is more urgent.
use Rattle.std.specs.Prelude.{ℕ, zero, suc, ◌+◌, ◌==◌, nat_lt, min, Bool, false, ◌&&◌, if◌then◌else◌, Option, Some, None, ℤ, pos, ◌-ℤ◌}
use Rattle.tz_table.specs.declared.units.Side.{Side}
use Rattle.tz_table.specs.declared.units.Side.TheVariants.{Secure, NonSecure}
use Rattle.tz_model.specs.declared.report.Slot.{Slot}
use Rattle.tz_regs.specs.declared.parts.Masks.{Masks}
use Rattle.tz_regs.specs.declared.parts.SideMasks.{SideMasks}
use Rattle.tz_state.specs.Slots.{ExceptionsValue, at, places, is_place, index_of}
use Rattle.tz_state.specs.Priority.{zero_priority, group_of, restricted_priority, hard_priority, priority_of, chosen}

-- that of no exception and no mask
abbrev pub idle_priority : ℕ
idle_priority = 260

-- the priority as the manual has it
abbrev pub manual_priority : ℕ → ℤ
manual_priority n = pos n -ℤ pos zero_priority

-- a slot stands here that is active
abbrev pub is_active : ExceptionsValue → ℕ → Bool
is_active e i = is_place e i && (at e i).active

-- the least priority of the active slots at the places below n
unfoldable pub active_below : ExceptionsValue → ℕ → ℕ
active_below e zero = idle_priority
active_below e (suc n) = if is_active e n then min (priority_of e n) (active_below e n) else active_below e n

-- that of the active slots alone
abbrev pub raw_priority : ExceptionsValue → ℕ
raw_priority e = active_below e places

-- a BASEPRI that isn't 0 counts as the priority of an exception of its side does
abbrev pub basepri_priority : ExceptionsValue → Side → ℕ → ℕ
basepri_priority e side byte = if byte == 0 then idle_priority else zero_priority + restricted_priority e side (group_of e side byte)

-- PRIMASK counts as priority 0 of its side
abbrev pub primask_priority : ExceptionsValue → Side → Bool → ℕ
primask_priority e side set = if set then zero_priority + restricted_priority e side 0 else idle_priority

-- FAULTMASK of the Secure side counts as Secure HardFault; that of the Non-secure side as Non-secure HardFault
-- while BFHFNMINS is 1, else as priority 0
abbrev pub faultmask_set : ExceptionsValue → Side → ℕ
faultmask_set e Secure = hard_priority e Secure
faultmask_set e NonSecure = if e.bfhfnmins then hard_priority e NonSecure else zero_priority + restricted_priority e NonSecure 0

abbrev pub faultmask_priority : ExceptionsValue → Side → Bool → ℕ
faultmask_priority e side set = if set then faultmask_set e side else idle_priority

-- that of the masks of one side
abbrev pub side_priority : ExceptionsValue → Side → SideMasks → ℕ
side_priority e side m =
    min (basepri_priority e side m.basepri) (min (primask_priority e side m.primask) (faultmask_priority e side m.faultmask))

-- the least of the active slots and of all masks
unfoldable pub execution : ExceptionsValue → Masks → ℕ
execution e m = min (raw_priority e) (min (side_priority e Secure m.s) (side_priority e NonSecure m.ns))

-- the priority of a slot is below the execution priority
abbrev pub can_take : ExceptionsValue → Masks → Slot → Bool
can_take e m slot = nat_lt (priority_of e (index_of slot)) (execution e m)

-- the exception that comes first, where there is one, can be taken
abbrev pub can_take_any : ExceptionsValue → Masks → Option Slot → Bool
can_take_any e m None = false
can_take_any e m (Some slot) = can_take e m slot

abbrev pub takes_first : ExceptionsValue → Masks → Bool
takes_first e m = can_take_any e m (chosen e)

-- with both PRIMASKs read as 0
abbrev pub without_primask : Masks → Masks
without_primask m = record { s = record m.s { primask = false }; ns = record m.ns { primask = false } }

-- it ends a sleep
abbrev pub wakes : ExceptionsValue → Masks → Bool
wakes e m = takes_first e (without_primask m)
