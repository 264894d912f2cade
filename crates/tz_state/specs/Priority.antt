-- Priorities of exceptions, and the choice among them (DDI0553, `ExceptionPriority`, `PendingExceptionDetails`).
-- They count four above the manual's, so that none is negative; a lower number is more urgent.
use Rattle.std.specs.Prelude.{ℕ, ◌+◌, ◌*◌, ◌/◌, ◌%◌, ◌^◌, ◌==◌, Bool, ◌&&◌, if◌then◌else◌, Option, Some, None}
use Rattle.tz_table.specs.declared.units.Side.{Side}
use Rattle.tz_table.specs.declared.units.Side.TheVariants.{Secure, NonSecure}
use Rattle.tz_model.specs.declared.report.Slot.{Slot}
use Rattle.tz_state.specs.ExceptionNumbers.{nmi, hard_fault}
use Rattle.tz_state.specs.Slots.{ExceptionsValue, at, places, is_place, exception_number, side_at, slot_at, is_enabled, has_fixed_priority, prigroup_of}
use Rattle.tz_state.specs.Least.{least_below}

-- the manual's priority 0; those below it are negative
abbrev pub zero_priority : ℕ
zero_priority = 4

-- that of HardFault, -1
abbrev pub hard_fault_priority : ℕ
hard_fault_priority = 3

-- that of NMI, -2
abbrev pub nmi_priority : ℕ
nmi_priority = 2

-- that of Secure HardFault while BFHFNMINS is 1, -3
abbrev pub secure_hard_fault_priority : ℕ
secure_hard_fault_priority = 1

-- PRIGROUP n splits a byte of a side above bit n
abbrev pub group_size : ExceptionsValue → Side → ℕ
group_size e side = 2 ^ (prigroup_of e side + 1)

-- the byte with bits n:0 cleared
abbrev pub group_of : ExceptionsValue → Side → ℕ → ℕ
group_of e side byte = byte / group_size e side * group_size e side

-- bits n:0 of it
abbrev pub subgroup_of : ExceptionsValue → Side → ℕ → ℕ
subgroup_of e side byte = byte % group_size e side

-- with PRIS, Non-secure priorities are restricted to the upper half (DDI0553, `RestrictedNSPri`)
abbrev pub restricted_priority : ExceptionsValue → Side → ℕ → ℕ
restricted_priority e Secure group = group
restricted_priority e NonSecure group = if e.pris then 128 + group / 2 else group

-- HardFault of a side
abbrev pub hard_priority : ExceptionsValue → Side → ℕ
hard_priority e Secure = if e.bfhfnmins then secure_hard_fault_priority else hard_fault_priority
hard_priority e NonSecure = hard_fault_priority

-- the group priority of the slot at a place
unfoldable pub priority_of : ExceptionsValue → ℕ → ℕ
priority_of e i =
    if exception_number i == nmi then nmi_priority
    else if exception_number i == hard_fault then hard_priority e (side_at e i)
    else zero_priority + restricted_priority e (side_at e i) (group_of e (side_at e i) (at e i).priority)

-- what decides among equal group priorities
unfoldable pub subpriority_of : ExceptionsValue → ℕ → ℕ
subpriority_of e i = if has_fixed_priority (exception_number i) then 0 else subgroup_of e (side_at e i) (at e i).priority

-- by group priority, then subpriority, then number, then Secure before Non-secure, as places are
unfoldable pub rank_of : ExceptionsValue → ℕ → ℕ
rank_of e i = (priority_of e i * 256 + subpriority_of e i) * 512 + i

-- a slot stands here that is pending and enabled
abbrev pub is_ready : ExceptionsValue → ℕ → Bool
is_ready e i = is_place e i && ((at e i).pending && is_enabled e i)

abbrev pub chosen_place : ExceptionsValue → Option ℕ
chosen_place e = least_below (is_ready e) (rank_of e) places

abbrev pub slot_found : ExceptionsValue → Option ℕ → Option Slot
slot_found e None = None
slot_found e (Some i) = Some (slot_at e i)

-- the ready slot that comes first
abbrev pub chosen : ExceptionsValue → Option Slot
chosen e = slot_found e (chosen_place e)
