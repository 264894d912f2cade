-- Exceptions as values: what is kept of each, and where it stands (DDI0553, `ExceptionTargetsSecure`).
use Rattle.std.specs.Prelude.{ℕ, ◌+◌, ◌-◌, ◌*◌, ◌/◌, ◌%◌, ◌==◌, nat_le, nat_lt, Bool, false, ◌&&◌, ◌||◌, if◌then◌else◌, List, slice_index_or, slice_set, replicate}
use Rattle.tz_table.specs.declared.units.Side.{Side}
use Rattle.tz_table.specs.declared.units.Side.TheVariants.{Secure, NonSecure}
use Rattle.tz_model.specs.declared.report.Slot.{Slot}
use Rattle.tz_state.specs.declared.slot.SlotState.{SlotState}
use Rattle.tz_state.specs.declared.slot.Timer.{Timer}
use Rattle.tz_state.specs.ExceptionNumbers.{nmi, hard_fault, mem_manage, bus_fault, usage_fault, secure_fault, sv_call, pend_sv, sys_tick, first_interrupt}

-- all exceptions: a place for each slot, by `index_of`, and what both sides choose of them
pub record ExceptionsValue : Type 0 where
  pub slots : List SlotState
  pub interrupts : ℕ
  pub prigroup_s : ℕ
  pub prigroup_ns : ℕ
  pub pris : Bool
  pub bfhfnmins : Bool
  pub timer_s : Timer
  pub timer_ns : Timer

-- neither pending nor active nor enabled, of priority 0
abbrev pub idle : SlotState
idle = record { pending = false; active = false; enabled = false; priority = 0; target = Secure }

-- how many places there are
abbrev pub places : ℕ
places = 272

-- the first of an external interrupt; below it each number of the system has two
abbrev pub first_interrupt_place : ℕ
first_interrupt_place = 32

abbrev pub nmi_place : ℕ
nmi_place = 4

abbrev pub hard_fault_place_s : ℕ
hard_fault_place_s = 6

abbrev pub hard_fault_place_ns : ℕ
hard_fault_place_ns = 7

abbrev pub bus_fault_place : ℕ
bus_fault_place = 10

abbrev pub sys_tick_place_s : ℕ
sys_tick_place_s = 30

abbrev pub sys_tick_place_ns : ℕ
sys_tick_place_ns = 31

abbrev pub at : ExceptionsValue → ℕ → SlotState
at e i = slice_index_or e.slots i idle

abbrev pub with_slot : ExceptionsValue → ℕ → SlotState → ExceptionsValue
with_slot e i slot = record e { slots = slice_set e.slots i slot }

-- HardFault, MemManage, UsageFault, SVCall, PendSV and SysTick have a slot on each side
abbrev pub is_banked : ℕ → Bool
is_banked n = n == hard_fault || (n == mem_manage || (n == usage_fault || (n == sv_call || (n == pend_sv || n == sys_tick))))

-- the numbers of the system: NMI, BusFault and SecureFault beside the banked ones
abbrev pub is_system : ℕ → Bool
is_system n = n == nmi || (n == bus_fault || (n == secure_fault || is_banked n))

-- the numbers of external interrupts
abbrev pub is_external : ExceptionsValue → ℕ → Bool
is_external e n = nat_le first_interrupt n && nat_lt n (e.interrupts + first_interrupt)

abbrev pub has_number : ExceptionsValue → ℕ → Bool
has_number e n = is_system n || is_external e n

-- a slot exists where its number does; the side tells the two slots of a banked number apart, and no others
abbrev pub exists : ExceptionsValue → Slot → Bool
exists e slot = has_number e slot.number

-- 1 for the Non-secure slot of a banked number, which stands behind the Secure one
abbrev pub bank_of : ℕ → Side → ℕ
bank_of n Secure = 0
bank_of n NonSecure = if is_banked n then 1 else 0

-- the place of a slot; places ascend with the number, Secure before Non-secure. The system's numbers have two each,
-- which moves the interrupts up by as many
abbrev pub index_of : Slot → ℕ
index_of slot = if nat_lt slot.number first_interrupt then 2 * slot.number + bank_of slot.number slot.side else slot.number + first_interrupt

-- the number whose slot stands at a place
abbrev pub exception_number : ℕ → ℕ
exception_number i = if nat_lt i first_interrupt_place then i / 2 else i - first_interrupt

-- a slot stands at this place
abbrev pub is_place : ExceptionsValue → ℕ → Bool
is_place e i = if nat_lt i first_interrupt_place then (if i % 2 == 1 then is_banked (i / 2) else is_system (i / 2)) else nat_lt i (e.interrupts + first_interrupt_place)

-- the side of a number below 16 that isn't banked: NMI and BusFault follow BFHFNMINS, SecureFault is Secure
abbrev pub system_side : ExceptionsValue → ℕ → Side
system_side e n = if (n == nmi || n == bus_fault) && e.bfhfnmins then NonSecure else Secure

-- the side of the slot at a place
abbrev pub side_at : ExceptionsValue → ℕ → Side
side_at e i = if nat_lt i first_interrupt_place then (if i % 2 == 1 then NonSecure else system_side e (i / 2)) else (at e i).target

-- the slot at a place
abbrev pub slot_at : ExceptionsValue → ℕ → Slot
slot_at e i = record { number = exception_number i; side = side_at e i }

-- NMI, HardFault, SVCall, PendSV and SysTick can't be disabled
abbrev pub is_always_enabled : ℕ → Bool
is_always_enabled n = n == nmi || (n == hard_fault || (n == sv_call || (n == pend_sv || n == sys_tick)))

abbrev pub is_enabled : ExceptionsValue → ℕ → Bool
is_enabled e i = is_always_enabled (exception_number i) || (at e i).enabled

-- NMI and HardFault have fixed priorities
abbrev pub has_fixed_priority : ℕ → Bool
has_fixed_priority n = n == nmi || n == hard_fault

abbrev pub prigroup_of : ExceptionsValue → Side → ℕ
prigroup_of e Secure = e.prigroup_s
prigroup_of e NonSecure = e.prigroup_ns

abbrev pub timer_of : ExceptionsValue → Side → Timer
timer_of e Secure = e.timer_s
timer_of e NonSecure = e.timer_ns

abbrev pub no_timer : Timer
no_timer = record { csr = 0; rvr = 0; cvr = 0 }

-- the exceptions after a reset of a core with so many interrupts
abbrev pub reset_exceptions : ℕ → ExceptionsValue
reset_exceptions interrupts =
    record {
      slots = replicate places idle;
      interrupts = interrupts;
      prigroup_s = 0;
      prigroup_ns = 0;
      pris = false;
      bfhfnmins = false;
      timer_s = no_timer;
      timer_ns = no_timer;
    }
