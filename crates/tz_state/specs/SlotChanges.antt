-- What each writer leaves of the exceptions.
use Rattle.std.specs.Prelude.{ℕ, ◌+◌, Bool, true, false, ◌||◌, if◌then◌else◌, bit_and}
use Rattle.tz_table.specs.declared.units.Side.{Side}
use Rattle.tz_table.specs.declared.units.Side.TheVariants.{Secure, NonSecure}
use Rattle.tz_model.specs.declared.report.Slot.{Slot}
use Rattle.tz_state.specs.declared.slot.SlotState.{SlotState}
use Rattle.tz_state.specs.declared.slot.Timer.{Timer}
use Rattle.tz_state.specs.SysTickBits.{syst_csr_bits}
use Rattle.tz_state.specs.ExceptionNumbers.{first_interrupt}
use Rattle.tz_state.specs.Slots.{ExceptionsValue, at, nmi_place, hard_fault_place_s, hard_fault_place_ns, bus_fault_place, with_slot, index_of, is_always_enabled, has_fixed_priority}

abbrev pub pended : ExceptionsValue → Slot → ExceptionsValue
pended e slot = with_slot e (index_of slot) (record (at e (index_of slot)) { pending = true })

abbrev pub unpended : ExceptionsValue → Slot → ExceptionsValue
unpended e slot = with_slot e (index_of slot) (record (at e (index_of slot)) { pending = false })

-- an exception that is taken is active, and pends no more
abbrev pub activated : ExceptionsValue → Slot → ExceptionsValue
activated e slot = with_slot e (index_of slot) (record (at e (index_of slot)) { pending = false; active = true })

abbrev pub deactivated : ExceptionsValue → Slot → ExceptionsValue
deactivated e slot = with_slot e (index_of slot) (record (at e (index_of slot)) { active = false })

-- fixed priorities stay
abbrev pub prioritized : ExceptionsValue → Slot → ℕ → ExceptionsValue
prioritized e slot raw =
    with_slot e (index_of slot) (record (at e (index_of slot)) { priority = if has_fixed_priority slot.number then (at e (index_of slot)).priority else raw })

-- what is always enabled stays so
abbrev pub switched : ExceptionsValue → Slot → Bool → ExceptionsValue
switched e slot on =
    with_slot e (index_of slot) (record (at e (index_of slot)) { enabled = if is_always_enabled slot.number then (at e (index_of slot)).enabled else on })

-- an external interrupt gets a side
abbrev pub targeted : ExceptionsValue → ℕ → Side → ExceptionsValue
targeted e n side = with_slot e (n + first_interrupt) (record (at e (n + first_interrupt)) { target = side })

abbrev pub with_prigroup : ExceptionsValue → Side → ℕ → ExceptionsValue
with_prigroup e Secure n = record e { prigroup_s = n }
with_prigroup e NonSecure n = record e { prigroup_ns = n }

abbrev pub is_busy : SlotState → Bool
is_busy slot = slot.pending || slot.active

-- a slot of the exceptions that BFHFNMINS moves, BusFault, NMI and HardFault, is busy on any side
abbrev pub is_fault_side_held : ExceptionsValue → Bool
is_fault_side_held e =
    is_busy (at e nmi_place) || (is_busy (at e bus_fault_place) || (is_busy (at e hard_fault_place_s) || is_busy (at e hard_fault_place_ns)))

-- (own) BFHFNMINS stays while one of those slots is busy
abbrev pub with_fault_side : ExceptionsValue → Bool → ExceptionsValue
with_fault_side e on = record e { bfhfnmins = if is_fault_side_held e then e.bfhfnmins else on }

-- the bits that SYST_CSR, SYST_RVR and SYST_CVR have
abbrev pub timer_bits : Timer → Timer
timer_bits t = record { csr = bit_and t.csr syst_csr_bits; rvr = bit_and t.rvr 0xFFFFFF; cvr = bit_and t.cvr 0xFFFFFF }

abbrev pub with_timer : ExceptionsValue → Side → Timer → ExceptionsValue
with_timer e Secure t = record e { timer_s = t }
with_timer e NonSecure t = record e { timer_ns = t }
