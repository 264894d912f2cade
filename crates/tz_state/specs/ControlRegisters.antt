-- The system control block but for the registers of faults: ICSR, AIRCR, VTOR, CCR, SHPR1 to 3 and SHCSR
-- (DDI0553, chapter D1.2).
use Rattle.std.specs.Prelude.{ℕ, ◌+◌, ◌*◌, ◌/◌, ◌%◌, ◌^◌, ◌==◌, Bool, true, false, ◌&&◌, ◌||◌, not, if◌then◌else◌, [], ◌∷◌, Option, Some, None, slice_index, slice_set, bit_and, bit_or}
use Rattle.std.specs.Int.{w32, from_le_bytes, to_le_bytes}
use Rattle.tz_table.specs.declared.units.Side.{Side}
use Rattle.tz_table.specs.declared.units.Side.TheVariants.{Secure, NonSecure}
use Rattle.tz_model.specs.declared.report.Slot.{Slot}
use Rattle.tz_model.specs.Words.{is_nonsecure_side}
use Rattle.tz_regs.specs.declared.parts.SideStatus.{SideStatus}
use Rattle.tz_regs.specs.RegisterBits.{ccr_res1, ccr_bits}
use Rattle.tz_state.specs.declared.slot.SlotState.{SlotState}
use Rattle.tz_state.specs.ExceptionNumbers.{nmi, hard_fault, mem_manage, bus_fault, usage_fault, secure_fault, sv_call, pend_sv, sys_tick}
use Rattle.tz_state.specs.ControlBits.{icsr_rettobase, icsr_vectpending, icsr_isrpending, icsr_pendstclr, icsr_pendstset, icsr_pendsvclr, icsr_pendsvset, icsr_pendnmiclr, icsr_pendnmiset, aircr_prigroup, aircr_bfhfnmins, aircr_pris, aircr_vectkey, vectkey, vectkeystat, shcsr_memfaultact, shcsr_busfaultact, shcsr_hardfaultact, shcsr_usgfaultact, shcsr_securefaultact, shcsr_nmiact, shcsr_svcallact, shcsr_pendsvact, shcsr_systickact, shcsr_usgfaultpended, shcsr_memfaultpended, shcsr_busfaultpended, shcsr_svcallpended, shcsr_memfaultena, shcsr_busfaultena, shcsr_usgfaultena, shcsr_securefaultena, shcsr_securefaultpended, shcsr_hardfaultpended}
use Rattle.tz_state.specs.Slots.{ExceptionsValue, at, places, first_interrupt_place, exception_number, index_of}
use Rattle.tz_state.specs.SlotChanges.{is_fault_side_held}
use Rattle.tz_state.specs.Priority.{chosen}
use Rattle.tz_state.specs.Execution.{is_active}
use Rattle.tz_state.specs.Pieces.{is_bit, Bit, Field, word_of, any_below}

-- ---- what a view shows of the numbers below 16

-- NMI, BusFault and what goes with them: Non-secure code sees them while BFHFNMINS is 1
abbrev pub sees_bus : Side → Bool → Bool
sees_bus Secure bfhfnmins = true
sees_bus NonSecure bfhfnmins = bfhfnmins

-- what Secure code alone sees
abbrev pub sees_secure : Side → Bool
sees_secure Secure = true
sees_secure NonSecure = false

abbrev pub sees_number : Side → ExceptionsValue → ℕ → Bool
sees_number side e n =
    if n == secure_fault then sees_secure side else if n == nmi || n == bus_fault then sees_bus side e.bfhfnmins else true

-- the place of a number below 16 in the view of a side
abbrev pub place_of : Side → ℕ → ℕ
place_of side n = index_of (record { number = n; side = side })

abbrev pub slot_seen : Side → ExceptionsValue → ℕ → SlotState
slot_seen side e n = at e (place_of side n)

abbrev pub shows_active : Side → ExceptionsValue → ℕ → Bool
shows_active side e n = sees_number side e n && (slot_seen side e n).active

abbrev pub shows_pending : Side → ExceptionsValue → ℕ → Bool
shows_pending side e n = sees_number side e n && (slot_seen side e n).pending

abbrev pub shows_enabled : Side → ExceptionsValue → ℕ → Bool
shows_enabled side e n = sees_number side e n && (slot_seen side e n).enabled

-- the slot of a number replaced, where that may be
abbrev pub with_number : Side → ExceptionsValue → ℕ → Bool → SlotState → ExceptionsValue
with_number side e n may slot = record e { slots = if may then slice_set e.slots (place_of side n) slot else e.slots }

-- ---- ICSR

-- VECTPENDING: the number of the exception that comes first; Non-secure code learns of a Secure one that there
-- is one, which counts as number 1
abbrev pub pending_number : Side → Option Slot → ℕ
pending_number Secure None = 0
pending_number Secure (Some slot) = slot.number
pending_number NonSecure None = 0
pending_number NonSecure (Some slot) = if is_nonsecure_side slot.side then slot.number else 1

-- ISRPENDING: an interrupt of either side is pending, enabled or not
abbrev pub is_interrupt_pending : ExceptionsValue → Bool
is_interrupt_pending e = any_below (λ n. (at e (first_interrupt_place + n)).pending) e.interrupts

-- a slot is active at a place beside the one that is handled: of another number, or the second that is active
abbrev pub is_other_active : ExceptionsValue → ℕ → ℕ → Bool
is_other_active e ipsr i = is_active e i && (not (exception_number i == ipsr) || any_below (is_active e) i)

-- RETTOBASE: an exception is handled, and no slot is active but one of its number
abbrev pub returns_to_base : ExceptionsValue → ℕ → Bool
returns_to_base e ipsr = not (ipsr == 0) && not (any_below (is_other_active e ipsr) places)

abbrev pub icsr_value : Side → ExceptionsValue → ℕ → ℕ
icsr_value side e ipsr =
    word_of (
    Field 0 ipsr
    ∷ Bit icsr_rettobase (returns_to_base e ipsr)
    ∷ Field icsr_vectpending (pending_number side (chosen e))
    ∷ Bit icsr_isrpending (is_interrupt_pending e)
    ∷ Bit icsr_pendstset (shows_pending side e sys_tick)
    ∷ Bit icsr_pendsvset (shows_pending side e pend_sv)
    ∷ Bit icsr_pendnmiset (shows_pending side e nmi)
    ∷ [])

-- a number that the view shows is pended, or made not pending; (own) to do both pends it
abbrev pub pends : Side → ExceptionsValue → ℕ → Bool → Bool → ExceptionsValue
pends side e n set clear =
    with_number side e n (sees_number side e n) (record (slot_seen side e n) { pending = set || (not clear && (slot_seen side e n).pending) })

unfoldable pub icsr_written : Side → ExceptionsValue → ℕ → ExceptionsValue
icsr_written side e value =
    let systick = pends side e sys_tick (is_bit value icsr_pendstset) (is_bit value icsr_pendstclr) in
    let pendsv = pends side systick pend_sv (is_bit value icsr_pendsvset) (is_bit value icsr_pendsvclr) in
    pends side pendsv nmi (is_bit value icsr_pendnmiset) (is_bit value icsr_pendnmiclr)

-- ---- AIRCR

abbrev pub aircr_value : Side → ExceptionsValue → ℕ
aircr_value Secure e = word_of (Field aircr_vectkey vectkeystat ∷ Bit aircr_pris e.pris ∷ Bit aircr_bfhfnmins e.bfhfnmins ∷ Field aircr_prigroup e.prigroup_s ∷ [])
aircr_value NonSecure e = word_of (Field aircr_vectkey vectkeystat ∷ Bit aircr_bfhfnmins e.bfhfnmins ∷ Field aircr_prigroup e.prigroup_ns ∷ [])

-- a write without the key does nothing
abbrev pub has_key : ℕ → Bool
has_key value = value / 2 ^ aircr_vectkey == vectkey

abbrev pub aircr_written : Side → ExceptionsValue → ℕ → ExceptionsValue
aircr_written Secure e value =
    record e {
      prigroup_s = if has_key value then value / 2 ^ aircr_prigroup % 8 else e.prigroup_s;
      pris = if has_key value then is_bit value aircr_pris else e.pris;
      bfhfnmins = if has_key value && not (is_fault_side_held e) then is_bit value aircr_bfhfnmins else e.bfhfnmins;
    }
aircr_written NonSecure e value = record e { prigroup_ns = if has_key value then value / 2 ^ aircr_prigroup % 8 else e.prigroup_ns }

-- ---- VTOR and CCR

abbrev pub vtor_written : SideStatus → ℕ → SideStatus
vtor_written c value = record c { vtor = value / 2 ^ 7 * 2 ^ 7 }

abbrev pub ccr_value : SideStatus → ℕ
ccr_value c = bit_or c.ccr (2 ^ ccr_res1)

abbrev pub ccr_written : SideStatus → ℕ → SideStatus
ccr_written c value = record c { ccr = bit_and value ccr_bits }

-- ---- SHPR1 to SHPR3: a byte for each number, from 4, 8 and 12 on

-- the numbers with a priority that can be written
abbrev pub has_byte : ℕ → Bool
has_byte n =
    n == mem_manage
    || (n == bus_fault || (n == usage_fault || (n == secure_fault || (n == sv_call || (n == pend_sv || n == sys_tick)))))

abbrev pub byte_seen : Side → ExceptionsValue → ℕ → ℕ
byte_seen side e n = if has_byte n && sees_number side e n then (slot_seen side e n).priority else 0

abbrev pub with_byte_seen : Side → ExceptionsValue → ℕ → ℕ → ExceptionsValue
with_byte_seen side e n byte = with_number side e n (has_byte n && sees_number side e n) (record (slot_seen side e n) { priority = byte })

abbrev pub shpr_value : Side → ExceptionsValue → ℕ → ℕ
shpr_value side e n =
    from_le_bytes w32 (byte_seen side e n ∷ byte_seen side e (n + 1) ∷ byte_seen side e (n + 2) ∷ byte_seen side e (n + 3) ∷ [])

unfoldable pub shpr_written : Side → ExceptionsValue → ℕ → ℕ → ExceptionsValue
shpr_written side e n value =
    let bytes = to_le_bytes w32 value in
    let first = with_byte_seen side e n (slice_index bytes 0) in
    let second = with_byte_seen side first (n + 1) (slice_index bytes 1) in
    let third = with_byte_seen side second (n + 2) (slice_index bytes 2) in
    with_byte_seen side third (n + 3) (slice_index bytes 3)

-- ---- SHCSR

abbrev pub shcsr_value : Side → ExceptionsValue → ℕ
shcsr_value side e =
    word_of (
    Bit shcsr_memfaultact (shows_active side e mem_manage)
    ∷ Bit shcsr_busfaultact (shows_active side e bus_fault)
    ∷ Bit shcsr_hardfaultact (shows_active side e hard_fault)
    ∷ Bit shcsr_usgfaultact (shows_active side e usage_fault)
    ∷ Bit shcsr_securefaultact (shows_active side e secure_fault)
    ∷ Bit shcsr_nmiact (shows_active side e nmi)
    ∷ Bit shcsr_svcallact (shows_active side e sv_call)
    ∷ Bit shcsr_pendsvact (shows_active side e pend_sv)
    ∷ Bit shcsr_systickact (shows_active side e sys_tick)
    ∷ Bit shcsr_usgfaultpended (shows_pending side e usage_fault)
    ∷ Bit shcsr_memfaultpended (shows_pending side e mem_manage)
    ∷ Bit shcsr_busfaultpended (shows_pending side e bus_fault)
    ∷ Bit shcsr_svcallpended (shows_pending side e sv_call)
    ∷ Bit shcsr_memfaultena (shows_enabled side e mem_manage)
    ∷ Bit shcsr_busfaultena (shows_enabled side e bus_fault)
    ∷ Bit shcsr_usgfaultena (shows_enabled side e usage_fault)
    ∷ Bit shcsr_securefaultena (shows_enabled side e secure_fault)
    ∷ Bit shcsr_securefaultpended (shows_pending side e secure_fault)
    ∷ Bit shcsr_hardfaultpended (shows_pending side e hard_fault)
    ∷ [])

-- (own) a write changes what is enabled, and nothing else
abbrev pub enables : Side → ExceptionsValue → ℕ → Bool → ExceptionsValue
enables side e n on = with_number side e n (sees_number side e n) (record (slot_seen side e n) { enabled = on })

unfoldable pub shcsr_written : Side → ExceptionsValue → ℕ → ExceptionsValue
shcsr_written side e value =
    let memory = enables side e mem_manage (is_bit value shcsr_memfaultena) in
    let bus = enables side memory bus_fault (is_bit value shcsr_busfaultena) in
    let usage = enables side bus usage_fault (is_bit value shcsr_usgfaultena) in
    enables side usage secure_fault (is_bit value shcsr_securefaultena)
