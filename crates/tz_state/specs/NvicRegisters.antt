-- ISER, ICER, ISPR, ICPR, IABR, ITNS, IPR and STIR (DDI0553, chapter D1.2). Interrupt n has the slot at place n from
-- the first of an interrupt on.
use Rattle.std.specs.Prelude.{ℕ, zero, suc, ◌+◌, ◌*◌, ◌%◌, ◌^◌, nat_lt, Bool, true, false, ◌&&◌, ◌||◌, not, if◌then◌else◌, List, [], ◌∷◌, slice_index, slice_set}
use Rattle.std.specs.Int.{w32, from_le_bytes, to_le_bytes}
use Rattle.tz_table.specs.declared.units.Side.{Side}
use Rattle.tz_table.specs.declared.units.Side.TheVariants.{Secure, NonSecure}
use Rattle.tz_model.specs.Words.{is_nonsecure_side}
use Rattle.tz_state.specs.declared.slot.SlotState.{SlotState}
use Rattle.tz_state.specs.declared.register.Bank.{Bank}
use Rattle.tz_state.specs.declared.register.Bank.TheVariants.{Enable, Disable, Pend, Unpend, Active, Target}
use Rattle.tz_state.specs.Slots.{ExceptionsValue, at, first_interrupt_place}
use Rattle.tz_state.specs.Pieces.{is_bit, bits_below}

-- the board has interrupt n, and the view of a side shows it: Non-secure code sees its own
abbrev pub sees_interrupt : Side → ExceptionsValue → ℕ → Bool
sees_interrupt Secure e n = nat_lt n e.interrupts
sees_interrupt NonSecure e n = nat_lt n e.interrupts && is_nonsecure_side (at e (first_interrupt_place + n)).target

-- the slots with that of an interrupt replaced, where the view of a side shows it
abbrev pub slots_seen : Side → ExceptionsValue → ℕ → SlotState → List SlotState
slots_seen side e n slot = if sees_interrupt side e n then slice_set e.slots (first_interrupt_place + n) slot else e.slots

abbrev pub with_seen : Side → ExceptionsValue → ℕ → SlotState → ExceptionsValue
with_seen side e n slot = record e { slots = slots_seen side e n slot }

-- ---- a bit for each interrupt

-- ITNS is shown to Secure code alone
abbrev pub shows_bank : Side → Bank → Bool
shows_bank Secure bank = true
shows_bank NonSecure Enable = true
shows_bank NonSecure Disable = true
shows_bank NonSecure Pend = true
shows_bank NonSecure Unpend = true
shows_bank NonSecure Active = true
shows_bank NonSecure Target = false

-- the bit of an interrupt
abbrev pub bank_bit : Bank → SlotState → Bool
bank_bit Enable slot = slot.enabled
bank_bit Disable slot = slot.enabled
bank_bit Pend slot = slot.pending
bank_bit Unpend slot = slot.pending
bank_bit Active slot = slot.active
bank_bit Target slot = is_nonsecure_side slot.target

-- what a bit that is written makes of an interrupt: ones set or clear, and zeros do nothing, but in ITNS
abbrev pub bank_put : Bank → Bool → SlotState → SlotState
bank_put Enable bit slot = record slot { enabled = bit || slot.enabled }
bank_put Disable bit slot = record slot { enabled = not bit && slot.enabled }
bank_put Pend bit slot = record slot { pending = bit || slot.pending }
bank_put Unpend bit slot = record slot { pending = not bit && slot.pending }
bank_put Active bit slot = slot
bank_put Target bit slot = record slot { target = if bit then NonSecure else Secure }

abbrev pub seen_bit : Side → ExceptionsValue → Bank → ℕ → Bool
seen_bit side e bank n = sees_interrupt side e n && bank_bit bank (at e (first_interrupt_place + n))

-- a word of 32 interrupts
abbrev pub bank_value : Side → ExceptionsValue → Bank → ℕ → ℕ
bank_value side e bank word = if shows_bank side bank then bits_below (λ k. seen_bit side e bank (32 * word + k)) 32 else 0

-- the slots after the lowest bits of a word are written, the first of which is of interrupt n
unfoldable pub slots_put : Side → Bank → ℕ → ℕ → ExceptionsValue → ℕ → List SlotState
slots_put side bank value n e zero = e.slots
slots_put side bank value n e (suc k) =
    let done = record e { slots = slots_put side bank value n e k } in
    slots_seen side done (n + k) (bank_put bank (is_bit value k) (at done (first_interrupt_place + (n + k))))

abbrev pub bank_written : Side → ExceptionsValue → Bank → ℕ → ℕ → ExceptionsValue
bank_written side e bank word value =
    record e { slots = if shows_bank side bank then slots_put side bank value (32 * word) e 32 else e.slots }

-- ---- a byte for each interrupt

abbrev pub seen_priority : Side → ExceptionsValue → ℕ → ℕ
seen_priority side e n = if sees_interrupt side e n then (at e (first_interrupt_place + n)).priority else 0

abbrev pub with_priority : Side → ExceptionsValue → ℕ → ℕ → ExceptionsValue
with_priority side e n byte = with_seen side e n (record (at e (first_interrupt_place + n)) { priority = byte })

-- a word of 4 interrupts
abbrev pub priorities_value : Side → ExceptionsValue → ℕ → ℕ
priorities_value side e word =
    from_le_bytes w32 (
    seen_priority side e (4 * word)
    ∷ seen_priority side e (4 * word + 1)
    ∷ seen_priority side e (4 * word + 2)
    ∷ seen_priority side e (4 * word + 3)
    ∷ [])

unfoldable pub priorities_written : Side → ExceptionsValue → ℕ → ℕ → ExceptionsValue
priorities_written side e word value =
    let bytes = to_le_bytes w32 value in
    let first = with_priority side e (4 * word) (slice_index bytes 0) in
    let second = with_priority side first (4 * word + 1) (slice_index bytes 1) in
    let third = with_priority side second (4 * word + 2) (slice_index bytes 2) in
    with_priority side third (4 * word + 3) (slice_index bytes 3)

-- STIR pends the interrupt of bits 8:0, where the view of a side shows it
abbrev pub stir_written : Side → ExceptionsValue → ℕ → ExceptionsValue
stir_written side e value = with_seen side e (value % 2 ^ 9) (record (at e (first_interrupt_place + value % 2 ^ 9)) { pending = true })
