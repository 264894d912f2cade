-- What Non-secure code writes by the system registers keeps the Secure side of the exceptions, and the Secure timer.
use Rattle.std.proofs.Common.{◌≡◌, ℕ, zero, suc, ◌+◌, ◌*◌, ◌%◌, ◌^◌, Bool, true, false, ◌&&◌, ◌||◌, not, cond, refl, rules}
use Rattle.std.specs.Prelude.{slice_set, slice_index, nat_lt}
use Rattle.std.specs.Int.{w32, to_le_bytes}
use Rattle.tz_table.specs.declared.units.Side.TheVariants.{Secure, NonSecure}
use Rattle.tz_table.specs.declared.units.Size.{Size}
use Rattle.tz_table.specs.declared.units.Size.TheVariants.{Byte, Half, Word}
use Rattle.tz_model.specs.Words.{is_nonsecure_side}
use Rattle.tz_state.specs.declared.slot.SlotState.{SlotState}
use Rattle.tz_state.specs.declared.register.Register.{Register}
use Rattle.tz_state.specs.declared.register.Register.TheVariants.{Stir, Timer, Bits, Priorities, Control}
use Rattle.tz_state.specs.declared.register.Bank.{Bank}
use Rattle.tz_state.specs.declared.register.Bank.TheVariants.{Enable, Target}
use Rattle.tz_state.specs.declared.register.ControlRegister.{ControlRegister}
use Rattle.tz_state.specs.declared.register.ControlRegister.TheVariants.{Icsr, Aircr, Shpr1, Shpr2, Shpr3, Shcsr}
use Rattle.tz_state.specs.declared.register.Narrow.{Narrow}
use Rattle.tz_state.specs.declared.register.Narrow.TheVariants.{Keeps, Zeros, Ignored}
use Rattle.tz_state.specs.Slots.{ExceptionsValue, at}
use Rattle.tz_state.specs.Pieces.{is_bit}
use Rattle.tz_state.specs.NvicRegisters.{sees_interrupt, with_seen, shows_bank, bank_put, slots_put, bank_written, with_priority, priorities_written}
use Rattle.tz_state.specs.ControlRegisters.{sees_number, place_of, slot_seen, pends, icsr_written, has_byte, with_byte_seen, shpr_written, enables, shcsr_written}
use Rattle.tz_state.specs.SystemRegisters.{SystemState, value_of, after_read, written}
use Rattle.tz_state.specs.Views.{with_part, narrow_of, narrow_written, sized_written, found_read, found_written, system_read, system_written}
use Rattle.tz_twin.specs.Integrity.{is_secure_at}
use Rattle.tz_twin.proofs.Slots.{Quiet, quiet, quiet_then, slot_quiet}
use Rattle.tz_twin.proofs.Registers.{at_address}

-- a slot that isn't Secure replaced by one of the same side, where a test allows it
may_kept : (e : ExceptionsValue) (i : ℕ) (r : SlotState) (may : Bool) → r.target ≡ (at e i).target → (may ≡ true → is_secure_at e i ≡ false)
    → Quiet e (record e { slots = cond may (slice_set e.slots i r) e.slots })
may_kept e i r true target opens = slot_quiet e i r target (λ h. absurd (both (is_secure_at e i) h (opens refl))) (λ h. absurd (both (is_secure_at e i) h (opens refl))) where
  both : (t : Bool) → t ≡ true → t ≡ false → ⊥
  both true h k = cc
  both false h k = cc
may_kept e i r false target opens = quiet e

-- ---- interrupts

not_below : (n : ℕ) → nat_lt (32 + n) 32 ≡ false
not_below n = search rules

second_not : (a b : Bool) → (a && b) ≡ true → not b ≡ false
second_not true true h = refl
second_not true false h = cc
second_not false b h = cc

seen_open : (e : ExceptionsValue) (n : ℕ) → sees_interrupt NonSecure e n ≡ true → is_secure_at e (32 + n) ≡ false
seen_open e n h = rw (not_below n) (second_not (nat_lt n e.interrupts) (is_nonsecure_side (at e (32 + n)).target) h)

seen_kept : (e : ExceptionsValue) (n : ℕ) (r : SlotState) → r.target ≡ (at e (32 + n)).target → Quiet e (with_seen NonSecure e n r)
seen_kept e n r target = may_kept e (32 + n) r (sees_interrupt NonSecure e n) target (seen_open e n)

put_target : (bank : Bank) → shows_bank NonSecure bank ≡ true → (bit : Bool) (r : SlotState) → (bank_put bank bit r).target ≡ r.target
put_target Target h bit r = cc
put_target Enable h bit r = refl
put_target _ h bit r = refl

slots_put_kept : (bank : Bank) → shows_bank NonSecure bank ≡ true → (value n : ℕ) (e : ExceptionsValue) (k : ℕ) → Quiet e (record e { slots = slots_put NonSecure bank value n e k })
unfolding slots_put
slots_put_kept bank shown value n e zero = quiet e
slots_put_kept bank shown value n e (suc k) =
    let done : ExceptionsValue = record e { slots = slots_put NonSecure bank value n e k } in
    let r = bank_put bank (is_bit value k) (at done (32 + (n + k))) in
    quiet_then e done (with_seen NonSecure done (n + k) r) (slots_put_kept bank shown value n e k) (seen_kept done (n + k) r (put_target bank shown (is_bit value k) (at done (32 + (n + k)))))

bank_kept : (e : ExceptionsValue) (bank : Bank) (word value : ℕ) → Quiet e (bank_written NonSecure e bank word value)
bank_kept e Target word value = quiet e
bank_kept e Enable word value = slots_put_kept Enable refl value (32 * word) e 32
bank_kept e bank word value = slots_put_kept bank refl value (32 * word) e 32

priority_kept : (e : ExceptionsValue) (n byte : ℕ) → Quiet e (with_priority NonSecure e n byte)
priority_kept e n byte = seen_kept e n (record (at e (32 + n)) { priority = byte }) refl

priorities_kept : (e : ExceptionsValue) (word value : ℕ) → Quiet e (priorities_written NonSecure e word value)
unfolding priorities_written
priorities_kept e word value =
    let bytes = to_le_bytes w32 value in
    let first = with_priority NonSecure e (4 * word) (slice_index bytes 0) in
    let second = with_priority NonSecure first (4 * word + 1) (slice_index bytes 1) in
    let third = with_priority NonSecure second (4 * word + 2) (slice_index bytes 2) in
    let last = with_priority NonSecure third (4 * word + 3) (slice_index bytes 3) in
    quiet_then e third last
    (quiet_then e second third (quiet_then e first second (priority_kept e (4 * word) (slice_index bytes 0)) (priority_kept first (4 * word + 1) (slice_index bytes 1))) (priority_kept second (4 * word + 2) (slice_index bytes 2)))
    (priority_kept third (4 * word + 3) (slice_index bytes 3))

-- ---- numbers below 16

-- where a test holds, the slot of a number in the Non-secure view isn't Secure
abbrev Opens : (ExceptionsValue → Bool) → ℕ → Type 0
Opens may n = (e : ExceptionsValue) → may e ≡ true → is_secure_at e (place_of NonSecure n) ≡ false

pends_kept : (e : ExceptionsValue) (n : ℕ) (set clear : Bool) → Opens (λ e. sees_number NonSecure e n) n → Quiet e (pends NonSecure e n set clear)
pends_kept e n set clear opens =
    may_kept e (place_of NonSecure n) (record (slot_seen NonSecure e n) { pending = set || (not clear && (slot_seen NonSecure e n).pending) }) (sees_number NonSecure e n) refl (opens e)

byte_kept : (e : ExceptionsValue) (n byte : ℕ) → Opens (λ e. has_byte n && sees_number NonSecure e n) n → Quiet e (with_byte_seen NonSecure e n byte)
byte_kept e n byte opens = may_kept e (place_of NonSecure n) (record (slot_seen NonSecure e n) { priority = byte }) (has_byte n && sees_number NonSecure e n) refl (opens e)

enables_kept : (e : ExceptionsValue) (n : ℕ) (on : Bool) → Opens (λ e. sees_number NonSecure e n) n → Quiet e (enables NonSecure e n on)
enables_kept e n on opens = may_kept e (place_of NonSecure n) (record (slot_seen NonSecure e n) { enabled = on }) (sees_number NonSecure e n) refl (opens e)

-- NMI and BusFault are seen while they are Non-secure
opens_bus : (f : Bool) → f ≡ true → not (is_nonsecure_side (cond f NonSecure Secure)) ≡ false
opens_bus true h = refl
opens_bus false h = cc

icsr_kept : (e : ExceptionsValue) (value : ℕ) → Quiet e (icsr_written NonSecure e value)
unfolding icsr_written
icsr_kept e value =
    let systick = pends NonSecure e 15 (is_bit value 26) (is_bit value 25) in
    let pendsv = pends NonSecure systick 14 (is_bit value 28) (is_bit value 27) in
    let nmi = pends NonSecure pendsv 2 (is_bit value 31) (is_bit value 30) in
    quiet_then e pendsv nmi
    (quiet_then e systick pendsv (pends_kept e 15 (is_bit value 26) (is_bit value 25) (λ e h. refl)) (pends_kept systick 14 (is_bit value 28) (is_bit value 27) (λ e h. refl)))
    (pends_kept pendsv 2 (is_bit value 31) (is_bit value 30) (λ e h. opens_bus e.bfhfnmins h))

shpr_kept : (e : ExceptionsValue) (n value : ℕ) → Opens (λ e. has_byte n && sees_number NonSecure e n) n → Opens (λ e. has_byte (n + 1) && sees_number NonSecure e (n + 1)) (n + 1)
    → Opens (λ e. has_byte (n + 2) && sees_number NonSecure e (n + 2)) (n + 2) → Opens (λ e. has_byte (n + 3) && sees_number NonSecure e (n + 3)) (n + 3)
    → Quiet e (shpr_written NonSecure e n value)
unfolding shpr_written
shpr_kept e n value a b c d =
    let bytes = to_le_bytes w32 value in
    let first = with_byte_seen NonSecure e n (slice_index bytes 0) in
    let second = with_byte_seen NonSecure first (n + 1) (slice_index bytes 1) in
    let third = with_byte_seen NonSecure second (n + 2) (slice_index bytes 2) in
    let last = with_byte_seen NonSecure third (n + 3) (slice_index bytes 3) in
    quiet_then e third last
    (quiet_then e second third (quiet_then e first second (byte_kept e n (slice_index bytes 0) a) (byte_kept first (n + 1) (slice_index bytes 1) b)) (byte_kept second (n + 2) (slice_index bytes 2) c))
    (byte_kept third (n + 3) (slice_index bytes 3) d)

shcsr_kept : (e : ExceptionsValue) (value : ℕ) → Quiet e (shcsr_written NonSecure e value)
unfolding shcsr_written
shcsr_kept e value =
    let memory = enables NonSecure e 4 (is_bit value 16) in
    let bus = enables NonSecure memory 5 (is_bit value 17) in
    let usage = enables NonSecure bus 6 (is_bit value 18) in
    let last = enables NonSecure usage 7 (is_bit value 19) in
    quiet_then e usage last
    (quiet_then e bus usage (quiet_then e memory bus (enables_kept e 4 (is_bit value 16) (λ e h. refl)) (enables_kept memory 5 (is_bit value 17) (λ e h. opens_bus e.bfhfnmins h))) (enables_kept bus 6 (is_bit value 18) (λ e h. refl)))
    (enables_kept usage 7 (is_bit value 19) (λ e h. cc))

-- ---- every register

no_slot : (e e' : ExceptionsValue) → e'.interrupts ≡ e.interrupts → e'.prigroup_s ≡ e.prigroup_s → e'.pris ≡ e.pris → e'.bfhfnmins ≡ e.bfhfnmins → e'.timer_s ≡ e.timer_s → e'.slots ≡ e.slots → Quiet e e'
no_slot e e' a b c d timer slots = record {
  keeps = record {
    interrupts = a;
    prigroup = b;
    pris = c;
    bfhfnmins = d;
    targets = λ i. rw slots refl;
    enabled = λ i h. rw slots refl;
    priorities = λ i h. rw slots refl;
  };
  timer = timer;
}

control_kept : (s : SystemState) (r : ControlRegister) (value : ℕ) → Quiet s.exceptions (written NonSecure s (Control r) value).exceptions
control_kept s Icsr value = icsr_kept s.exceptions value
control_kept s Shpr1 value = shpr_kept s.exceptions 4 value (λ e h. refl) (λ e h. opens_bus e.bfhfnmins h) (λ e h. refl) (λ e h. cc)
control_kept s Shpr2 value = shpr_kept s.exceptions 8 value (λ e h. cc) (λ e h. cc) (λ e h. cc) (λ e h. refl)
control_kept s Shpr3 value = shpr_kept s.exceptions 12 value (λ e h. cc) (λ e h. cc) (λ e h. refl) (λ e h. refl)
control_kept s Shcsr value = shcsr_kept s.exceptions value
control_kept s Aircr value = no_slot s.exceptions (written NonSecure s (Control Aircr) value).exceptions refl refl refl refl refl refl
control_kept s _ value = quiet s.exceptions

word_kept : (s : SystemState) (r : Register) (value : ℕ) → Quiet s.exceptions (written NonSecure s r value).exceptions
word_kept s (Control r) value = control_kept s r value
word_kept s (Bits bank word) value = bank_kept s.exceptions bank word value
word_kept s (Priorities word) value = priorities_kept s.exceptions word value
word_kept s Stir value = seen_kept s.exceptions (value % 2 ^ 9) (record (at s.exceptions (32 + value % 2 ^ 9)) { pending = true }) refl
word_kept s (Timer r) value = no_slot s.exceptions (written NonSecure s (Timer r) value).exceptions refl refl refl refl refl refl
word_kept s _ value = quiet s.exceptions

narrow_kept : (s : SystemState) (r : Register) (n : Narrow) (lane : ℕ) (size : Size) (value : ℕ) → Quiet s.exceptions (narrow_written NonSecure s r n lane size value).exceptions
narrow_kept s r Keeps lane size value = word_kept s r (with_part (value_of NonSecure s r) lane size value)
narrow_kept s r Zeros lane size value = word_kept s r (with_part 0 lane size value)
narrow_kept s r Ignored lane size value = quiet s.exceptions

sized_kept : (s : SystemState) (r : Register) (lane : ℕ) (size : Size) (value : ℕ) → Quiet s.exceptions (sized_written NonSecure s r lane size value).exceptions
sized_kept s r lane Byte value = narrow_kept s r (narrow_of r) lane Byte value
sized_kept s r lane Half value = narrow_kept s r (narrow_of r) lane Half value
sized_kept s r lane Word value = word_kept s r value

-- a write of Non-secure code, at any address
pub write_kept : (s : SystemState) (a : ℕ) (size : Size) (value : ℕ) → Quiet s.exceptions (system_written NonSecure s a size value).exceptions
write_kept s a size value =
    at_address (λ f. Quiet s.exceptions (found_written s f (a % 4) size value).exceptions) (quiet s.exceptions) (λ r. sized_kept s r (a % 4) size value) a

read_by_kept : (s : SystemState) (r : Register) → Quiet s.exceptions (after_read NonSecure s r).exceptions
read_by_kept s (Timer r) = no_slot s.exceptions (after_read NonSecure s (Timer r)).exceptions refl refl refl refl refl refl
read_by_kept s Stir = quiet s.exceptions
read_by_kept s _ = quiet s.exceptions

-- and a read
pub read_kept : (s : SystemState) (a : ℕ) → Quiet s.exceptions (system_read NonSecure s a).exceptions
read_kept s a = at_address (λ f. Quiet s.exceptions (found_read s f).exceptions) (quiet s.exceptions) (λ r. read_by_kept s r) a
