-- Slots and their places tell each other.
use Rattle.std.proofs.Common.{◌≡◌, inl, inr, ℕ, ◌+◌, ◌*◌, ◌/◌, ◌%◌, ◌<◌, ◌≤◌, Bool, true, false, cond, refl, arith}
use Rattle.std.specs.Prelude.{nat_lt, nat_le, ◌==◌}
use Rattle.std.proofs.lemmas.Bool.{cases_order}
use Rattle.std.proofs.lemmas.Bool.Decides.{nat_tests}
use Rattle.tz_table.specs.declared.units.Side.{Side}
use Rattle.tz_table.specs.declared.units.Side.TheVariants.{Secure, NonSecure}
use Rattle.tz_model.specs.declared.report.Slot.{Slot}
use Rattle.tz_state.specs.First.{Ascends}
use Rattle.tz_state.specs.Slots.{ExceptionsValue, is_banked, is_system, has_number, bank_of, index_of, exception_number, is_place, side_at, slot_at, exists}

pub number_back : (e : ExceptionsValue) (slot : Slot) → exists e slot ≡ true → exception_number (index_of slot) ≡ slot.number
number_back e slot h = grind (arith, nat_tests)

-- the Secure slot of a number of the system, or its only one
system_place : (e : ExceptionsValue) (n : ℕ) → n < 16 → is_system n ≡ true → is_place e (2 * n + 0) ≡ true
system_place e n l h =
    let few : nat_lt (2 * n + 0) 32 ≡ true = grind (arith, nat_tests) in
    let half : (2 * n + 0) / 2 ≡ n = omega arith in
    let even : (2 * n + 0) % 2 ≡ 0 = omega arith in
    rw (few, half, even) h

-- the Non-secure slot of a banked number
banked_place : (e : ExceptionsValue) (n : ℕ) → n < 16 → is_banked n ≡ true → is_place e (2 * n + 1) ≡ true
banked_place e n l h =
    let few : nat_lt (2 * n + 1) 32 ≡ true = grind (arith, nat_tests) in
    let half : (2 * n + 1) / 2 ≡ n = omega arith in
    let odd : (2 * n + 1) % 2 ≡ 1 = omega arith in
    rw (few, half, odd) h

-- an external interrupt
external_place : (e : ExceptionsValue) (n : ℕ) → n < e.interrupts + 16 → 16 ≤ n → is_place e (n + 16) ≡ true
external_place e n l m =
    let many : nat_lt (n + 16) 32 ≡ false = grind (arith, nat_tests) in
    let few : nat_lt (n + 16) (e.interrupts + 32) ≡ true = grind (arith, nat_tests) in
    rw (many, few) refl

banked_either : (e : ExceptionsValue) (n : ℕ) (t : Bool) → n < 16 → is_system n ≡ true → is_banked n ≡ t → is_place e (2 * n + cond t 1 0) ≡ true
banked_either e n true l h b = banked_place e n l b
banked_either e n false l h b = system_place e n l h

bank_place : (e : ExceptionsValue) (n : ℕ) (side : Side) → n < 16 → is_system n ≡ true → is_place e (2 * n + bank_of n side) ≡ true
bank_place e n Secure l h = system_place e n l h
bank_place e n NonSecure l h = banked_either e n (is_banked n) l h refl

place_either : (e : ExceptionsValue) (n : ℕ) (side : Side) (t : Bool) → nat_lt n 16 ≡ t → has_number e n ≡ true → is_place e (cond t (2 * n + bank_of n side) (n + 16)) ≡ true
place_either e n side true l h =
    let few : n < 16 = grind (arith, nat_tests) in
    let none : nat_le 16 n ≡ false = grind (arith, nat_tests) in
    bank_place e n side few (grind (arith, nat_tests))
place_either e n side false l h =
    let few : 16 ≤ n = grind (arith, nat_tests) in
    let some : n < e.interrupts + 16 = grind (arith, nat_tests) in
    external_place e n some few

pub place_there : (e : ExceptionsValue) (slot : Slot) → exists e slot ≡ true → is_place e (index_of slot) ≡ true
place_there e slot h = place_either e slot.number slot.side (nat_lt slot.number 16) refl h

pub index_back : (e : ExceptionsValue) (i : ℕ) → is_place e i ≡ true → index_of (slot_at e i) ≡ i
index_back e i h = grind (arith, nat_tests)

-- two places of one number are those of its two sides
record OneNumber (i j : ℕ) : Type 0 where
  few : j < 32
  even : i % 2 ≡ 0
  odd : j % 2 ≡ 1
  half : j / 2 ≡ i / 2

one_number : (i j : ℕ) → i < j → exception_number i ≡ exception_number j → OneNumber i j
one_number i j l q =
    let few : j < 32 = grind (arith, nat_tests) in
    let half : j / 2 ≡ i / 2 = grind (arith, nat_tests) in
    record { few = few; even = omega arith; odd = omega arith; half = half }

banked_of_odd : (e : ExceptionsValue) (j : ℕ) → j < 32 → j % 2 ≡ 1 → is_place e j ≡ true → is_banked (j / 2) ≡ true
banked_of_odd e j l o h =
    let few : nat_lt j 32 ≡ true = grind (arith, nat_tests) in
    rw (few, o) at h

secure_even : (e : ExceptionsValue) (i : ℕ) → i < 32 → i % 2 ≡ 0 → is_banked (i / 2) ≡ true → side_at e i ≡ Secure
secure_even e i l o h =
    let few : nat_lt i 32 ≡ true = grind (arith, nat_tests) in
    let nmi : (i / 2 == 2) ≡ false = grind (arith, nat_tests) in
    let bus : (i / 2 == 5) ≡ false = grind (arith, nat_tests) in
    rw (few, o, nmi, bus) refl

nonsecure_odd : (e : ExceptionsValue) (j : ℕ) → j < 32 → j % 2 ≡ 1 → side_at e j ≡ NonSecure
nonsecure_odd e j l o =
    let few : nat_lt j 32 ≡ true = grind (arith, nat_tests) in
    rw (few, o) refl

not_less : (i j : ℕ) → i < j → exception_number j < exception_number i → ⊥
not_less i j l m = grind (arith, nat_tests)

pub ascending : (e : ExceptionsValue) (i j : ℕ) → is_place e j ≡ true → i < j → Ascends e i j
ascending e i j h l = elim (cases_order (exception_number i) (exception_number j)) [
  | inr b ↦ elim b [ inl a ↦ inl a | inr c ↦ absurd (not_less i j l c) ]
  | inl q ↦ (let one = one_number i j l q in
      let banked : is_banked (i / 2) ≡ true = rw one.half at (banked_of_odd e j one.few one.odd h) in
      inr (q, secure_even e i (omega (arith, one.few)) one.even banked, nonsecure_odd e j one.few one.odd))
]
