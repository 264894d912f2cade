-- The slots of a register that is shifted: kind and amount lie together, and tell each other.
use Rattle.std.proofs.Common.{◌≡◌, ℕ, ◌+◌, ◌*◌, ◌/◌, ◌%◌, ◌<◌, Bool, true, not, ◌&&◌, ◌||◌, List, [], ◌∷◌, length, refl, sym, ◌∙◌, ap, arith, subst, inl, inr}
use Rattle.std.specs.Prelude.{ℤ, pos, nat_abs, ◌==◌, nat_lt}
use Rattle.std.specs.Ordering.{int_eq}
use Rattle.std.proofs.lemmas.Bool.{agree_below, agree_below_at, and_parts, or_cases, cases_Bool, both_ways, not-true, eqb-true, eqb-false, eq-eqb, ltb-true, cond-true, cond-false}
use Rattle.tz_table.specs.Fields.{bits}
use Rattle.tz_table.specs.Terms.{imm_shift_of, imm_amount_of, imm5_of}
use Rattle.tz_bits.specs.Values.{shift_number}
use Rattle.tz_encode.specs.Limits.{number_at, limit_holds}
use Rattle.tz_encode.specs.Numbers.{amount_number, number_for, value_at, stands_for, takes, take_all, values_in}
use Rattle.tz_encode.specs.Slots.{gathered, held_by, parts_in}
use Rattle.tz_encode.specs.declared.coding.Coding.TheVariants.{Kind, Amount}
use Rattle.tz_encode.specs.declared.limit.Limit.{Limit}
use Rattle.tz_encode.specs.declared.slot.Half.TheVariants.{Second}
use Rattle.tz_encode.specs.declared.slot.Part.{Part}
use Rattle.tz_encode.specs.declared.slot.Parts.TheVariants.{Zero, Three}
use Rattle.tz_encode.specs.declared.slot.CodeSlot.{CodeSlot}
use Rattle.tz_encode.proofs.Codings.{int_eq-self, int_eq-true, tells}
use Rattle.tz_encode.proofs.Describes.{IsWritten, AllWritten, Holds}
use Rattle.tz_encode.proofs.Telling.{is_regular, written, written_same, told, values_told, eight}

-- seven bits of kind and amount are written again by what they mean
abbrev comes_again : ℕ → Bool
comes_again n = amount_number (shift_number (imm_shift_of (n / 32) (n % 32))) (imm_amount_of (n / 32) (n % 32)) == n

again : (n : ℕ) → n < 128 → amount_number (shift_number (imm_shift_of (n / 32) (n % 32))) (imm_amount_of (n / 32) (n % 32)) ≡ n
again n h = eqb-true _ _ (agree_below_at comes_again (λ n. true) 128 n refl h)

abbrev pub kind_slot : Limit → CodeSlot
kind_slot l = record { coding = Kind; limit = l; parts = Zero }

abbrev pub part : ℕ → ℕ → ℕ → Part
part low width shift = record { half = Second; low = low; width = width; shift = shift }

abbrev pub amount_slot : Limit → CodeSlot
amount_slot l = record { coding = Amount; limit = l; parts = Three (part 4 2 5) (part 12 3 2) (part 6 2 0) }

-- the number in the slot
number_in : (s : ℕ) → let n = bits s 4 2 * 32 + bits s 12 3 * 4 + bits s 6 2 in (n < 128) × (n / 32 ≡ bits s 4 2) × (n % 32 ≡ imm5_of s)
number_in s = (omega arith, omega arith, omega arith)

-- the amount is written again beside its kind
pub amount_written : (l : Limit) (e : List ℤ) (f s : ℕ) → number_at e 2 ≡ shift_number (imm_shift_of (bits s 4 2) (imm5_of s)) → IsWritten (amount_slot l) e (value_at Amount e (gathered (parts_in (amount_slot l).parts) f s) f s) f s
amount_written l e f s k =
    let n = number_in s in
    let kind : number_at e 2 ≡ shift_number (imm_shift_of ((bits s 4 2 * 32 + bits s 12 3 * 4 + bits s 6 2) / 32) ((bits s 4 2 * 32 + bits s 12 3 * 4 + bits s 6 2) % 32)) = k ∙ ap (λ x. shift_number (imm_shift_of x (imm5_of s))) (sym n.1) ∙ ap (λ x. shift_number (imm_shift_of ((bits s 4 2 * 32 + bits s 12 3 * 4 + bits s 6 2) / 32) x)) (sym n.2) in
    written_same (amount_slot l) e 7 (value_at Amount e (gathered (parts_in (amount_slot l).parts) f s) f s) f s refl
    (ap (λ x. amount_number x (imm_amount_of ((bits s 4 2 * 32 + bits s 12 3 * 4 + bits s 6 2) / 32) ((bits s 4 2 * 32 + bits s 12 3 * 4 + bits s 6 2) % 32))) kind ∙ again (bits s 4 2 * 32 + bits s 12 3 * 4 + bits s 6 2) n.0)
    (int_eq-self (value_at Amount e (gathered (parts_in (amount_slot l).parts) f s) f s))

-- ---- the kind, by the number

-- a number below 5 and an amount are a kind and an amount only if the number is that of the kind
abbrev tells_kind : ℕ → ℕ → Bool
tells_kind x y = not (imm_amount_of (amount_number x y / 32) (amount_number x y % 32) == y) || shift_number (imm_shift_of (amount_number x y / 32) (amount_number x y % 32)) == x

abbrev small_amount : ℕ → Bool
small_amount n = nat_lt (imm_amount_of (n / 32) (n % 32)) 33

number_below : (x y : ℕ) → x < 5 → amount_number x y < 128
number_below x y h =
    elim (cases_Bool (x == 4)) [
      | inl a ↦ let e = cond-true (x == 4) 96 (x * 32 + y % 32) a in omega arith
      | inr a ↦ let e = cond-false (x == 4) 96 (x * 32 + y % 32) a in let d = eqb-false x 4 a in omega arith
    ]

kind_of : (x y : ℕ) → x < 5 → imm_amount_of (amount_number x y / 32) (amount_number x y % 32) ≡ y → shift_number (imm_shift_of (amount_number x y / 32) (amount_number x y % 32)) ≡ x
kind_of x y h e =
    let small = ltb-true _ _ (agree_below_at small_amount (λ n. true) 128 (amount_number x y) refl (number_below x y h)) in
    let y_small : y < 33 = omega arith in
    let test = agree_below_at (tells_kind x) (λ y. true) 33 y (agree_below_at (λ x. agree_below (tells_kind x) (λ y. true) 33) (λ x. true) 5 x refl h) y_small in
    elim (or_cases (not (imm_amount_of (amount_number x y / 32) (amount_number x y % 32) == y)) (shift_number (imm_shift_of (amount_number x y / 32) (amount_number x y % 32)) == x) test) [
      | inl a ↦ absurd (both_ways _ (not-true _ a) (eq-eqb _ _ e))
      | inr a ↦ eqb-true _ _ a
    ]

-- the kind's value is that which the amount's number tells
pub kind_told : (l m : Limit) (d e : List ℤ) (y z : ℤ) (f s : ℕ) → number_at e 2 ≡ nat_abs y → takes (kind_slot l) d y ≡ true → takes (amount_slot m) e z ≡ true → gathered (parts_in (amount_slot m).parts) f s ≡ number_for Amount e z → value_at Kind d 0 f s ≡ y
kind_told l m d e y z f s k a b g =
    let p = and_parts (nat_lt (nat_abs y) 5 && int_eq (pos (nat_abs y)) y) (limit_holds l d y) a in
    let q = and_parts (nat_lt (nat_abs y) 5) (int_eq (pos (nat_abs y)) y) p.0 in
    let u = and_parts (held_by (parts_in (amount_slot m).parts) (number_for Amount e z) == number_for Amount e z && stands_for Amount e (number_for Amount e z) z) (limit_holds m e z) b in
    let v = and_parts (held_by (parts_in (amount_slot m).parts) (number_for Amount e z) == number_for Amount e z) (stands_for Amount e (number_for Amount e z) z) u.0 in
    let amount : imm_amount_of (amount_number (number_at e 2) (nat_abs z) / 32) (amount_number (number_at e 2) (nat_abs z) % 32) ≡ nat_abs z = ap nat_abs (int_eq-true (pos (imm_amount_of (number_for Amount e z / 32) (number_for Amount e z % 32))) z v.1) in
    let here : imm_amount_of (amount_number (nat_abs y) (nat_abs z) / 32) (amount_number (nat_abs y) (nat_abs z) % 32) ≡ nat_abs z = subst (λ x. imm_amount_of (amount_number x (nat_abs z) / 32) (amount_number x (nat_abs z) % 32) ≡ nat_abs z) k amount in
    let kind = kind_of (nat_abs y) (nat_abs z) (ltb-true _ _ q.0) here in
    let n = number_in s in
    let held : bits s 4 2 * 32 + bits s 12 3 * 4 + bits s 6 2 ≡ amount_number (nat_abs y) (nat_abs z) = g ∙ ap (λ x. amount_number x (nat_abs z)) k in
    ap pos (ap (λ x. shift_number (imm_shift_of x (imm5_of s))) (sym n.1 ∙ ap (λ x. x / 32) held)
    ∙ ap (λ x. shift_number (imm_shift_of (amount_number (nat_abs y) (nat_abs z) / 32) x)) (sym n.2 ∙ ap (λ x. x % 32) held)
    ∙ kind)
    ∙ int_eq-true (pos (nat_abs y)) y q.1

-- ---- eight slots of which the second is a kind and the last an amount

pub shifted_written : (form : ℤ) (a c d g h i : CodeSlot) (l m : Limit) (f s : ℕ) → (is_regular a && is_regular c && is_regular d && is_regular g && is_regular h && is_regular i) ≡ true → AllWritten (form ∷ []) (a ∷ kind_slot l ∷ c ∷ d ∷ g ∷ h ∷ i ∷ amount_slot m ∷ []) f s
shifted_written form a c d g h i l m f s r =
    let r1 = and_parts _ _ r in
    let r2 = and_parts _ _ r1.0 in
    let r3 = and_parts _ _ r2.0 in
    let r4 = and_parts _ _ r3.0 in
    let r5 = and_parts _ _ r4.0 in
    (written a _ f s r5.0, (written (kind_slot l) _ f s refl, (written c _ f s r5.1, (written d _ f s r4.1, (written g _ f s r3.1, (written h _ f s r2.1, (written i _ f s r1.1, (amount_written m _ f s refl, tt))))))))

shifted_eight : (form : ℤ) (a c d g h i : CodeSlot) (l m : Limit) (z1 z2 z3 z4 z5 z6 z7 z8 : ℤ) (f s : ℕ) → (tells a.coding && tells c.coding && tells d.coding && tells g.coding && tells h.coding && tells i.coding) ≡ true → take_all (form ∷ []) (a ∷ kind_slot l ∷ c ∷ d ∷ g ∷ h ∷ i ∷ amount_slot m ∷ []) (z1 ∷ z2 ∷ z3 ∷ z4 ∷ z5 ∷ z6 ∷ z7 ∷ z8 ∷ []) ≡ true → Holds (form ∷ []) (a ∷ kind_slot l ∷ c ∷ d ∷ g ∷ h ∷ i ∷ amount_slot m ∷ []) (z1 ∷ z2 ∷ z3 ∷ z4 ∷ z5 ∷ z6 ∷ z7 ∷ z8 ∷ []) f s → values_in (form ∷ []) (a ∷ kind_slot l ∷ c ∷ d ∷ g ∷ h ∷ i ∷ amount_slot m ∷ []) f s ≡ z1 ∷ z2 ∷ z3 ∷ z4 ∷ z5 ∷ z6 ∷ z7 ∷ z8 ∷ []
shifted_eight form a c d g h i l m z1 z2 z3 z4 z5 z6 z7 z8 f s r k x =
    let r1 = and_parts _ _ r in
    let r2 = and_parts _ _ r1.0 in
    let r3 = and_parts _ _ r2.0 in
    let r4 = and_parts _ _ r3.0 in
    let r5 = and_parts _ _ r4.0 in
    let k1 = and_parts _ _ k in
    let k2 = and_parts _ _ k1.1 in
    let k3 = and_parts _ _ k2.1 in
    let k4 = and_parts _ _ k3.1 in
    let k5 = and_parts _ _ k4.1 in
    let k6 = and_parts _ _ k5.1 in
    let k7 = and_parts _ _ k6.1 in
    let k8 = and_parts _ _ k7.1 in
    values_told (form ∷ []) (a ∷ kind_slot l ∷ c ∷ d ∷ g ∷ h ∷ i ∷ amount_slot m ∷ []) (z1 ∷ z2 ∷ z3 ∷ z4 ∷ z5 ∷ z6 ∷ z7 ∷ z8 ∷ []) f s refl (
      told a _ z1 f s r5.0 k1.0 x.0,
      (
        kind_told l m (form ∷ z1 ∷ []) (form ∷ z1 ∷ z2 ∷ z3 ∷ z4 ∷ z5 ∷ z6 ∷ z7 ∷ []) z2 z8 f s refl k2.0 k8.0 x.1.1.1.1.1.1.1.0,
        (
          told c _ z3 f s r5.1 k3.0 x.1.1.0,
          (
            told d _ z4 f s r4.1 k4.0 x.1.1.1.0,
            (
              told g _ z5 f s r3.1 k5.0 x.1.1.1.1.0,
              (
                told h _ z6 f s r2.1 k6.0 x.1.1.1.1.1.0,
                (
                  told i _ z7 f s r1.1 k7.0 x.1.1.1.1.1.1.0,
                  (told (amount_slot m) (form ∷ z1 ∷ z2 ∷ z3 ∷ z4 ∷ z5 ∷ z6 ∷ z7 ∷ []) z8 f s refl k8.0 x.1.1.1.1.1.1.1.0, tt),
                ),
              ),
            ),
          ),
        ),
      ),
    )

pub shifted_told : (form : ℤ) (a c d g h i : CodeSlot) (l m : Limit) (zs : List ℤ) (f s : ℕ) → (tells a.coding && tells c.coding && tells d.coding && tells g.coding && tells h.coding && tells i.coding) ≡ true → 8 ≡ length zs → take_all (form ∷ []) (a ∷ kind_slot l ∷ c ∷ d ∷ g ∷ h ∷ i ∷ amount_slot m ∷ []) zs ≡ true → Holds (form ∷ []) (a ∷ kind_slot l ∷ c ∷ d ∷ g ∷ h ∷ i ∷ amount_slot m ∷ []) zs f s → values_in (form ∷ []) (a ∷ kind_slot l ∷ c ∷ d ∷ g ∷ h ∷ i ∷ amount_slot m ∷ []) f s ≡ zs
shifted_told form a c d g h i l m zs f s r n =
    let v = eight zs n in
    subst (λ vs. take_all (form ∷ []) (a ∷ kind_slot l ∷ c ∷ d ∷ g ∷ h ∷ i ∷ amount_slot m ∷ []) vs ≡ true → Holds (form ∷ []) (a ∷ kind_slot l ∷ c ∷ d ∷ g ∷ h ∷ i ∷ amount_slot m ∷ []) vs f s → values_in (form ∷ []) (a ∷ kind_slot l ∷ c ∷ d ∷ g ∷ h ∷ i ∷ amount_slot m ∷ []) f s ≡ vs) (sym v.are)
    (λ k x. shifted_eight form a c d g h i l m v.z1 v.z2 v.z3 v.z4 v.z5 v.z6 v.z7 v.z8 f s r k x)
