-- The number that stands for the value of a number is that number.
use Rattle.std.proofs.Common.{◌≡◌, ℕ, zero, suc, ◌+◌, ◌-◌, ◌*◌, ◌/◌, ◌%◌, ◌<◌, ◌≤◌, ◌^◌, Bool, true, false, List, refl, ◌∙◌, ap, arith, inl, inr, pow_mono}
use Rattle.std.specs.Prelude.{ℤ, pos, neg_ℤ, nat_abs, int_lt, ◌==◌, nat_lt, nat_le, not, if◌then◌else◌}
use Rattle.std.specs.Ordering.{int_eq}
use Rattle.std.proofs.lemmas.Bool.{and_from, cond-true, cond-false, cases_Bool, eqb-true, eqb-false, leb-true}
use Rattle.std.proofs.lemmas.Bool.Decides.{Decides-int_eq, nat_tests}
use Rattle.tz_table.specs.Fields.{bits}
use Rattle.tz_table.specs.Terms.{signed_by, plus_or_minus, imm_shift_of, imm5_of}
use Rattle.tz_table.specs.Limits.{is_listed}
use Rattle.tz_table.specs.declared.units.Shift.{Shift}
use Rattle.tz_table.specs.declared.units.Shift.TheVariants as shifts
use Rattle.tz_bits.specs.Values.{bool_number, shift_number}
use Rattle.tz_encode.specs.Limits.{entry}
use Rattle.tz_encode.specs.Numbers.{unsigned_by, far, number_for, value_at, stands_for}
use Rattle.tz_encode.specs.declared.coding.Coding.{Coding}
use Rattle.tz_encode.specs.declared.coding.Coding.TheVariants.{Is, Same, Natural, Above, Minus, Signed, Sign, Far, Right, Kind, Amount, UpTo, Unlisted, Again}

pub int_eq-self : (z : ℤ) → int_eq z z ≡ true
int_eq-self z = (Decides-int_eq z z).1 refl

pub int_eq-true : (x y : ℤ) → int_eq x y ≡ true → x ≡ y
int_eq-true x y h = (Decides-int_eq x y).0 h

abs_minus : (n : ℕ) → nat_abs (neg_ℤ (pos n)) ≡ n
abs_minus zero = refl
abs_minus (suc n) = refl

never_below : (n : ℕ) → int_lt (pos n) (pos 0) ≡ false
never_below n = grind (arith, nat_tests)

unsigned_minus : (half m : ℕ) → 0 < m → unsigned_by half (neg_ℤ (pos m)) ≡ 2 * half - m
unsigned_minus half zero h = absurd (omega arith)
unsigned_minus half (suc m) h = refl

signed_back : (half n : ℕ) → n < 2 * half → unsigned_by half (signed_by half n) ≡ n
signed_back half n h =
    elim (cases_Bool (nat_lt n half)) [
      | inl a ↦ ap (unsigned_by half) (cond-true (nat_lt n half) (pos n) (neg_ℤ (pos (2 * half - n))) a) ∙ cond-false (int_lt (pos n) (pos 0)) (2 * half - n) n (never_below n)
      | inr a ↦
          let above : half ≤ n = grind (arith, nat_tests) in
          ap (unsigned_by half) (cond-false (nat_lt n half) (pos n) (neg_ℤ (pos (2 * half - n))) a)
          ∙ unsigned_minus half (2 * half - n) (omega arith) ∙ omega arith
    ]

-- bits 24, 23 and 22 of a number by themselves
four : (a b c r : ℕ) → a < 2 → b < 2 → c < 2 → r < 2 ^ 22 → let x = a * 2 ^ 24 + b * 2 ^ 23 + c * 2 ^ 22 + r in (bits x 24 1 ≡ a) × (bits x 23 1 ≡ b) × (bits x 22 1 ≡ c) × (x % 2 ^ 22 ≡ r) × (x < 2 ^ 25)
four a b c r ha hb hc hr = (omega arith, omega arith, omega arith, omega arith, omega arith)

flipped_twice : (j s : ℕ) → j < 2 → s < 2 → 1 - (1 - (j + s) % 2 + s) % 2 ≡ j
flipped_twice j s h k = omega arith

far_is : (n : ℕ) → n < 2 ^ 25 → bits n 24 1 * 2 ^ 24 + bits n 23 1 * 2 ^ 23 + bits n 22 1 * 2 ^ 22 + n % 2 ^ 22 ≡ n
far_is n h = omega arith

far_parts : (n : ℕ) → let s = bits n 24 1 in let x = far n in (bits x 24 1 ≡ s) × (bits x 23 1 ≡ 1 - (bits n 23 1 + s) % 2) × (bits x 22 1 ≡ 1 - (bits n 22 1 + s) % 2) × (x % 2 ^ 22 ≡ n % 2 ^ 22) × (x < 2 ^ 25)
far_parts n = four (bits n 24 1) (1 - (bits n 23 1 + bits n 24 1) % 2) (1 - (bits n 22 1 + bits n 24 1) % 2) (n % 2 ^ 22) (omega arith) (omega arith) (omega arith) (omega arith)

-- what S:J:K:rest stands for
unfoldable pub far_of_parts : (s j k r : ℕ) → ℕ
far_of_parts s j k r = s * 2 ^ 24 + (1 - (j + s) % 2) * 2 ^ 23 + (1 - (k + s) % 2) * 2 ^ 22 + r

pub far_back : (n : ℕ) → n < 2 ^ 25 → far (far n) ≡ n
unfolding far_of_parts
far_back n h =
    let p = far_parts n in
    let s : bits n 24 1 < 2 = omega arith in
    let j : bits n 23 1 < 2 = omega arith in
    let k : bits n 22 1 < 2 = omega arith in
    ap (λ x. far_of_parts x (bits (far n) 23 1) (bits (far n) 22 1) (far n % 2 ^ 22)) p.0
    ∙ ap (λ x. far_of_parts (bits n 24 1) x (bits (far n) 22 1) (far n % 2 ^ 22)) p.1
    ∙ ap (λ x. far_of_parts (bits n 24 1) (1 - (bits n 23 1 + bits n 24 1) % 2) x (far n % 2 ^ 22)) p.2
    ∙ ap (λ x. far_of_parts (bits n 24 1) (1 - (bits n 23 1 + bits n 24 1) % 2) (1 - (bits n 22 1 + bits n 24 1) % 2) x) p.3
    ∙ ap (λ x. bits n 24 1 * 2 ^ 24 + x * 2 ^ 23 + (1 - (1 - (bits n 22 1 + bits n 24 1) % 2 + bits n 24 1) % 2) * 2 ^ 22 + n % 2 ^ 22) (flipped_twice (bits n 23 1) (bits n 24 1) j s)
    ∙ ap (λ x. bits n 24 1 * 2 ^ 24 + bits n 23 1 * 2 ^ 23 + x * 2 ^ 22 + n % 2 ^ 22) (flipped_twice (bits n 22 1) (bits n 24 1) k s)
    ∙ far_is n h

far_below : (n : ℕ) → far n < 2 ^ 25
far_below n = (far_parts n).4

right_back : (n : ℕ) → n < 2 ^ 5 → nat_abs (pos (if n == 0 then 32 else n)) % 32 ≡ n
right_back n h = grind (arith, nat_tests)

shift_below : (x : Shift) → nat_lt (shift_number x) 5 ≡ true
shift_below shifts.Lsl = refl
shift_below shifts.Lsr = refl
shift_below shifts.Asr = refl
shift_below shifts.Ror = refl
shift_below shifts.Rrx = refl

bool_below : (b : Bool) → nat_lt (bool_number b) 2 ≡ true
bool_below true = refl
bool_below false = refl

-- the number that stands for the value of n is n, and it does; or it is 0, and 0 does
pub data Back (c : Coding) (e : List ℤ) (n f s : ℕ) : Type 0 where
  same : number_for c e (value_at c e n f s) ≡ n → stands_for c e n (value_at c e n f s) ≡ true → Back c e n f s
  none : number_for c e (value_at c e n f s) ≡ 0 → stands_for c e 0 (value_at c e n f s) ≡ true → Back c e n f s

-- so it is for numbers of so many bits
abbrev pub comes_back : Coding → ℕ → Bool
comes_back (Is c) top = true
comes_back (Same j) top = true
comes_back Natural top = true
comes_back (Above m) top = true
comes_back Minus top = true
comes_back (Signed half) top = nat_le (2 ^ top) (2 * half)
comes_back Sign top = nat_le top 13
comes_back Far top = nat_le top 25
comes_back Right top = nat_le top 5
comes_back Kind top = true
comes_back Amount top = false
comes_back UpTo top = false
comes_back Unlisted top = true
comes_back Again top = false

below_power : (n top k : ℕ) → n < 2 ^ top → top ≤ k → n < 2 ^ k
below_power n top k lt h = let more = pow_mono h in omega arith

-- plus a number, and minus it
plus_number : (e : List ℤ) (m : ℕ) → 0 < m → number_for Sign e (pos m) ≡ 4096 + m
plus_number e m h = cond-true (int_lt (pos 0) (pos m)) (4096 + m) m (grind (arith, nat_tests))

minus_number : (e : List ℤ) (m : ℕ) → number_for Sign e (neg_ℤ (pos m)) ≡ m
minus_number e zero = refl
minus_number e (suc m) = refl

positive : (n : ℕ) → (n ≡ 0 → ⊥) → 0 < n
positive n h = omega arith

lower : (n : ℕ) → n < 2 ^ 13 → (n / 4096 ≡ 1 → ⊥) → n % 4096 ≡ n
lower n lt h = omega arith

sign_back : (e : List ℤ) (n f s : ℕ) → n < 2 ^ 13 → Back Sign e n f s
sign_back e n f s h =
    elim (cases_Bool (n / 4096 == 1)) [
      | inl a ↦
          let one : n / 4096 ≡ 1 = eqb-true _ _ a in
          let plus : plus_or_minus (n / 4096) (n % 4096) ≡ pos (n % 4096) = cond-true (n / 4096 == 1) (pos (n % 4096)) (neg_ℤ (pos (n % 4096))) a in
          elim (cases_Bool (n % 4096 == 0)) [
            | inl b ↦
                let zeros : plus_or_minus (n / 4096) (n % 4096) ≡ pos 0 = plus ∙ ap pos (eqb-true _ _ b) in
                none (ap (number_for Sign e) zeros) (ap (stands_for Sign e 0) zeros)
            | inr b ↦
                let some : 0 < n % 4096 = positive (n % 4096) (eqb-false _ _ b) in
                same (ap (number_for Sign e) plus ∙ plus_number e (n % 4096) some ∙ omega arith) (int_eq-self (plus_or_minus (n / 4096) (n % 4096)))
          ]
      | inr a ↦
          let minus : plus_or_minus (n / 4096) (n % 4096) ≡ neg_ℤ (pos (n % 4096)) = cond-false (n / 4096 == 1) (pos (n % 4096)) (neg_ℤ (pos (n % 4096))) a in
          let low : n % 4096 ≡ n = lower n h (eqb-false _ _ a) in
          same (ap (number_for Sign e) minus ∙ minus_number e (n % 4096) ∙ low) (int_eq-self (plus_or_minus (n / 4096) (n % 4096)))
    ]

pub back_by : (c : Coding) (e : List ℤ) (n f s top : ℕ) → comes_back c top ≡ true → n < 2 ^ top → Back c e n f s
back_by (Is c) e n f s top h lt = none refl (int_eq-self c)
back_by (Same j) e n f s top h lt = none refl (int_eq-self (entry e j))
back_by Natural e n f s top h lt = same refl (int_eq-self (pos n))
back_by (Above m) e n f s top h lt = same (omega arith) (int_eq-self (pos (n + m)))
back_by Minus e n f s top h lt = same (abs_minus n) (int_eq-self (neg_ℤ (pos n)))
back_by (Signed half) e n f s top h lt = let below : 2 ^ top ≤ 2 * half = leb-true _ _ h in same (signed_back half n (omega arith)) (int_eq-self (signed_by half n))
back_by Sign e n f s top h lt = sign_back e n f s (below_power n top 13 lt (leb-true _ _ h))
back_by Far e n f s top h lt = same (ap far (signed_back 16777216 (far n) (far_below n)) ∙ far_back n (below_power n top 25 lt (leb-true _ _ h))) (int_eq-self (signed_by 16777216 (far n)))
back_by Right e n f s top h lt = same (right_back n (below_power n top 5 lt (leb-true _ _ h))) (int_eq-self (pos (if n == 0 then 32 else n)))
back_by Kind e n f s top h lt = none refl (and_from _ _ (shift_below (imm_shift_of (bits s 4 2) (imm5_of s))) (int_eq-self (value_at Kind e n f s)))
back_by Amount e n f s top h lt = cc
back_by UpTo e n f s top h lt = cc
back_by Unlisted e n f s top h lt = none refl (and_from _ _ (bool_below (not (is_listed (bits f 0 8) (bits f 8 3)))) (int_eq-self (value_at Unlisted e n f s)))
back_by Again e n f s top h lt = cc

-- ---- the value of a number that stands for z

-- so it is for all codings but those of which a later place tells
abbrev pub tells : Coding → Bool
tells (Is c) = true
tells (Same j) = true
tells Natural = true
tells (Above m) = true
tells Minus = true
tells (Signed half) = true
tells Sign = true
tells Far = true
tells Right = true
tells Kind = false
tells Amount = true
tells UpTo = true
tells Unlisted = false
tells Again = true

pub told_by : (c : Coding) (e : List ℤ) (n : ℕ) (z : ℤ) (f s : ℕ) → tells c ≡ true → stands_for c e n z ≡ true → value_at c e n f s ≡ z
told_by (Is c) e n z f s t h = int_eq-true _ _ h
told_by (Same j) e n z f s t h = int_eq-true _ _ h
told_by Natural e n z f s t h = int_eq-true _ _ h
told_by (Above m) e n z f s t h = int_eq-true _ _ h
told_by Minus e n z f s t h = int_eq-true _ _ h
told_by (Signed half) e n z f s t h = int_eq-true _ _ h
told_by Sign e n z f s t h = int_eq-true _ _ h
told_by Far e n z f s t h = int_eq-true _ _ h
told_by Right e n z f s t h = int_eq-true _ _ h
told_by Kind e n z f s t h = cc
told_by Amount e n z f s t h = int_eq-true _ _ h
told_by UpTo e n z f s t h = int_eq-true _ _ h
told_by Unlisted e n z f s t h = cc
told_by Again e n z f s t h = int_eq-true _ _ h
