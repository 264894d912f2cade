-- Limits of a row and of its slots, which are the same tests in another order.
use Rattle.std.proofs.Common.{◌≡◌, ℕ, ◌+◌, ◌-◌, ◌/◌, ◌%◌, ◌<◌, Bool, true, false, not, ◌&&◌, ◌||◌, refl, sym, ◌∙◌, ap, inl, inr, arith}
use Rattle.std.specs.Prelude.{◌==◌, nat_lt, nat_le, if◌then◌else◌}
use Rattle.std.proofs.lemmas.Bool.{cases_Bool, and_left, and_right, eq-eqb, eqb-true, ne_eqb, eqb-false, leb-true, leb-false, agree_below_at}
use Rattle.tz_bits.specs.Values.{bool_number}
use Rattle.tz_table.specs.Fields.{bits}
use Rattle.tz_encode.proofs.Tautologies.{always_2}
use Rattle.tz_table.specs.Limits.{plain, not_pc, can_store_exclusive}

pub one : (a : Bool) → a ≡ (a && true)
one true = refl
one false = refl

pub two : (a b : Bool) → (a && b) ≡ (a && (b && true))
two true b = one b
two false b = refl

pub three : (a b c : Bool) → (a && b && c) ≡ (a && (b && (c && true)))
three true b c = two b c
three false b c = refl

pub four : (a b c d : Bool) → (a && b && c && d) ≡ (a && (b && (c && (d && true))))
four true b c d = three b c d
four false b c d = refl

-- ---- rows of 16 bits

pub compare_high : (a b c : Bool) → (a && b && c) ≡ (b && ((a && b && c) && true))
compare_high true true c = one c
compare_high true false c = refl
compare_high false true c = refl
compare_high false false c = refl

pub load_list : (a l : Bool) → a ≡ ((a && (if (bool_number (not l) == 1) then not l else l)) && true)
load_list true true = refl
load_list true false = refl
load_list false l = refl

pub same_zero : (m n : ℕ) → (m ≡ 0 → n ≡ 0) → (n ≡ 0 → m ≡ 0) → not (m == 0) ≡ (not (n == 0) && true)
same_zero m n h k =
    elim (cases_Bool (m == 0)) [
      | inl x ↦ ap not (x ∙ sym (eq-eqb n 0 (h (eqb-true m 0 x)))) ∙ one (not (n == 0))
      | inr x ↦ ap not (x ∙ sym (ne_eqb n 0 (λ e. eqb-false m 0 x (k e)))) ∙ one (not (n == 0))
    ]

pub change_state : (f : ℕ) → not (bits f 0 2 == 0) ≡ ((bits f 0 1 == 1 || bits f 1 1 == 1) && true)
change_state f =
    let low : bits f 0 2 % 2 ≡ bits f 0 1 = omega arith in
    let high : bits f 0 2 / 2 ≡ bits f 1 1 = omega arith in
    agree_below_at (λ n. not (n == 0)) (λ n. (n % 2 == 1 || n / 2 == 1) && true) 4 (bits f 0 2) refl (omega arith)
    ∙ ap (λ n. (n == 1 || bits f 0 2 / 2 == 1) && true) low
    ∙ ap (λ n. (bits f 0 1 == 1 || n == 1) && true) high

pub conditions : (n : ℕ) → n < 16 → (if (n == 14 || n == 15) then false else true) ≡ (nat_lt n 14 && true)
conditions n h = agree_below_at (λ n. if (n == 14 || n == 15) then false else true) (λ n. nat_lt n 14 && true) 16 n refl h

pub it_conditions : (n : ℕ) → n < 16 → not (n == 15) ≡ nat_lt n 15
it_conditions n h = agree_below_at (λ n. not (n == 15)) (λ n. nat_lt n 15) 16 n refl h

pub it_mask : (a b c : Bool) → (if a then false else (b && c)) ≡ (b && ((not a && c) && true))
it_mask true true c = refl
it_mask true false c = refl
it_mask false true c = one c
it_mask false false c = refl

-- ---- rows of several registers

pub move_many : (a b c d : Bool) → (a && b && c && d) ≡ (a && ((b && c && d) && true))
move_many true b c d = one (b && c && d)
move_many false b c d = refl

pub eqb_swap : (m n : ℕ) → (m == n) ≡ (n == m)
eqb_swap m n =
    elim (cases_Bool (m == n)) [
      | inl x ↦ x ∙ sym (eq-eqb n m (sym (eqb-true m n x)))
      | inr x ↦ x ∙ sym (ne_eqb n m (λ e. eqb-false m n x (sym e)))
    ]

-- a value that belongs to another row is refused by the limits anyway
pub redundant : (a x : Bool) → (a ≡ true → x ≡ false) → (if a then false else x) ≡ x
redundant true x h = sym (h refl)
redundant false x h = refl

store_exclusive_tests : (a b c d e : Bool) → (a && b && c && d && e) ≡ (a && ((b && e) && ((c && d) && true)))
store_exclusive_tests false b c d e = refl
store_exclusive_tests true false c d e = refl
store_exclusive_tests true true c d false = and_right (c && d) false refl
store_exclusive_tests true true c d true = refl

pub store_exclusive : (rd rt rn : ℕ) → can_store_exclusive rd rt rn ≡ (plain rd && ((plain rt && not (rt == rd)) && ((not_pc rn && not (rn == rd)) && true)))
store_exclusive rd rt rn =
    store_exclusive_tests (plain rd) (plain rt) (not_pc rn) (not (rd == rn)) (not (rd == rt))
    ∙ ap (λ b. plain rd && ((plain rt && not b) && ((not_pc rn && not (rd == rn)) && true))) (eqb_swap rd rt)
    ∙ ap (λ b. plain rd && ((plain rt && not (rt == rd)) && ((not_pc rn && not b) && true))) (eqb_swap rd rn)

pub pc_not_plain : (r : ℕ) → (r == 15) ≡ true → plain r ≡ false
pc_not_plain r h = and_right (not (r == 13)) (not (r == 15)) (ap not h)

pub pc_store_exclusive : (rd rt rn : ℕ) → (rt == 15) ≡ true → can_store_exclusive rd rt rn ≡ false
pc_store_exclusive rd rt rn h = and_left _ (not (rd == rt)) (and_left _ (not (rd == rn)) (and_left _ (not_pc rn) (and_right (plain rd) (plain rt) (pc_not_plain rt h))))

-- ---- data instructions of 32 bits

pub base_first : (a b : Bool) → (a && b) ≡ (b && (a && true))
base_first a b = always_2 (λ a b. a && b) (λ a b. b && (a && true)) refl a b

-- a first or second register that is PC
pub pc_first : (a b : ℕ) (x : Bool) → (a == 15) ≡ true → (plain a && plain b && x) ≡ false
pc_first a b x h = and_left _ x (and_left (plain a) (plain b) (pc_not_plain a h))

pub pc_second : (a b : ℕ) (x : Bool) → (b == 15) ≡ true → (plain a && plain b && x) ≡ false
pc_second a b x h = and_left _ x (and_right (plain a) (plain b) (pc_not_plain b h))

-- a field of at least one bit
pub not_below : (low high : ℕ) → nat_le low high ≡ not (high + 1 - low == 0)
not_below low high =
    elim (cases_Bool (nat_le low high)) [
      | inl x ↦ x ∙ ap not (sym (ne_eqb (high + 1 - low) 0 (λ e. absurd (omega (arith, leb-true low high x)))))
      | inr x ↦ x ∙ ap not (sym (eq-eqb (high + 1 - low) 0 (omega (arith, leb-false low high x))))
    ]
