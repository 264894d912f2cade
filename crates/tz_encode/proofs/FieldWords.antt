-- Numbers of fields that are words, and the bits that hold them.
use Rattle.std.proofs.Common.{◌≡◌, ℕ, zero, suc, ◌+◌, ◌*◌, ◌/◌, ◌%◌, ◌<◌, List, ◌∷◌, true, false, refl, sym, ◌∙◌, ap, inl, inr, arith}
use Rattle.std.specs.Prelude.{ℤ, pos, ◌==◌, if◌then◌else◌}
use Rattle.std.proofs.lemmas.Bool.{cases_Bool, cond-true, cond-false, eqb-true}
use Rattle.tz_table.specs.declared.units.Shift.TheVariants as shifts
use Rattle.tz_bits.specs.Values.{bool_number, flags_number, shift_number, size_number}
use Rattle.tz_table.specs.Fields.{bits}
use Rattle.tz_table.specs.Terms.{is_one, flags_of, shift_of, size_of, plus_or_minus, imm5_of, imm_shift_of, imm_amount_of}

bit_word : (n : ℕ) → n < 2 → bool_number (is_one n) ≡ n
bit_word zero h = refl
bit_word (suc zero) h = refl
bit_word (suc (suc n)) h = absurd (omega arith)

pub bool_word : (n k : ℕ) → bool_number (is_one (bits n k 1)) ≡ bits n k 1
bool_word n k = bit_word (bits n k 1) (omega arith)

flag_word : (n : ℕ) → n < 2 → flags_number (flags_of n) ≡ n
flag_word zero h = refl
flag_word (suc zero) h = refl
flag_word (suc (suc n)) h = absurd (omega arith)

pub flags_word : (n k : ℕ) → flags_number (flags_of (bits n k 1)) ≡ bits n k 1
flags_word n k = flag_word (bits n k 1) (omega arith)

kind_word : (n : ℕ) → n < 4 → shift_number (shift_of n) ≡ n
kind_word zero h = refl
kind_word (suc zero) h = refl
kind_word (suc (suc zero)) h = refl
kind_word (suc (suc (suc zero))) h = refl
kind_word (suc (suc (suc (suc n)))) h = absurd (omega arith)

pub shift_word : (n k : ℕ) → shift_number (shift_of (bits n k 2)) ≡ bits n k 2
shift_word n k = kind_word (bits n k 2) (omega arith)

pub size_word : (n : ℕ) → n < 3 → size_number (size_of n) ≡ n
size_word zero h = refl
size_word (suc zero) h = refl
size_word (suc (suc zero)) h = refl
size_word (suc (suc (suc n))) h = absurd (omega arith)

-- ---- a value among others

pub at_1 : {a : ℤ} {m n : ℕ} {zs : List ℤ} → m ≡ n → a ∷ pos m ∷ zs ≡ a ∷ pos n ∷ zs
at_1 {a} {m} {n} {zs} e = ap (λ k. a ∷ pos k ∷ zs) e

pub at_2 : {a b : ℤ} {m n : ℕ} {zs : List ℤ} → m ≡ n → a ∷ b ∷ pos m ∷ zs ≡ a ∷ b ∷ pos n ∷ zs
at_2 {a} {b} {m} {n} {zs} e = ap (λ k. a ∷ b ∷ pos k ∷ zs) e

pub at_3 : {a b c : ℤ} {m n : ℕ} {zs : List ℤ} → m ≡ n → a ∷ b ∷ c ∷ pos m ∷ zs ≡ a ∷ b ∷ c ∷ pos n ∷ zs
at_3 {a} {b} {c} {m} {n} {zs} e = ap (λ k. a ∷ b ∷ c ∷ pos k ∷ zs) e

-- three single bits
pub bits_123 : {a : ℤ} {x y z l m n : ℕ} {zs : List ℤ} → x ≡ l → y ≡ m → z ≡ n → a ∷ pos x ∷ pos y ∷ pos z ∷ zs ≡ a ∷ pos l ∷ pos m ∷ pos n ∷ zs
bits_123 {a} {x} {y} {z} {l} {m} {n} {zs} p q r = at_1 p ∙ at_2 q ∙ at_3 r

pub at_6 : {a b c d g h : ℤ} {m n : ℕ} {zs : List ℤ} → m ≡ n → a ∷ b ∷ c ∷ d ∷ g ∷ h ∷ pos m ∷ zs ≡ a ∷ b ∷ c ∷ d ∷ g ∷ h ∷ pos n ∷ zs
at_6 {a} {b} {c} {d} {g} {h} {m} {n} {zs} e = ap (λ k. a ∷ b ∷ c ∷ d ∷ g ∷ h ∷ pos k ∷ zs) e

-- an offset
pub at_5 : {a b c d g : ℤ} {m n : ℤ} {zs : List ℤ} → m ≡ n → a ∷ b ∷ c ∷ d ∷ g ∷ m ∷ zs ≡ a ∷ b ∷ c ∷ d ∷ g ∷ n ∷ zs
at_5 {a} {b} {c} {d} {g} {m} {n} {zs} e = ap (λ k. a ∷ b ∷ c ∷ d ∷ g ∷ k ∷ zs) e

pub at_7 : {a b c d g h i : ℤ} {m n : ℤ} {zs : List ℤ} → m ≡ n → a ∷ b ∷ c ∷ d ∷ g ∷ h ∷ i ∷ m ∷ zs ≡ a ∷ b ∷ c ∷ d ∷ g ∷ h ∷ i ∷ n ∷ zs
at_7 {a} {b} {c} {d} {g} {h} {i} {m} {n} {zs} e = ap (λ k. a ∷ b ∷ c ∷ d ∷ g ∷ h ∷ i ∷ k ∷ zs) e

pub at_8 : {a b c d g h i j : ℤ} {m n : ℤ} {zs : List ℤ} → m ≡ n → a ∷ b ∷ c ∷ d ∷ g ∷ h ∷ i ∷ j ∷ m ∷ zs ≡ a ∷ b ∷ c ∷ d ∷ g ∷ h ∷ i ∷ j ∷ n ∷ zs
at_8 {a} {b} {c} {d} {g} {h} {i} {j} {m} {n} {zs} e = ap (λ k. a ∷ b ∷ c ∷ d ∷ g ∷ h ∷ i ∷ j ∷ k ∷ zs) e

-- ---- offsets with a sign

-- a bit for the sign above a number
pub sign_word : (u n : ℕ) → n < 4096 → plus_or_minus u n ≡ plus_or_minus ((u * 4096 + n) / 4096) ((u * 4096 + n) % 4096)
sign_word u n h =
    let high : u ≡ (u * 4096 + n) / 4096 = omega arith in
    let low : n ≡ (u * 4096 + n) % 4096 = omega arith in
    ap (λ k. plus_or_minus k n) high ∙ ap (plus_or_minus ((u * 4096 + n) / 4096)) low

-- ---- shifts by a constant

-- kind and amount gathered as one number
pub amount_word : (s : ℕ) → imm_amount_of (bits s 4 2) (imm5_of s) ≡ imm_amount_of ((bits s 4 2 * 32 + bits s 12 3 * 4 + bits s 6 2) / 32) ((bits s 4 2 * 32 + bits s 12 3 * 4 + bits s 6 2) % 32)
amount_word s =
    let high : bits s 4 2 ≡ (bits s 4 2 * 32 + bits s 12 3 * 4 + bits s 6 2) / 32 = omega arith in
    let low : imm5_of s ≡ (bits s 4 2 * 32 + bits s 12 3 * 4 + bits s 6 2) % 32 = omega arith in
    ap (λ k. imm_amount_of k (imm5_of s)) high ∙ ap (imm_amount_of ((bits s 4 2 * 32 + bits s 12 3 * 4 + bits s 6 2) / 32)) low

-- only LSL has the number 0
pub shift_zero : (k n : ℕ) → k < 4 → (shift_number (imm_shift_of k n) == 0) ≡ (k == 0)
shift_zero zero n h = refl
shift_zero (suc zero) n h = refl
shift_zero (suc (suc zero)) n h = refl
shift_zero (suc (suc (suc zero))) n h =
    elim (n == 0) as (λ b. (shift_number (if b then shifts.Rrx else shifts.Ror) == 0) ≡ false) [ true ↦ refl | false ↦ refl ]
shift_zero (suc (suc (suc (suc k)))) n h = absurd (omega arith)

-- and its amount is the number
pub amount_left : (k n : ℕ) → (k == 0) ≡ true → imm_amount_of k n ≡ n
amount_left k n h =
    ap (λ k. imm_amount_of k n) (eqb-true k 0 h)
    ∙ elim (cases_Bool (n == 0)) [
      | inl x ↦ cond-true (n == 0) 0 n x ∙ sym (eqb-true n 0 x)
      | inr x ↦ cond-false (n == 0) 0 n x
    ]
