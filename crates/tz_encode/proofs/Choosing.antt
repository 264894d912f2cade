-- Values that a slot takes beside those before it.
use Rattle.std.proofs.Common.{◌≡◌, ℕ, ◌+◌, ◌*◌, ◌/◌, ◌%◌, ◌^◌, ◌<◌, Bool, true, false, not, ◌&&◌, ◌||◌, List, refl, sym, ◌∙◌, ap, subst, inl, inr}
use Rattle.std.specs.Prelude.{pos, ◌==◌, nat_le, count_ones, if◌then◌else◌}
use Rattle.std.specs.Ordering.{int_eq}
use Rattle.std.proofs.lemmas.Bool.{cases_Bool, agree_below, agree_below_at, cond-false, eqb-true, eqb-false, ne_eqb, and_parts, and_from, and_right, not-true}
use Rattle.tz_table.specs.Fields.{bits}
use Rattle.tz_table.specs.Limits.{not_pc, is_listed}
use Rattle.tz_encode.specs.Slots.{held_by}
use Rattle.tz_encode.specs.Numbers.{amount_number}
use Rattle.tz_table.specs.Terms.{imm_amount_of}
use Rattle.tz_encode.specs.declared.slot.Part.{Part}

-- 0 breaks a limit that asks for more than one thing at once
pub not_with_false : (a : Bool) → not (a && false) ≡ true
not_with_false true = refl
not_with_false false = refl

-- two numbers below 16 pass a test that computes
abbrev pub all_pairs : (ℕ → ℕ → Bool) → Bool
all_pairs p = agree_below (λ a. agree_below (λ b. p a b) (λ b. true) 16) (λ a. true) 16

pub pair_passes : (p : ℕ → ℕ → Bool) (a b : ℕ) → all_pairs p ≡ true → a < 16 → b < 16 → p a b ≡ true
pair_passes p a b h k l = agree_below_at (λ b. p a b) (λ b. true) 16 b (agree_below_at (λ a. agree_below (λ b. p a b) (λ b. true) 16) (λ a. true) 16 a h k) l

-- ---- registers

-- a register with these bits
abbrev pub is_register : ℕ → Bool
is_register n = (bits n 0 4 * 2 ^ 0 + 0 == n) && int_eq (pos n) (pos n)

-- one that isn't m
abbrev pub other : ℕ → ℕ
other m = if m == 0 then 1 else 0

pub other_passes : (l : ℕ → Bool) (m : ℕ) → l 0 ≡ true → l 1 ≡ true → (is_register (other m) && (l (other m) && not (other m == m))) ≡ true
other_passes l m h k =
    elim (cases_Bool (m == 0)) [
      | inl x ↦
          let zero : 0 ≡ m = sym (eqb-true m 0 x) in
          subst (λ m. (is_register (other m) && (l (other m) && not (other m == m))) ≡ true) zero (ap (λ b. b && true) k)
      | inr x ↦
          ap (λ n. is_register n && (l n && not (n == m))) (cond-false (m == 0) 1 0 x)
          ∙ ap (λ b. b && not (0 == m)) h
          ∙ ap not (ne_eqb 0 m (λ e. eqb-false m 0 x (sym e)))
    ]

-- one that is neither a nor b
abbrev pub third : ℕ → ℕ → ℕ
third a b = if (a == 0 || b == 0) then (if (a == 1 || b == 1) then 2 else 1) else 0

abbrev pub third_passes : ℕ → ℕ → Bool
third_passes a b = is_register (third a b) && not_pc (third a b) && not (third a b == a || third a b == b)

pub third_taken : (a b : ℕ) (back : Bool) → a < 16 → b < 16 → (is_register (third a b) && (not_pc (third a b) && not (back && (third a b == a || third a b == b)))) ≡ true
third_taken a b back h k =
    let x = and_parts (is_register (third a b) && not_pc (third a b)) (not (third a b == a || third a b == b)) (pair_passes third_passes a b refl h k) in
    let y = and_parts (is_register (third a b)) (not_pc (third a b)) x.0 in
    and_from _ _ y.0 (and_from _ _ y.1 (ap not (and_right back _ (not-true _ x.1))))

-- ---- lists of registers

-- two registers without m
abbrev pub two_without : ℕ → ℕ
two_without m = if m == 0 then 6 else (if m == 1 then 5 else 3)

abbrev pub many_passes : List Part → Bool → ℕ → Bool
many_passes ps back m = let n = two_without m in (held_by ps n == n) && int_eq (pos n) (pos n) && (nat_le 2 (count_ones n) && not (is_listed n 14 && is_listed n 15) && not (back && is_listed n m))

pub many_taken : (ps : List Part) (back : Bool) (m : ℕ) → agree_below (many_passes ps true) (λ m. true) 16 ≡ true → agree_below (many_passes ps false) (λ m. true) 16 ≡ true → m < 16 → many_passes ps back m ≡ true
many_taken ps true m h k l = agree_below_at (many_passes ps true) (λ m. true) 16 m h l
many_taken ps false m h k l = agree_below_at (many_passes ps false) (λ m. true) 16 m k l

-- ---- amounts of shifts

-- 1 is an amount of each kind of shift
abbrev pub amount_passes : List Part → ℕ → Bool
amount_passes ps kind = let n = amount_number kind 1 in (held_by ps n == n) && int_eq (pos (imm_amount_of (n / 32) (n % 32))) (pos 1)

pub amount_taken : (ps : List Part) (kind : ℕ) (limit : Bool) → agree_below (amount_passes ps) (λ k. true) 5 ≡ true → kind < 5 → limit ≡ true → (amount_passes ps kind && limit) ≡ true
amount_taken ps kind limit h k l = and_from _ _ (agree_below_at (amount_passes ps) (λ k. true) 5 kind h k) l
