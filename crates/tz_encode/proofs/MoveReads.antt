-- The row of 32 bits of moves between registers, of which SP may be one.
use Rattle.std.proofs.Common.{◌≡◌, ℕ, ◌/◌, ◌%◌, ◌<◌, Bool, true, false, not, ◌&&◌, ◌||◌, List, [], ◌∷◌, refl, sym, ◌∙◌, ap, subst, inl, inr, arith}
use Rattle.std.specs.Prelude.{ℤ, pos, nat_abs, ◌==◌}
use Rattle.std.specs.Ordering.{int_eq}
use Rattle.std.proofs.lemmas.Bool.{cases_Bool, and_parts, and_from, and_cases, both_ways, or_cases, or_left, or_right, eqb-true, eq-eqb, agree_below}
use Rattle.tz_bits.specs.Values.{shift_number}
use Rattle.tz_table.specs.Fields.{bits}
use Rattle.tz_table.specs.Limits.{plain, can_move}
use Rattle.tz_table.specs.Terms.{imm5_of, imm_shift_of, imm_amount_of}
use Rattle.tz_table.specs.DataRows.{mov_reg_w}
use Rattle.tz_encode.specs.Limits.{is_bare}
use Rattle.tz_encode.specs.Numbers.{amount_number}
use Rattle.tz_encode.specs.Slots.{held_by, parts_in}
use Rattle.tz_encode.specs.declared.slot.Part.{Part}
use Rattle.tz_encode.proofs.Reading.{Reads, shape, slot, read_all}
use Rattle.tz_encode.proofs.Slots.{fill, limit_taken}
use Rattle.tz_encode.proofs.FieldWords.{flags_word, amount_word, shift_zero, amount_left, at_1, at_8}
use Rattle.tz_encode.proofs.Tautologies.{always_6, always_7}
use Rattle.tz_encode.proofs.Choosing.{amount_passes, amount_taken}
use Rattle.tz_encode.proofs.RegisterReads.{kind_taken}

-- a, r: the result is SP, PC; m, q: so the source; s: no flags; z: LSL; n, l: by 0
abbrev pub move_row : (a r m q s z n : Bool) → Bool
move_row a r m q s z n = (not a && not r) && (not m && not q) || s && z && n && not r && not q && not (a && m)

abbrev pub move_slots : (a r m q s z l : Bool) → Bool
move_slots a r m q s z l = (not a && not r || a && (s && z)) && ((not m && not q || m && (not a && not r) && (s && z)) && (((not a && not r) && (not m && not q) || l) && true))

move_left : (a r m q s n : Bool) → move_row (a && not r) r (m && not q) q s true n ≡ move_slots (a && not r) r (m && not q) q s true n
move_left a r m q s n = always_6 (λ a r m q s n. move_row (a && not r) r (m && not q) q s true n) (λ a r m q s n. move_slots (a && not r) r (m && not q) q s true n) refl a r m q s n

move_shifted : (a r m q s n l : Bool) → move_row (a && not r) r (m && not q) q s false n ≡ move_slots (a && not r) r (m && not q) q s false l
move_shifted a r m q s n l = always_7 (λ a r m q s n l. move_row (a && not r) r (m && not q) q s false n) (λ a r m q s n l. move_slots (a && not r) r (m && not q) q s false l) refl a r m q s n l

always_and_true : (a : Bool) → (a && true) ≡ a
always_and_true true = refl
always_and_true false = refl

move_cases : (a r m q s z n l : Bool) → (z ≡ true → l ≡ n) → move_row (a && not r) r (m && not q) q s z n ≡ move_slots (a && not r) r (m && not q) q s z l
move_cases a r m q s true n l h = move_left a r m q s n ∙ ap (move_slots (a && not r) r (m && not q) q s true) (sym (h refl))
move_cases a r m q s false n l h = move_shifted a r m q s n l

not_pc_sp : (r : ℕ) → (r == 13) ≡ ((r == 13) && not (r == 15))
not_pc_sp r =
    elim (cases_Bool (r == 15)) [
      | inl x ↦ subst (λ r. (r == 13) ≡ ((r == 13) && not (r == 15))) (sym (eqb-true r 15 x)) refl
      | inr x ↦ sym (ap (λ b. (r == 13) && not b) x ∙ always_and_true (r == 13))
    ]

move_tests : (rd rm : ℕ) (s z n l : Bool) → (z ≡ true → l ≡ n) → move_row (rd == 13) (rd == 15) (rm == 13) (rm == 15) s z n ≡ move_slots (rd == 13) (rd == 15) (rm == 13) (rm == 15) s z l
move_tests rd rm s z n l h =
    subst (λ a. move_row a (rd == 15) (rm == 13) (rm == 15) s z n ≡ move_slots a (rd == 15) (rm == 13) (rm == 15) s z l) (sym (not_pc_sp rd))
    (subst (λ m. move_row ((rd == 13) && not (rd == 15)) (rd == 15) m (rm == 15) s z n ≡ move_slots ((rd == 13) && not (rd == 15)) (rd == 15) m (rm == 15) s z l) (sym (not_pc_sp rm))
    (move_cases (rd == 13) (rd == 15) (rm == 13) (rm == 15) s z n l h))

move_limits : (fl rd rm k n s : ℕ) → k < 4 → imm_amount_of k n ≡ s → can_move fl rd rm k n ≡ ((plain rd || rd == 13 && is_bare fl (shift_number (imm_shift_of k n))) && ((plain rm || rm == 13 && plain rd && is_bare fl (shift_number (imm_shift_of k n))) && ((plain rd && plain rm || s == 0) && true)))
move_limits fl rd rm k n s h e =
    move_tests rd rm (fl == 0) (k == 0) (n == 0) (s == 0) (λ x. ap (λ m. m == 0) (sym e ∙ amount_left k n x))
    ∙ ap (λ b. move_slots (rd == 13) (rd == 15) (rm == 13) (rm == 15) (fl == 0) b (s == 0)) (sym (shift_zero k n h))

-- ---- an amount between these registers

bare_left : (a b c : Bool) (fl kind : ℕ) → (a || b && c && is_bare fl kind) ≡ true → a ≡ false → (kind == 0) ≡ true
bare_left a b c fl kind h x =
    elim (or_cases a (b && c && is_bare fl kind) h) [
      | inl y ↦ absurd (both_ways a x y)
      | inr y ↦ (and_parts (fl == 0) (kind == 0) (and_parts (b && c) (is_bare fl kind) y).1).1
    ]

bare_result : (a b : Bool) (fl kind : ℕ) → (a || b && is_bare fl kind) ≡ true → a ≡ false → (kind == 0) ≡ true
bare_result a b fl kind h x =
    elim (or_cases a (b && is_bare fl kind) h) [
      | inl y ↦ absurd (both_ways a x y)
      | inr y ↦ (and_parts (fl == 0) (kind == 0) (and_parts b (is_bare fl kind) y).1).1
    ]

abbrev pub MoveAmount : List Part → ℕ → ℕ → ℕ → Type 0
MoveAmount ps kind rd rm = (z : ℤ) × ((let n = amount_number kind (nat_abs z) in (held_by ps n == n) && int_eq (pos (imm_amount_of (n / 32) (n % 32))) z && (plain rd && plain rm || nat_abs z == 0)) ≡ true)

-- nothing is shifted
unshifted : (ps : List Part) (kind rd rm : ℕ) → held_by ps 0 ≡ 0 → (kind == 0) ≡ true → MoveAmount ps kind rd rm
unshifted ps kind rd rm z h =
    (pos 0, subst (λ k. (let n = amount_number k 0 in (held_by ps n == n) && int_eq (pos (imm_amount_of (n / 32) (n % 32))) (pos 0) && (plain rd && plain rm || 0 == 0)) ≡ true) (sym (eqb-true kind 0 h)) (and_from _ _ (and_from _ _ (eq-eqb _ _ z) refl) (or_right (plain rd && plain rm) true refl)))

move_amount : (ps : List Part) (fl kind rd rm : ℕ) → agree_below (amount_passes ps) (λ k. true) 5 ≡ true → held_by ps 0 ≡ 0 → kind < 5 → (plain rd || rd == 13 && is_bare fl kind) ≡ true → (plain rm || rm == 13 && plain rd && is_bare fl kind) ≡ true → MoveAmount ps kind rd rm
move_amount ps fl kind rd rm t z k h g =
    elim (cases_Bool (plain rd && plain rm)) [
      | inl x ↦ (pos 1, amount_taken ps kind (plain rd && plain rm || 1 == 0) t k (or_left (plain rd && plain rm) (1 == 0) x))
      | inr x ↦ unshifted ps kind rd rm z (elim (and_cases (plain rd) (plain rm) x) [
        | inl y ↦ bare_result (plain rd) (rd == 13) fl kind h y
        | inr y ↦ bare_left (plain rm) (rm == 13) (plain rd) fl kind g y
      ])
    ]

pub mov_reg_w_reads : Reads mov_reg_w 26 (shape 103)
mov_reg_w_reads =
    read_all mov_reg_w 26 (shape 103) (λ f s. at_1 (flags_word f 4) ∙ at_8 (ap pos (amount_word s)))
    (λ f s. move_limits (bits f 4 1) (bits s 8 4) (bits s 0 4) (bits s 4 2) (imm5_of s) _ (omega arith) (amount_word s))
    (fill (shape 103) (pos 26 ∷ []) (λ fl _ kind h c _ d _. (
      (pos 0, refl),
      λ rd i rn _. (
        (pos 0, refl),
        λ rm j. (
          move_amount (parts_in (slot 103 7).parts) (nat_abs fl) (nat_abs kind) (nat_abs rd) (nat_abs rm) refl refl (kind_taken (pos 26 ∷ fl ∷ []) kind h)
              (limit_taken (slot 103 4) (pos 26 ∷ fl ∷ kind ∷ c ∷ d ∷ []) rd i)
              (limit_taken (slot 103 6) (pos 26 ∷ fl ∷ kind ∷ c ∷ d ∷ rd ∷ rn ∷ []) rm j),
          λ x _. tt,
        ),
      ),
    )))
