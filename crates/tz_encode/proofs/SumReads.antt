-- The rows of 32 bits of sums and moves, in which SP may stand.
use Rattle.std.proofs.Common.{◌≡◌, ℕ, ◌<◌, Bool, true, false, not, ◌&&◌, ◌||◌, [], ◌∷◌, refl, sym, ◌∙◌, ap, subst, inl, inr, arith}
use Rattle.std.specs.Prelude.{pos, nat_abs, nat_le, ◌==◌, if◌then◌else◌}
use Rattle.std.proofs.lemmas.Bool.{cases_Bool, or_right, eqb-true}
use Rattle.tz_bits.specs.Values.{shift_number}
use Rattle.tz_table.specs.Fields.{bits}
use Rattle.tz_table.specs.Limits.{plain, not_pc, copies_zero, can_add_register, can_add_constant, can_add}
use Rattle.tz_table.specs.Terms.{imm5_of, imm12_of, imm_shift_of, imm_amount_of}
use Rattle.tz_table.specs.DataRows.{add_reg_w, sub_reg_w, add_imm_w, sub_imm_w, addw, subw}
use Rattle.tz_encode.specs.Slots.{parts_in}
use Rattle.tz_encode.proofs.Reading.{Reads, shape, slot, read_all}
use Rattle.tz_encode.proofs.Slots.{fill}
use Rattle.tz_encode.proofs.FieldWords.{flags_word, amount_word, shift_zero, amount_left, at_1, at_8}
use Rattle.tz_encode.proofs.Tautologies.{always_4, always_5, always_7}
use Rattle.tz_encode.proofs.Choosing.{amount_taken}
use Rattle.tz_encode.proofs.RegisterReads.{kind_taken}

-- ---- sums

-- z: the shift is LSL; le and la: its amount is at most 3
sum_tests : (rd rn rm : ℕ) (z le la : Bool) → (z ≡ true → la ≡ le) → (if rd == 15 then false else (not_pc rn && plain rm && (plain rd || rd == 13 && rn == 13 && z && le))) ≡ ((plain rd || rd == 13 && z) && ((not_pc rn && (plain rd || rn == 13)) && (plain rm && ((plain rd || la) && true))))
sum_tests rd rn rm true le la h =
    elim (cases_Bool (rd == 15)) [
      | inl x ↦ subst (λ r. (if r == 15 then false else (not_pc rn && plain rm && (plain r || r == 13 && rn == 13 && true && le))) ≡ ((plain r || r == 13 && true) && ((not_pc rn && (plain r || rn == 13)) && (plain rm && ((plain r || la) && true))))) (sym (eqb-true rd 15 x)) refl
      | inr x ↦
          ap (λ b. if b then false else (not_pc rn && plain rm && ((not (rd == 13) && not b) || rd == 13 && rn == 13 && true && le))) x
          ∙ always_5 (λ a b c d e. b && c && ((not a && true) || a && d && true && e)) (λ a b c d e. ((not a && true) || a && true) && ((b && ((not a && true) || d)) && (c && (((not a && true) || e) && true)))) refl (rd == 13) (not_pc rn) (plain rm) (rn == 13) le
          ∙ ap (λ b. ((not (rd == 13) && not b) || rd == 13 && true) && ((not_pc rn && ((not (rd == 13) && not b) || rn == 13)) && (plain rm && (((not (rd == 13) && not b) || le) && true)))) (sym x)
          ∙ ap (λ b. (plain rd || rd == 13 && true) && ((not_pc rn && (plain rd || rn == 13)) && (plain rm && ((plain rd || b) && true)))) (sym (h refl))
    ]
sum_tests rd rn rm false le la h =
    always_7 (λ a b c d e f g. if b then false else (c && d && ((not a && not b) || a && e && false && f))) (λ a b c d e f g. ((not a && not b) || a && false) && ((c && ((not a && not b) || e)) && (d && (((not a && not b) || g) && true)))) refl (rd == 13) (rd == 15) (not_pc rn) (plain rm) (rn == 13) le la

sum_limits : (rd rn rm k n s : ℕ) → k < 4 → imm_amount_of k n ≡ s → (if rd == 15 then false else can_add_register rd rn rm k n) ≡ ((plain rd || rd == 13 && shift_number (imm_shift_of k n) == 0) && ((not_pc rn && (plain rd || rn == 13)) && (plain rm && ((plain rd || nat_le s 3) && true))))
sum_limits rd rn rm k n s h e =
    sum_tests rd rn rm (k == 0) (nat_le n 3) (nat_le s 3) (λ x. ap (λ m. nat_le m 3) (sym e ∙ amount_left k n x))
    ∙ ap (λ b. (plain rd || rd == 13 && b) && ((not_pc rn && (plain rd || rn == 13)) && (plain rm && ((plain rd || nat_le s 3) && true)))) (sym (shift_zero k n h))

pub add_reg_w_reads : Reads add_reg_w 21 (shape 108)
add_reg_w_reads =
    read_all add_reg_w 21 (shape 108) (λ f s. at_1 (flags_word f 4) ∙ at_8 (ap pos (amount_word s)))
    (λ f s. sum_limits (bits s 8 4) (bits f 0 4) (bits s 0 4) (bits s 4 2) (imm5_of s) _ (omega arith) (amount_word s))
    (fill (shape 108) (pos 21 ∷ []) (λ a _ kind h c _ d _. (
      (pos 0, refl),
      λ rd _. (
        (pos 13, or_right (plain (nat_abs rd)) true refl),
        λ rn _ rm _.
            ((pos 1, amount_taken (parts_in (slot 108 7).parts) (nat_abs kind) (plain (nat_abs rd) || true) refl (kind_taken (pos 21 ∷ a ∷ []) kind h) (or_right (plain (nat_abs rd)) true refl)), λ x _. tt),
      ),
    )))

pub sub_reg_w_reads : Reads sub_reg_w 24 (shape 112)
sub_reg_w_reads =
    read_all sub_reg_w 24 (shape 112) (λ f s. at_1 (flags_word f 4) ∙ at_8 (ap pos (amount_word s)))
    (λ f s. sum_limits (bits s 8 4) (bits f 0 4) (bits s 0 4) (bits s 4 2) (imm5_of s) _ (omega arith) (amount_word s))
    (fill (shape 112) (pos 24 ∷ []) (λ a _ kind h c _ d _. (
      (pos 0, refl),
      λ rd _. (
        (pos 13, or_right (plain (nat_abs rd)) true refl),
        λ rn _ rm _.
            ((pos 1, amount_taken (parts_in (slot 112 7).parts) (nat_abs kind) (plain (nat_abs rd) || true) refl (kind_taken (pos 24 ∷ a ∷ []) kind h) (or_right (plain (nat_abs rd)) true refl)), λ x _. tt),
      ),
    )))

constant_limits : (rd rn n : ℕ) → (if rd == 15 then false else can_add_constant rd rn n) ≡ ((plain rd || rd == 13 && true) && ((not_pc rn && (plain rd || rn == 13)) && (not (copies_zero n) && true)))
constant_limits rd rn n =
    elim (cases_Bool (rd == 15)) [
      | inl x ↦ subst (λ r. (if r == 15 then false else (not_pc rn && (plain r || r == 13 && rn == 13) && not (copies_zero n))) ≡ ((plain r || r == 13 && true) && ((not_pc rn && (plain r || rn == 13)) && (not (copies_zero n) && true)))) (sym (eqb-true rd 15 x)) refl
      | inr x ↦
          ap (λ b. if b then false else (not_pc rn && ((not (rd == 13) && not b) || rd == 13 && rn == 13) && not (copies_zero n))) x
          ∙ always_4 (λ a b c d. b && ((not a && true) || a && c) && d) (λ a b c d. ((not a && true) || a && true) && ((b && ((not a && true) || c)) && (d && true))) refl (rd == 13) (not_pc rn) (rn == 13) (not (copies_zero n))
          ∙ ap (λ b. ((not (rd == 13) && not b) || rd == 13 && true) && ((not_pc rn && ((not (rd == 13) && not b) || rn == 13)) && (not (copies_zero n) && true))) (sym x)
    ]

wide_limits : (rd rn : ℕ) → (if rn == 15 then false else can_add rd rn) ≡ ((plain rd || rd == 13 && true) && ((not_pc rn && (plain rd || rn == 13)) && true))
wide_limits rd rn = always_4 (λ a b c d. if d then false else (not d && (a || b && c))) (λ a b c d. (a || b && true) && ((not d && (a || c)) && true)) refl (plain rd) (rd == 13) (rn == 13) (rn == 15)

pub add_imm_w_reads : Reads add_imm_w 5 (shape 124)
add_imm_w_reads =
    read_all add_imm_w 5 (shape 124) (λ f s. at_1 (flags_word f 4)) (λ f s. constant_limits (bits s 8 4) (bits f 0 4) (imm12_of f s))
    (fill (shape 124) (pos 5 ∷ []) (λ a _ b _ c _ d _. ((pos 0, refl), λ rd _. ((pos 13, or_right (plain (nat_abs rd)) true refl), λ rn _ n _ x _. tt))))

pub sub_imm_w_reads : Reads sub_imm_w 8 (shape 128)
sub_imm_w_reads =
    read_all sub_imm_w 8 (shape 128) (λ f s. at_1 (flags_word f 4)) (λ f s. constant_limits (bits s 8 4) (bits f 0 4) (imm12_of f s))
    (fill (shape 128) (pos 8 ∷ []) (λ a _ b _ c _ d _. ((pos 0, refl), λ rd _. ((pos 13, or_right (plain (nat_abs rd)) true refl), λ rn _ n _ x _. tt))))

pub addw_reads : Reads addw 33 (shape 131)
addw_reads =
    read_all addw 33 (shape 131) (λ f s. refl) (λ f s. wide_limits (bits s 8 4) (bits f 0 4))
    (fill (shape 131) (pos 33 ∷ []) (λ a _ b _ c _ d _. ((pos 0, refl), λ rd _. ((pos 13, or_right (plain (nat_abs rd)) true refl), λ rn _ n _ x _. tt))))

pub subw_reads : Reads subw 33 (shape 132)
subw_reads =
    read_all subw 33 (shape 132) (λ f s. refl) (λ f s. wide_limits (bits s 8 4) (bits f 0 4))
    (fill (shape 132) (pos 33 ∷ []) (λ a _ b _ c _ d _. ((pos 0, refl), λ rd _. ((pos 13, or_right (plain (nat_abs rd)) true refl), λ rn _ n _ x _. tt))))
