-- The rows of 32 bits of data instructions with constants and of fields of bits.
use Rattle.std.proofs.Common.{◌≡◌, ℕ, ◌+◌, ◌-◌, ◌*◌, ◌<◌, Bool, true, not, ◌&&◌, [], ◌∷◌, refl, ◌∙◌, ap, arith}
use Rattle.std.specs.Prelude.{pos, nat_abs, nat_le, ◌==◌}
use Rattle.std.specs.Ordering.{int_eq}
use Rattle.std.proofs.lemmas.Bool.{le-leb, agree_below_at}
use Rattle.tz_table.specs.Fields.{bits}
use Rattle.tz_table.specs.Limits.{plain, not_pc, copies_zero}
use Rattle.tz_table.specs.Terms.{imm5_of, imm12_of}
use Rattle.tz_table.specs.DataRows.{and_imm_w, tst_imm_w, bic_imm_w, orr_imm_w, mov_imm_w, orn_imm_w, mvn_imm_w, eor_imm_w, teq_imm_w, cmn_imm_w, adc_imm_w, sbc_imm_w, cmp_imm_w, rsb_imm_w, adr_after, adr_before, movw, ssat, usat, sbfx, ubfx, bfi, bfc}
use Rattle.tz_encode.specs.Slots.{held_by, parts_in}
use Rattle.tz_encode.proofs.Reading.{Reads, shape, slot, read_all, read_alone}
use Rattle.tz_encode.proofs.Slots.{fill, bits_taken}
use Rattle.tz_encode.proofs.FieldWords.{bool_word, flags_word, at_1, at_2, at_6}
use Rattle.tz_encode.proofs.Regrouping.{one, two, three, redundant, pc_first, pc_second, not_below}
use Rattle.tz_encode.proofs.Choosing.{not_with_false}

pub and_imm_w_reads : Reads and_imm_w 0 (shape 115)
and_imm_w_reads = read_alone and_imm_w 0 (shape 115) (λ f s. at_1 (flags_word f 4)) (λ f s. redundant _ _ (pc_first (bits s 8 4) (bits f 0 4) (not (copies_zero (imm12_of f s)))) ∙ three (plain (bits s 8 4)) (plain (bits f 0 4)) (not (copies_zero (imm12_of f s)))) refl

pub tst_imm_w_reads : Reads tst_imm_w 12 (shape 116)
tst_imm_w_reads = read_alone tst_imm_w 12 (shape 116) (λ f s. refl) (λ f s. two (plain (bits f 0 4)) (not (copies_zero (imm12_of f s)))) refl

pub bic_imm_w_reads : Reads bic_imm_w 1 (shape 117)
bic_imm_w_reads = read_alone bic_imm_w 1 (shape 117) (λ f s. at_1 (flags_word f 4)) (λ f s. three (plain (bits s 8 4)) (plain (bits f 0 4)) (not (copies_zero (imm12_of f s)))) refl

pub orr_imm_w_reads : Reads orr_imm_w 2 (shape 118)
orr_imm_w_reads = read_alone orr_imm_w 2 (shape 118) (λ f s. at_1 (flags_word f 4)) (λ f s. redundant _ _ (pc_second (bits s 8 4) (bits f 0 4) (not (copies_zero (imm12_of f s)))) ∙ three (plain (bits s 8 4)) (plain (bits f 0 4)) (not (copies_zero (imm12_of f s)))) refl

pub mov_imm_w_reads : Reads mov_imm_w 10 (shape 119)
mov_imm_w_reads = read_alone mov_imm_w 10 (shape 119) (λ f s. at_1 (flags_word f 4)) (λ f s. two (plain (bits s 8 4)) (not (copies_zero (imm12_of f s)))) refl

pub orn_imm_w_reads : Reads orn_imm_w 3 (shape 120)
orn_imm_w_reads = read_alone orn_imm_w 3 (shape 120) (λ f s. at_1 (flags_word f 4)) (λ f s. redundant _ _ (pc_second (bits s 8 4) (bits f 0 4) (not (copies_zero (imm12_of f s)))) ∙ three (plain (bits s 8 4)) (plain (bits f 0 4)) (not (copies_zero (imm12_of f s)))) refl

pub mvn_imm_w_reads : Reads mvn_imm_w 11 (shape 121)
mvn_imm_w_reads = read_alone mvn_imm_w 11 (shape 121) (λ f s. at_1 (flags_word f 4)) (λ f s. two (plain (bits s 8 4)) (not (copies_zero (imm12_of f s)))) refl

pub eor_imm_w_reads : Reads eor_imm_w 4 (shape 122)
eor_imm_w_reads = read_alone eor_imm_w 4 (shape 122) (λ f s. at_1 (flags_word f 4)) (λ f s. redundant _ _ (pc_first (bits s 8 4) (bits f 0 4) (not (copies_zero (imm12_of f s)))) ∙ three (plain (bits s 8 4)) (plain (bits f 0 4)) (not (copies_zero (imm12_of f s)))) refl

pub teq_imm_w_reads : Reads teq_imm_w 13 (shape 123)
teq_imm_w_reads = read_alone teq_imm_w 13 (shape 123) (λ f s. refl) (λ f s. two (plain (bits f 0 4)) (not (copies_zero (imm12_of f s)))) refl

pub cmn_imm_w_reads : Reads cmn_imm_w 14 (shape 125)
cmn_imm_w_reads = read_alone cmn_imm_w 14 (shape 125) (λ f s. refl) (λ f s. two (not_pc (bits f 0 4)) (not (copies_zero (imm12_of f s)))) refl

pub adc_imm_w_reads : Reads adc_imm_w 6 (shape 126)
adc_imm_w_reads = read_alone adc_imm_w 6 (shape 126) (λ f s. at_1 (flags_word f 4)) (λ f s. three (plain (bits s 8 4)) (plain (bits f 0 4)) (not (copies_zero (imm12_of f s)))) refl

pub sbc_imm_w_reads : Reads sbc_imm_w 7 (shape 127)
sbc_imm_w_reads = read_alone sbc_imm_w 7 (shape 127) (λ f s. at_1 (flags_word f 4)) (λ f s. three (plain (bits s 8 4)) (plain (bits f 0 4)) (not (copies_zero (imm12_of f s)))) refl

pub cmp_imm_w_reads : Reads cmp_imm_w 15 (shape 129)
cmp_imm_w_reads = read_alone cmp_imm_w 15 (shape 129) (λ f s. refl) (λ f s. two (not_pc (bits f 0 4)) (not (copies_zero (imm12_of f s)))) refl

pub rsb_imm_w_reads : Reads rsb_imm_w 9 (shape 130)
rsb_imm_w_reads = read_alone rsb_imm_w 9 (shape 130) (λ f s. at_1 (flags_word f 4)) (λ f s. three (plain (bits s 8 4)) (plain (bits f 0 4)) (not (copies_zero (imm12_of f s)))) refl

pub adr_after_reads : Reads adr_after 34 (shape 133)
adr_after_reads = read_alone adr_after 34 (shape 133) (λ f s. refl) (λ f s. one (plain (bits s 8 4))) refl

pub adr_before_reads : Reads adr_before 34 (shape 134)
adr_before_reads = read_alone adr_before 34 (shape 134) (λ f s. refl) (λ f s. one (plain (bits s 8 4))) refl

-- the four parts of the constant in one sum
joined : (j i k n : ℕ) → j * 4096 + (i * 2048 + k * 256 + n) ≡ j * 4096 + i * 2048 + k * 256 + n
joined j i k n = omega arith

pub movw_reads : Reads movw 35 (shape 135)
movw_reads = read_alone movw 35 (shape 135) (λ f s. at_1 (bool_word f 7) ∙ at_6 (joined (bits f 0 4) (bits f 10 1) (bits s 12 3) (bits s 0 8))) (λ f s. one (plain (bits s 8 4))) refl

-- ---- saturation and fields of bits

pub ssat_reads : Reads ssat 36 (shape 136)
ssat_reads = read_all ssat 36 (shape 136) (λ f s. at_2 (bool_word f 5)) (λ f s. three (plain (bits s 8 4)) (plain (bits f 0 4)) _) (fill (shape 136) (pos 36 ∷ []) (λ a _ b _ c _ d _ rd _ rn _ n _. ((pos 1, not_with_false _), λ x _. tt)))

pub usat_reads : Reads usat 36 (shape 137)
usat_reads = read_all usat 36 (shape 137) (λ f s. at_2 (bool_word f 5)) (λ f s. three (plain (bits s 8 4)) (plain (bits f 0 4)) _) (fill (shape 137) (pos 36 ∷ []) (λ a _ b _ c _ d _ rd _ rn _ n _. ((pos 1, not_with_false _), λ x _. tt)))

-- a width of one bit
extract_limits : (low less_one : ℕ) → nat_le (low + less_one + 1) 32 ≡ nat_le (low + (less_one + 1)) 32
extract_limits low less_one = ap (λ n. nat_le n 32) (omega arith)

pub sbfx_reads : Reads sbfx 37 (shape 138)
sbfx_reads =
    read_all sbfx 37 (shape 138) (λ f s. refl) (λ f s. three (plain (bits s 8 4)) (plain (bits f 0 4)) (nat_le (imm5_of s + bits s 0 5 + 1) 32) ∙ ap (λ b. plain (bits s 8 4) && (plain (bits f 0 4) && (b && true))) (extract_limits (imm5_of s) (bits s 0 5)))
    (fill (shape 138) (pos 37 ∷ []) (λ a _ b _ c _ d _ rd _ rn _ low h.
    let fits = bits_taken (slot 138 6) (pos 37 ∷ a ∷ b ∷ c ∷ d ∷ rd ∷ rn ∷ []) low h in
    ((pos 1, le-leb (nat_abs low + 1) 32 (omega arith)), λ x _. tt)))

pub ubfx_reads : Reads ubfx 38 (shape 139)
ubfx_reads =
    read_all ubfx 38 (shape 139) (λ f s. refl) (λ f s. three (plain (bits s 8 4)) (plain (bits f 0 4)) (nat_le (imm5_of s + bits s 0 5 + 1) 32) ∙ ap (λ b. plain (bits s 8 4) && (plain (bits f 0 4) && (b && true))) (extract_limits (imm5_of s) (bits s 0 5)))
    (fill (shape 139) (pos 38 ∷ []) (λ a _ b _ c _ d _ rd _ rn _ low h.
    let fits = bits_taken (slot 139 6) (pos 38 ∷ a ∷ b ∷ c ∷ d ∷ rd ∷ rn ∷ []) low h in
    ((pos 1, le-leb (nat_abs low + 1) 32 (omega arith)), λ x _. tt)))

-- a field of the one bit at its lowest place
abbrev pub one_bit : ℕ → Bool
one_bit low = let n = low + 1 - 1 in (held_by (parts_in (slot 140 7).parts) n == n) && int_eq (pos (n + 1 - low)) (pos 1) && true

one_bit_passes : (low : ℕ) → low < 32 → one_bit low ≡ true
one_bit_passes low h = agree_below_at one_bit (λ n. true) 32 low refl h

pub bfi_reads : Reads bfi 39 (shape 140)
bfi_reads =
    read_all bfi 39 (shape 140) (λ f s. refl) (λ f s. redundant _ _ (pc_second (bits s 8 4) (bits f 0 4) (nat_le (imm5_of s) (bits s 0 5))) ∙ three (plain (bits s 8 4)) (plain (bits f 0 4)) _ ∙ ap (λ b. plain (bits s 8 4) && (plain (bits f 0 4) && (b && true))) (not_below (imm5_of s) (bits s 0 5)))
    (fill (shape 140) (pos 39 ∷ []) (λ a _ b _ c _ d _ rd _ rn _ low h.
    let fits = bits_taken (slot 140 6) (pos 39 ∷ a ∷ b ∷ c ∷ d ∷ rd ∷ rn ∷ []) low h in
    ((pos 1, one_bit_passes (nat_abs low) (omega arith)), λ x _. tt)))

pub bfc_reads : Reads bfc 40 (shape 141)
bfc_reads =
    read_all bfc 40 (shape 141) (λ f s. refl) (λ f s. two (plain (bits s 8 4)) _ ∙ ap (λ b. plain (bits s 8 4) && (b && true)) (not_below (imm5_of s) (bits s 0 5)))
    (fill (shape 141) (pos 40 ∷ []) (λ a _ b _ c _ d _ rd _ rn _ low h.
    let fits = bits_taken (slot 141 6) (pos 40 ∷ a ∷ b ∷ c ∷ d ∷ rd ∷ rn ∷ []) low h in
    ((pos 1, one_bit_passes (nat_abs low) (omega arith)), λ x _. tt)))
