-- The rows of 32 bits of data instructions between registers.
use Rattle.std.proofs.Common.{◌≡◌, ◌<◌, true, List, [], ◌∷◌, refl, ◌∙◌, ap}
use Rattle.std.specs.Prelude.{ℤ, pos, nat_abs, nat_lt}
use Rattle.std.specs.Ordering.{int_eq}
use Rattle.std.proofs.lemmas.Bool.{and_parts, ltb-true}
use Rattle.tz_table.specs.Fields.{bits}
use Rattle.tz_table.specs.Limits.{plain, not_pc}
use Rattle.tz_table.specs.DataRows.{and_reg_w, tst_reg_w, bic_reg_w, orr_reg_w, orn_reg_w, mvn_reg_w, eor_reg_w, teq_reg_w, cmn_reg_w, adc_reg_w, sbc_reg_w, cmp_reg_w, rsb_reg_w}
use Rattle.tz_encode.specs.Numbers.{takes}
use Rattle.tz_encode.specs.Slots.{parts_in}
use Rattle.tz_encode.proofs.Reading.{Reads, shape, slot, read_all}
use Rattle.tz_encode.proofs.Slots.{fill, stood_for}
use Rattle.tz_encode.proofs.FieldWords.{flags_word, amount_word, at_1, at_8}
use Rattle.tz_encode.proofs.Regrouping.{two, three, redundant, pc_first, pc_second, base_first}
use Rattle.tz_encode.proofs.Choosing.{amount_taken}

-- the kind that a slot took
pub kind_taken : (e : List ℤ) (z : ℤ) → takes (slot 99 1) e z ≡ true → nat_abs z < 5
kind_taken e z h = ltb-true _ _ (and_parts (nat_lt (nat_abs z) 5) (int_eq (pos (nat_abs z)) z) (stood_for (slot 99 1) e z h)).0

pub and_reg_w_reads : Reads and_reg_w 16 (shape 99)
and_reg_w_reads =
    read_all and_reg_w 16 (shape 99) (λ f s. at_1 (flags_word f 4) ∙ at_8 (ap pos (amount_word s))) (λ f s. redundant _ _ (pc_first (bits s 8 4) (bits f 0 4) (plain (bits s 0 4))) ∙ three (plain (bits s 8 4)) (plain (bits f 0 4)) (plain (bits s 0 4)))
    (fill (shape 99) (pos 16 ∷ []) (λ a _ kind h c _ d _ rd _ rn _ rm _. ((pos 1, amount_taken (parts_in (slot 99 7).parts) (nat_abs kind) true refl (kind_taken (pos 16 ∷ a ∷ []) kind h) refl), λ x _. tt)))

pub tst_reg_w_reads : Reads tst_reg_w 28 (shape 100)
tst_reg_w_reads =
    read_all tst_reg_w 28 (shape 100) (λ f s. at_8 (ap pos (amount_word s))) (λ f s. two (plain (bits f 0 4)) (plain (bits s 0 4)))
    (fill (shape 100) (pos 28 ∷ []) (λ a _ kind h c _ d _ rd _ rn _ rm _. ((pos 1, amount_taken (parts_in (slot 100 7).parts) (nat_abs kind) true refl (kind_taken (pos 28 ∷ a ∷ []) kind h) refl), λ x _. tt)))

pub bic_reg_w_reads : Reads bic_reg_w 17 (shape 101)
bic_reg_w_reads =
    read_all bic_reg_w 17 (shape 101) (λ f s. at_1 (flags_word f 4) ∙ at_8 (ap pos (amount_word s))) (λ f s. three (plain (bits s 8 4)) (plain (bits f 0 4)) (plain (bits s 0 4)))
    (fill (shape 101) (pos 17 ∷ []) (λ a _ kind h c _ d _ rd _ rn _ rm _. ((pos 1, amount_taken (parts_in (slot 101 7).parts) (nat_abs kind) true refl (kind_taken (pos 17 ∷ a ∷ []) kind h) refl), λ x _. tt)))

pub orr_reg_w_reads : Reads orr_reg_w 18 (shape 102)
orr_reg_w_reads =
    read_all orr_reg_w 18 (shape 102) (λ f s. at_1 (flags_word f 4) ∙ at_8 (ap pos (amount_word s))) (λ f s. redundant _ _ (pc_second (bits s 8 4) (bits f 0 4) (plain (bits s 0 4))) ∙ three (plain (bits s 8 4)) (plain (bits f 0 4)) (plain (bits s 0 4)))
    (fill (shape 102) (pos 18 ∷ []) (λ a _ kind h c _ d _ rd _ rn _ rm _. ((pos 1, amount_taken (parts_in (slot 102 7).parts) (nat_abs kind) true refl (kind_taken (pos 18 ∷ a ∷ []) kind h) refl), λ x _. tt)))

pub orn_reg_w_reads : Reads orn_reg_w 19 (shape 104)
orn_reg_w_reads =
    read_all orn_reg_w 19 (shape 104) (λ f s. at_1 (flags_word f 4) ∙ at_8 (ap pos (amount_word s))) (λ f s. redundant _ _ (pc_second (bits s 8 4) (bits f 0 4) (plain (bits s 0 4))) ∙ three (plain (bits s 8 4)) (plain (bits f 0 4)) (plain (bits s 0 4)))
    (fill (shape 104) (pos 19 ∷ []) (λ a _ kind h c _ d _ rd _ rn _ rm _. ((pos 1, amount_taken (parts_in (slot 104 7).parts) (nat_abs kind) true refl (kind_taken (pos 19 ∷ a ∷ []) kind h) refl), λ x _. tt)))

pub mvn_reg_w_reads : Reads mvn_reg_w 27 (shape 105)
mvn_reg_w_reads =
    read_all mvn_reg_w 27 (shape 105) (λ f s. at_1 (flags_word f 4) ∙ at_8 (ap pos (amount_word s))) (λ f s. two (plain (bits s 8 4)) (plain (bits s 0 4)))
    (fill (shape 105) (pos 27 ∷ []) (λ a _ kind h c _ d _ rd _ rn _ rm _. ((pos 1, amount_taken (parts_in (slot 105 7).parts) (nat_abs kind) true refl (kind_taken (pos 27 ∷ a ∷ []) kind h) refl), λ x _. tt)))

pub eor_reg_w_reads : Reads eor_reg_w 20 (shape 106)
eor_reg_w_reads =
    read_all eor_reg_w 20 (shape 106) (λ f s. at_1 (flags_word f 4) ∙ at_8 (ap pos (amount_word s))) (λ f s. redundant _ _ (pc_first (bits s 8 4) (bits f 0 4) (plain (bits s 0 4))) ∙ three (plain (bits s 8 4)) (plain (bits f 0 4)) (plain (bits s 0 4)))
    (fill (shape 106) (pos 20 ∷ []) (λ a _ kind h c _ d _ rd _ rn _ rm _. ((pos 1, amount_taken (parts_in (slot 106 7).parts) (nat_abs kind) true refl (kind_taken (pos 20 ∷ a ∷ []) kind h) refl), λ x _. tt)))

pub teq_reg_w_reads : Reads teq_reg_w 29 (shape 107)
teq_reg_w_reads =
    read_all teq_reg_w 29 (shape 107) (λ f s. at_8 (ap pos (amount_word s))) (λ f s. two (plain (bits f 0 4)) (plain (bits s 0 4)))
    (fill (shape 107) (pos 29 ∷ []) (λ a _ kind h c _ d _ rd _ rn _ rm _. ((pos 1, amount_taken (parts_in (slot 107 7).parts) (nat_abs kind) true refl (kind_taken (pos 29 ∷ a ∷ []) kind h) refl), λ x _. tt)))

pub cmn_reg_w_reads : Reads cmn_reg_w 30 (shape 109)
cmn_reg_w_reads =
    read_all cmn_reg_w 30 (shape 109) (λ f s. at_8 (ap pos (amount_word s))) (λ f s. base_first (plain (bits s 0 4)) (not_pc (bits f 0 4)))
    (fill (shape 109) (pos 30 ∷ []) (λ a _ kind h c _ d _ rd _ rn _ rm _. ((pos 1, amount_taken (parts_in (slot 109 7).parts) (nat_abs kind) true refl (kind_taken (pos 30 ∷ a ∷ []) kind h) refl), λ x _. tt)))

pub adc_reg_w_reads : Reads adc_reg_w 22 (shape 110)
adc_reg_w_reads =
    read_all adc_reg_w 22 (shape 110) (λ f s. at_1 (flags_word f 4) ∙ at_8 (ap pos (amount_word s))) (λ f s. three (plain (bits s 8 4)) (plain (bits f 0 4)) (plain (bits s 0 4)))
    (fill (shape 110) (pos 22 ∷ []) (λ a _ kind h c _ d _ rd _ rn _ rm _. ((pos 1, amount_taken (parts_in (slot 110 7).parts) (nat_abs kind) true refl (kind_taken (pos 22 ∷ a ∷ []) kind h) refl), λ x _. tt)))

pub sbc_reg_w_reads : Reads sbc_reg_w 23 (shape 111)
sbc_reg_w_reads =
    read_all sbc_reg_w 23 (shape 111) (λ f s. at_1 (flags_word f 4) ∙ at_8 (ap pos (amount_word s))) (λ f s. three (plain (bits s 8 4)) (plain (bits f 0 4)) (plain (bits s 0 4)))
    (fill (shape 111) (pos 23 ∷ []) (λ a _ kind h c _ d _ rd _ rn _ rm _. ((pos 1, amount_taken (parts_in (slot 111 7).parts) (nat_abs kind) true refl (kind_taken (pos 23 ∷ a ∷ []) kind h) refl), λ x _. tt)))

pub cmp_reg_w_reads : Reads cmp_reg_w 31 (shape 113)
cmp_reg_w_reads =
    read_all cmp_reg_w 31 (shape 113) (λ f s. at_8 (ap pos (amount_word s))) (λ f s. base_first (plain (bits s 0 4)) (not_pc (bits f 0 4)))
    (fill (shape 113) (pos 31 ∷ []) (λ a _ kind h c _ d _ rd _ rn _ rm _. ((pos 1, amount_taken (parts_in (slot 113 7).parts) (nat_abs kind) true refl (kind_taken (pos 31 ∷ a ∷ []) kind h) refl), λ x _. tt)))

pub rsb_reg_w_reads : Reads rsb_reg_w 25 (shape 114)
rsb_reg_w_reads =
    read_all rsb_reg_w 25 (shape 114) (λ f s. at_1 (flags_word f 4) ∙ at_8 (ap pos (amount_word s))) (λ f s. three (plain (bits s 8 4)) (plain (bits f 0 4)) (plain (bits s 0 4)))
    (fill (shape 114) (pos 25 ∷ []) (λ a _ kind h c _ d _ rd _ rn _ rm _. ((pos 1, amount_taken (parts_in (slot 114 7).parts) (nat_abs kind) true refl (kind_taken (pos 25 ∷ a ∷ []) kind h) refl), λ x _. tt)))
