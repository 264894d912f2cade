-- The instruction table of Armv8-M Mainline without floating point and DSP, and what a code means.
use Rattle.std.specs.Prelude.{◌≡◌, ℕ, true, List, [], ◌∷◌, Some, slice_get}
use Rattle.tz_table.specs.Rows.{TableRow, RefusedCodes, refusal, holds, scan}
use Rattle.tz_table.specs.NarrowRows.{lsl_imm, lsr_imm, asr_imm, add_reg, sub_reg, add_imm3, sub_imm3, mov_imm8, cmp_imm8, add_imm8, sub_imm8, and_low, eor_low, lsl_low, lsr_low, asr_low, adc_low, sbc_low, ror_low, tst_low, rsb_low, cmp_low, cmn_low, orr_low, mul_low, bic_low, mvn_low, add_high, cmp_high, mov_high, bx, blx, ldr_literal, str_index, strh_index, strb_index, ldrsb_index, ldr_index, ldrh_index, ldrb_index, ldrsh_index, str_offset, ldr_offset, strb_offset, ldrb_offset, strh_offset, ldrh_offset, str_sp, ldr_sp, adr, add_sp_imm8, add_sp_imm7, cbz, sxth, sxtb, uxth, uxtb, push, pop, cps, rev, rev16, revsh, bkpt, if_then, hint, stm, ldm, bcond, udf, svc, branch}
use Rattle.tz_table.specs.MultipleRows.{ldm_w, stm_w, ldmdb, stmdb, ldrd, strd, ldrd_literal, strex, tt, ldrex, strexb, strexh, stlb, stlh, stl, stlexb, stlexh, stlex, ldrexb, ldrexh, ldab, ldah, lda, ldaexb, ldaexh, ldaex, tbb}
use Rattle.tz_table.specs.DataRows.{and_reg_w, tst_reg_w, bic_reg_w, orr_reg_w, mov_reg_w, orn_reg_w, mvn_reg_w, eor_reg_w, teq_reg_w, add_reg_w, cmn_reg_w, adc_reg_w, sbc_reg_w, sub_reg_w, cmp_reg_w, rsb_reg_w, and_imm_w, tst_imm_w, bic_imm_w, orr_imm_w, mov_imm_w, orn_imm_w, mvn_imm_w, eor_imm_w, teq_imm_w, add_imm_w, cmn_imm_w, adc_imm_w, sbc_imm_w, sub_imm_w, cmp_imm_w, rsb_imm_w, addw, subw, adr_after, adr_before, movw, ssat, usat, sbfx, ubfx, bfi, bfc}
use Rattle.tz_table.specs.BranchRows.{bcond_w, branch_w, bl, msr, mrs, hint_w, clrex, dsb, dmb, isb, udf_w}
use Rattle.tz_table.specs.LoadRows.{ldr_imm12, str_imm12, pld_imm12, ldr_negative, str_negative, pld_negative, ldrt, strt, ldr_back, str_back, ldr_index_w, str_index_w, pld_index, ldr_literal_w, pld_literal}
use Rattle.tz_table.specs.ArithmeticRows.{shift_reg_w, sxth_w, uxth_w, sxtb_w, uxtb_w, rev_w, rev16_w, rbit, revsh_w, clz, mla, mul_w, mls, smull, umull, smlal, umlal, sdiv, udiv, sg, vlstm}
use Rattle.tz_table.specs.declared.decoded.Decoded.{Decoded}
use Rattle.tz_table.specs.declared.decoded.Decoded.TheVariants.{NoCoprocessor, Undefined}
use Rattle.tz_table.specs.declared.units.Width.TheVariants.{Wide}

-- all rows, in the manual's order
unfoldable pub rows : List TableRow
rows =
    lsl_imm ∷ lsr_imm ∷ asr_imm ∷ add_reg ∷ sub_reg ∷ add_imm3 ∷ sub_imm3 ∷ mov_imm8 ∷ cmp_imm8 ∷
    add_imm8 ∷ sub_imm8 ∷ and_low ∷ eor_low ∷ lsl_low ∷ lsr_low ∷ asr_low ∷ adc_low ∷ sbc_low ∷
    ror_low ∷ tst_low ∷ rsb_low ∷ cmp_low ∷ cmn_low ∷ orr_low ∷ mul_low ∷ bic_low ∷ mvn_low ∷
    add_high ∷ cmp_high ∷ mov_high ∷ bx ∷ blx ∷ ldr_literal ∷ str_index ∷ strh_index ∷ strb_index ∷
    ldrsb_index ∷ ldr_index ∷ ldrh_index ∷ ldrb_index ∷ ldrsh_index ∷ str_offset ∷ ldr_offset ∷
    strb_offset ∷ ldrb_offset ∷ strh_offset ∷ ldrh_offset ∷ str_sp ∷ ldr_sp ∷ adr ∷ add_sp_imm8 ∷
    add_sp_imm7 ∷ cbz ∷ sxth ∷ sxtb ∷ uxth ∷ uxtb ∷ push ∷ pop ∷ cps ∷ rev ∷ rev16 ∷ revsh ∷ bkpt ∷
    if_then ∷ hint ∷ stm ∷ ldm ∷ bcond ∷ udf ∷ svc ∷ branch ∷ ldm_w ∷ stm_w ∷ ldmdb ∷ stmdb ∷ ldrd ∷
    strd ∷ ldrd_literal ∷ strex ∷ tt ∷ ldrex ∷ strexb ∷ strexh ∷ stlb ∷ stlh ∷ stl ∷ stlexb ∷
    stlexh ∷ stlex ∷ ldrexb ∷ ldrexh ∷ ldab ∷ ldah ∷ lda ∷ ldaexb ∷ ldaexh ∷ ldaex ∷ tbb ∷
    and_reg_w ∷ tst_reg_w ∷ bic_reg_w ∷ orr_reg_w ∷ mov_reg_w ∷ orn_reg_w ∷ mvn_reg_w ∷ eor_reg_w ∷
    teq_reg_w ∷ add_reg_w ∷ cmn_reg_w ∷ adc_reg_w ∷ sbc_reg_w ∷ sub_reg_w ∷ cmp_reg_w ∷ rsb_reg_w ∷
    and_imm_w ∷ tst_imm_w ∷ bic_imm_w ∷ orr_imm_w ∷ mov_imm_w ∷ orn_imm_w ∷ mvn_imm_w ∷ eor_imm_w ∷
    teq_imm_w ∷ add_imm_w ∷ cmn_imm_w ∷ adc_imm_w ∷ sbc_imm_w ∷ sub_imm_w ∷ cmp_imm_w ∷ rsb_imm_w ∷
    addw ∷ subw ∷ adr_after ∷ adr_before ∷ movw ∷ ssat ∷ usat ∷ sbfx ∷ ubfx ∷ bfi ∷ bfc ∷ bcond_w ∷
    branch_w ∷ bl ∷ msr ∷ mrs ∷ hint_w ∷ clrex ∷ dsb ∷ dmb ∷ isb ∷ udf_w ∷ ldr_imm12 ∷ str_imm12 ∷
    pld_imm12 ∷ ldr_negative ∷ str_negative ∷ pld_negative ∷ ldrt ∷ strt ∷ ldr_back ∷ str_back ∷
    ldr_index_w ∷ str_index_w ∷ pld_index ∷ ldr_literal_w ∷ pld_literal ∷ shift_reg_w ∷ sxth_w ∷
    uxth_w ∷ sxtb_w ∷ uxtb_w ∷ rev_w ∷ rev16_w ∷ rbit ∷ revsh_w ∷ clz ∷ mla ∷ mul_w ∷ mls ∷ smull ∷
    umull ∷ smlal ∷ umlal ∷ sdiv ∷ udiv ∷ sg ∷ vlstm ∷ []

-- what a code is that no row holds: a coprocessor's, else undefined, of two halfwords from 0xe800 on
abbrev pub refusals : List RefusedCodes
refusals = refusal "111x 11xx xxxx xxxx" NoCoprocessor ∷ refusal "1110 1xxx xxxx xxxx" (Undefined Wide) ∷ refusal "1111 xxxx xxxx xxxx" (Undefined Wide) ∷ []

-- the instruction of a code, or its refusal
unfoldable pub decode_of : ℕ → ℕ → Decoded
decode_of f s = scan refusals rows f s

-- a code is in one row at most
abbrev pub OneRow : Type 0
OneRow = (i j : ℕ) (d e : TableRow) (f s : ℕ) → slice_get rows i ≡ Some d → slice_get rows j ≡ Some e → holds d f s ≡ true → holds e f s ≡ true → i ≡ j
