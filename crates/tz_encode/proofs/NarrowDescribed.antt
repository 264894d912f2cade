-- The rows of 16 bits are described by their slots.
use Rattle.std.proofs.Common.{refl}
use Rattle.tz_table.specs.NarrowRows.{lsl_imm, lsr_imm, asr_imm, add_reg, sub_reg, add_imm3, sub_imm3, mov_imm8, cmp_imm8, add_imm8, sub_imm8, and_low, eor_low, lsl_low, lsr_low, asr_low, adc_low, sbc_low, ror_low, tst_low, rsb_low, cmp_low, cmn_low, orr_low, mul_low, bic_low, mvn_low, add_high, cmp_high, mov_high, bx, blx, ldr_literal, str_index, strh_index, strb_index, ldrsb_index, ldr_index, ldrh_index, ldrb_index, ldrsh_index, str_offset, ldr_offset, strb_offset, ldrb_offset, strh_offset, ldrh_offset, str_sp, ldr_sp, adr, add_sp_imm8, add_sp_imm7, cbz, sxth, sxtb, uxth, uxtb, push, pop, cps, rev, rev16, revsh, bkpt, if_then, hint, stm, bcond, udf, svc, branch}
use Rattle.tz_table.specs.Table.{rows}
use Rattle.tz_encode.proofs.Described.{regular, ldm_described}
use Rattle.tz_encode.proofs.Groups.{GroupDescribed, ◌⨾◌}
use Rattle.tz_encode.proofs.NarrowLimited.{add_high_reads, cmp_high_reads, bx_reads, blx_reads, add_sp_imm7_reads, cbz_reads, push_reads, pop_reads, cps_reads, if_then_reads, stm_reads, bcond_reads}
use Rattle.tz_encode.proofs.NarrowReads.{lsl_imm_reads, lsr_imm_reads, asr_imm_reads, add_reg_reads, sub_reg_reads, add_imm3_reads, sub_imm3_reads, mov_imm8_reads, cmp_imm8_reads, add_imm8_reads, sub_imm8_reads, and_low_reads, eor_low_reads, lsl_low_reads, lsr_low_reads, asr_low_reads, adc_low_reads, sbc_low_reads, ror_low_reads, tst_low_reads, rsb_low_reads, cmp_low_reads, cmn_low_reads, orr_low_reads, mul_low_reads, bic_low_reads, mvn_low_reads, mov_high_reads, ldr_literal_reads, str_index_reads, strh_index_reads, strb_index_reads, ldrsb_index_reads, ldr_index_reads, ldrh_index_reads, ldrb_index_reads, ldrsh_index_reads, str_offset_reads, ldr_offset_reads, strb_offset_reads, ldrb_offset_reads, strh_offset_reads, ldrh_offset_reads, str_sp_reads, ldr_sp_reads, adr_reads, add_sp_imm8_reads, sxth_reads, sxtb_reads, uxth_reads, uxtb_reads, rev_reads, rev16_reads, revsh_reads, bkpt_reads, hint_reads, udf_reads, svc_reads, branch_reads}
use Rattle.tz_encode.proofs.Reading.{shape}

pub narrow_described : GroupDescribed 0 72
unfolding rows
narrow_described =
    regular lsl_imm 26 (shape 0) lsl_imm_reads refl refl ⨾
    regular lsr_imm 26 (shape 1) lsr_imm_reads refl refl ⨾
    regular asr_imm 26 (shape 2) asr_imm_reads refl refl ⨾
    regular add_reg 21 (shape 3) add_reg_reads refl refl ⨾
    regular sub_reg 24 (shape 4) sub_reg_reads refl refl ⨾
    regular add_imm3 5 (shape 5) add_imm3_reads refl refl ⨾
    regular sub_imm3 8 (shape 6) sub_imm3_reads refl refl ⨾
    regular mov_imm8 10 (shape 7) mov_imm8_reads refl refl ⨾
    regular cmp_imm8 15 (shape 8) cmp_imm8_reads refl refl ⨾
    regular add_imm8 5 (shape 9) add_imm8_reads refl refl ⨾
    regular sub_imm8 8 (shape 10) sub_imm8_reads refl refl ⨾
    regular and_low 16 (shape 11) and_low_reads refl refl ⨾
    regular eor_low 20 (shape 12) eor_low_reads refl refl ⨾
    regular lsl_low 32 (shape 13) lsl_low_reads refl refl ⨾
    regular lsr_low 32 (shape 14) lsr_low_reads refl refl ⨾
    regular asr_low 32 (shape 15) asr_low_reads refl refl ⨾
    regular adc_low 22 (shape 16) adc_low_reads refl refl ⨾
    regular sbc_low 23 (shape 17) sbc_low_reads refl refl ⨾
    regular ror_low 32 (shape 18) ror_low_reads refl refl ⨾
    regular tst_low 28 (shape 19) tst_low_reads refl refl ⨾
    regular rsb_low 9 (shape 20) rsb_low_reads refl refl ⨾
    regular cmp_low 31 (shape 21) cmp_low_reads refl refl ⨾
    regular cmn_low 30 (shape 22) cmn_low_reads refl refl ⨾
    regular orr_low 18 (shape 23) orr_low_reads refl refl ⨾
    regular mul_low 50 (shape 24) mul_low_reads refl refl ⨾
    regular bic_low 17 (shape 25) bic_low_reads refl refl ⨾
    regular mvn_low 27 (shape 26) mvn_low_reads refl refl ⨾
    regular add_high 21 (shape 27) add_high_reads refl refl ⨾
    regular cmp_high 31 (shape 28) cmp_high_reads refl refl ⨾
    regular mov_high 26 (shape 29) mov_high_reads refl refl ⨾
    regular bx 74 (shape 30) bx_reads refl refl ⨾
    regular blx 75 (shape 31) blx_reads refl refl ⨾
    regular ldr_literal 58 (shape 32) ldr_literal_reads refl refl ⨾
    regular str_index 59 (shape 33) str_index_reads refl refl ⨾
    regular strh_index 59 (shape 34) strh_index_reads refl refl ⨾
    regular strb_index 59 (shape 35) strb_index_reads refl refl ⨾
    regular ldrsb_index 58 (shape 36) ldrsb_index_reads refl refl ⨾
    regular ldr_index 58 (shape 37) ldr_index_reads refl refl ⨾
    regular ldrh_index 58 (shape 38) ldrh_index_reads refl refl ⨾
    regular ldrb_index 58 (shape 39) ldrb_index_reads refl refl ⨾
    regular ldrsh_index 58 (shape 40) ldrsh_index_reads refl refl ⨾
    regular str_offset 59 (shape 41) str_offset_reads refl refl ⨾
    regular ldr_offset 58 (shape 42) ldr_offset_reads refl refl ⨾
    regular strb_offset 59 (shape 43) strb_offset_reads refl refl ⨾
    regular ldrb_offset 58 (shape 44) ldrb_offset_reads refl refl ⨾
    regular strh_offset 59 (shape 45) strh_offset_reads refl refl ⨾
    regular ldrh_offset 58 (shape 46) ldrh_offset_reads refl refl ⨾
    regular str_sp 59 (shape 47) str_sp_reads refl refl ⨾
    regular ldr_sp 58 (shape 48) ldr_sp_reads refl refl ⨾
    regular adr 34 (shape 49) adr_reads refl refl ⨾
    regular add_sp_imm8 33 (shape 50) add_sp_imm8_reads refl refl ⨾
    regular add_sp_imm7 33 (shape 51) add_sp_imm7_reads refl refl ⨾
    regular cbz 72 (shape 52) cbz_reads refl refl ⨾
    regular sxth 41 (shape 53) sxth_reads refl refl ⨾
    regular sxtb 42 (shape 54) sxtb_reads refl refl ⨾
    regular uxth 43 (shape 55) uxth_reads refl refl ⨾
    regular uxtb 44 (shape 56) uxtb_reads refl refl ⨾
    regular push 63 (shape 57) push_reads refl refl ⨾
    regular pop 62 (shape 58) pop_reads refl refl ⨾
    regular cps 82 (shape 59) cps_reads refl refl ⨾
    regular rev 45 (shape 60) rev_reads refl refl ⨾
    regular rev16 46 (shape 61) rev16_reads refl refl ⨾
    regular revsh 48 (shape 62) revsh_reads refl refl ⨾
    regular bkpt 89 (shape 63) bkpt_reads refl refl ⨾
    regular if_then 76 (shape 64) if_then_reads refl refl ⨾
    regular hint 77 (shape 65) hint_reads refl refl ⨾
    regular stm 63 (shape 66) stm_reads refl refl ⨾
    ldm_described ⨾
    regular bcond 70 (shape 68) bcond_reads refl refl ⨾
    regular udf 90 (shape 69) udf_reads refl refl ⨾
    regular svc 88 (shape 70) svc_reads refl refl ⨾
    regular branch 69 (shape 71) branch_reads refl refl ⨾
    tt
