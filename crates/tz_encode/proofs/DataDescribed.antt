-- The wide rows that process data are described by their slots.
use Rattle.std.proofs.Common.{refl}
use Rattle.tz_table.specs.DataRows.{and_reg_w, tst_reg_w, bic_reg_w, orr_reg_w, mov_reg_w, orn_reg_w, mvn_reg_w, eor_reg_w, teq_reg_w, add_reg_w, cmn_reg_w, adc_reg_w, sbc_reg_w, sub_reg_w, cmp_reg_w, rsb_reg_w, and_imm_w, tst_imm_w, bic_imm_w, orr_imm_w, mov_imm_w, orn_imm_w, mvn_imm_w, eor_imm_w, teq_imm_w, add_imm_w, cmn_imm_w, adc_imm_w, sbc_imm_w, sub_imm_w, cmp_imm_w, rsb_imm_w, addw, subw, adr_after, adr_before, movw, ssat, usat, sbfx, ubfx, bfi, bfc}
use Rattle.tz_table.specs.Table.{rows}
use Rattle.tz_encode.proofs.ConstantReads.{and_imm_w_reads, tst_imm_w_reads, bic_imm_w_reads, orr_imm_w_reads, mov_imm_w_reads, orn_imm_w_reads, mvn_imm_w_reads, eor_imm_w_reads, teq_imm_w_reads, cmn_imm_w_reads, adc_imm_w_reads, sbc_imm_w_reads, cmp_imm_w_reads, rsb_imm_w_reads, adr_after_reads, adr_before_reads, movw_reads, ssat_reads, usat_reads, sbfx_reads, ubfx_reads, bfi_reads, bfc_reads}
use Rattle.tz_encode.proofs.Described.{shifted, regular, written_by, bfi_written, bfc_written}
use Rattle.tz_encode.proofs.Groups.{GroupDescribed, ◌⨾◌}
use Rattle.tz_encode.proofs.MoveReads.{mov_reg_w_reads}
use Rattle.tz_encode.proofs.Reading.{slot, shape}
use Rattle.tz_encode.proofs.RegisterReads.{and_reg_w_reads, tst_reg_w_reads, bic_reg_w_reads, orr_reg_w_reads, orn_reg_w_reads, mvn_reg_w_reads, eor_reg_w_reads, teq_reg_w_reads, cmn_reg_w_reads, adc_reg_w_reads, sbc_reg_w_reads, cmp_reg_w_reads, rsb_reg_w_reads}
use Rattle.tz_encode.proofs.SumReads.{add_reg_w_reads, sub_reg_w_reads, add_imm_w_reads, sub_imm_w_reads, addw_reads, subw_reads}

pub data_described : GroupDescribed 99 43
unfolding rows
data_described =
    shifted and_reg_w 16 (slot 99 0) (slot 99 2) (slot 99 3) (slot 99 4) (slot 99 5) (slot 99 6) (slot 99 1).limit (slot 99 7).limit and_reg_w_reads refl refl ⨾
    shifted tst_reg_w 28 (slot 100 0) (slot 100 2) (slot 100 3) (slot 100 4) (slot 100 5) (slot 100 6) (slot 100 1).limit (slot 100 7).limit tst_reg_w_reads refl refl ⨾
    shifted bic_reg_w 17 (slot 101 0) (slot 101 2) (slot 101 3) (slot 101 4) (slot 101 5) (slot 101 6) (slot 101 1).limit (slot 101 7).limit bic_reg_w_reads refl refl ⨾
    shifted orr_reg_w 18 (slot 102 0) (slot 102 2) (slot 102 3) (slot 102 4) (slot 102 5) (slot 102 6) (slot 102 1).limit (slot 102 7).limit orr_reg_w_reads refl refl ⨾
    shifted mov_reg_w 26 (slot 103 0) (slot 103 2) (slot 103 3) (slot 103 4) (slot 103 5) (slot 103 6) (slot 103 1).limit (slot 103 7).limit mov_reg_w_reads refl refl ⨾
    shifted orn_reg_w 19 (slot 104 0) (slot 104 2) (slot 104 3) (slot 104 4) (slot 104 5) (slot 104 6) (slot 104 1).limit (slot 104 7).limit orn_reg_w_reads refl refl ⨾
    shifted mvn_reg_w 27 (slot 105 0) (slot 105 2) (slot 105 3) (slot 105 4) (slot 105 5) (slot 105 6) (slot 105 1).limit (slot 105 7).limit mvn_reg_w_reads refl refl ⨾
    shifted eor_reg_w 20 (slot 106 0) (slot 106 2) (slot 106 3) (slot 106 4) (slot 106 5) (slot 106 6) (slot 106 1).limit (slot 106 7).limit eor_reg_w_reads refl refl ⨾
    shifted teq_reg_w 29 (slot 107 0) (slot 107 2) (slot 107 3) (slot 107 4) (slot 107 5) (slot 107 6) (slot 107 1).limit (slot 107 7).limit teq_reg_w_reads refl refl ⨾
    shifted add_reg_w 21 (slot 108 0) (slot 108 2) (slot 108 3) (slot 108 4) (slot 108 5) (slot 108 6) (slot 108 1).limit (slot 108 7).limit add_reg_w_reads refl refl ⨾
    shifted cmn_reg_w 30 (slot 109 0) (slot 109 2) (slot 109 3) (slot 109 4) (slot 109 5) (slot 109 6) (slot 109 1).limit (slot 109 7).limit cmn_reg_w_reads refl refl ⨾
    shifted adc_reg_w 22 (slot 110 0) (slot 110 2) (slot 110 3) (slot 110 4) (slot 110 5) (slot 110 6) (slot 110 1).limit (slot 110 7).limit adc_reg_w_reads refl refl ⨾
    shifted sbc_reg_w 23 (slot 111 0) (slot 111 2) (slot 111 3) (slot 111 4) (slot 111 5) (slot 111 6) (slot 111 1).limit (slot 111 7).limit sbc_reg_w_reads refl refl ⨾
    shifted sub_reg_w 24 (slot 112 0) (slot 112 2) (slot 112 3) (slot 112 4) (slot 112 5) (slot 112 6) (slot 112 1).limit (slot 112 7).limit sub_reg_w_reads refl refl ⨾
    shifted cmp_reg_w 31 (slot 113 0) (slot 113 2) (slot 113 3) (slot 113 4) (slot 113 5) (slot 113 6) (slot 113 1).limit (slot 113 7).limit cmp_reg_w_reads refl refl ⨾
    shifted rsb_reg_w 25 (slot 114 0) (slot 114 2) (slot 114 3) (slot 114 4) (slot 114 5) (slot 114 6) (slot 114 1).limit (slot 114 7).limit rsb_reg_w_reads refl refl ⨾
    regular and_imm_w 0 (shape 115) and_imm_w_reads refl refl ⨾
    regular tst_imm_w 12 (shape 116) tst_imm_w_reads refl refl ⨾
    regular bic_imm_w 1 (shape 117) bic_imm_w_reads refl refl ⨾
    regular orr_imm_w 2 (shape 118) orr_imm_w_reads refl refl ⨾
    regular mov_imm_w 10 (shape 119) mov_imm_w_reads refl refl ⨾
    regular orn_imm_w 3 (shape 120) orn_imm_w_reads refl refl ⨾
    regular mvn_imm_w 11 (shape 121) mvn_imm_w_reads refl refl ⨾
    regular eor_imm_w 4 (shape 122) eor_imm_w_reads refl refl ⨾
    regular teq_imm_w 13 (shape 123) teq_imm_w_reads refl refl ⨾
    regular add_imm_w 5 (shape 124) add_imm_w_reads refl refl ⨾
    regular cmn_imm_w 14 (shape 125) cmn_imm_w_reads refl refl ⨾
    regular adc_imm_w 6 (shape 126) adc_imm_w_reads refl refl ⨾
    regular sbc_imm_w 7 (shape 127) sbc_imm_w_reads refl refl ⨾
    regular sub_imm_w 8 (shape 128) sub_imm_w_reads refl refl ⨾
    regular cmp_imm_w 15 (shape 129) cmp_imm_w_reads refl refl ⨾
    regular rsb_imm_w 9 (shape 130) rsb_imm_w_reads refl refl ⨾
    regular addw 33 (shape 131) addw_reads refl refl ⨾
    regular subw 33 (shape 132) subw_reads refl refl ⨾
    regular adr_after 34 (shape 133) adr_after_reads refl refl ⨾
    regular adr_before 34 (shape 134) adr_before_reads refl refl ⨾
    regular movw 35 (shape 135) movw_reads refl refl ⨾
    regular ssat 36 (shape 136) ssat_reads refl refl ⨾
    regular usat 36 (shape 137) usat_reads refl refl ⨾
    regular sbfx 37 (shape 138) sbfx_reads refl refl ⨾
    regular ubfx 38 (shape 139) ubfx_reads refl refl ⨾
    written_by bfi 39 (shape 140) bfi_reads bfi_written refl ⨾
    written_by bfc 40 (shape 141) bfc_reads bfc_written refl ⨾
    tt
