-- The instructions of each row of the instruction table have a text.
use Rattle.tz_table.specs.Table.{rows}
use Rattle.tz_text.proofs.TextGroups.{EachIsSpelled, ◌▹◌}
use Rattle.tz_text.proofs.NarrowSpelled as narrow
use Rattle.tz_text.proofs.MultipleSpelled as multiples
use Rattle.tz_text.proofs.DataSpelled as data_rows
use Rattle.tz_text.proofs.BranchSpelled as branches
use Rattle.tz_text.proofs.LoadSpelled as loads
use Rattle.tz_text.proofs.ArithmeticSpelled as arithmetic

pub all_spelled : EachIsSpelled rows
unfolding rows
all_spelled =
    narrow.lsl_imm ▹ narrow.lsr_imm ▹ narrow.asr_imm ▹ narrow.add_reg ▹ narrow.sub_reg ▹ narrow.add_imm3 ▹
    narrow.sub_imm3 ▹ narrow.mov_imm8 ▹ narrow.cmp_imm8 ▹ narrow.add_imm8 ▹ narrow.sub_imm8 ▹ narrow.and_low ▹
    narrow.eor_low ▹ narrow.lsl_low ▹ narrow.lsr_low ▹ narrow.asr_low ▹ narrow.adc_low ▹ narrow.sbc_low ▹
    narrow.ror_low ▹ narrow.tst_low ▹ narrow.rsb_low ▹ narrow.cmp_low ▹ narrow.cmn_low ▹ narrow.orr_low ▹
    narrow.mul_low ▹ narrow.bic_low ▹ narrow.mvn_low ▹ narrow.add_high ▹ narrow.cmp_high ▹ narrow.mov_high ▹
    narrow.bx ▹ narrow.blx ▹ narrow.ldr_literal ▹ narrow.str_index ▹ narrow.strh_index ▹ narrow.strb_index ▹
    narrow.ldrsb_index ▹ narrow.ldr_index ▹ narrow.ldrh_index ▹ narrow.ldrb_index ▹ narrow.ldrsh_index ▹
    narrow.str_offset ▹ narrow.ldr_offset ▹ narrow.strb_offset ▹ narrow.ldrb_offset ▹ narrow.strh_offset ▹
    narrow.ldrh_offset ▹ narrow.str_sp ▹ narrow.ldr_sp ▹ narrow.adr ▹ narrow.add_sp_imm8 ▹ narrow.add_sp_imm7 ▹
    narrow.cbz ▹ narrow.sxth ▹ narrow.sxtb ▹ narrow.uxth ▹ narrow.uxtb ▹ narrow.push ▹ narrow.pop ▹ narrow.cps ▹
    narrow.rev ▹ narrow.rev16 ▹ narrow.revsh ▹ narrow.bkpt ▹ narrow.if_then ▹ narrow.hint ▹ narrow.stm ▹
    narrow.ldm ▹ narrow.bcond ▹ narrow.udf ▹ narrow.svc ▹ narrow.branch ▹ multiples.ldm_w ▹ multiples.stm_w ▹
    multiples.ldmdb ▹ multiples.stmdb ▹ multiples.ldrd ▹ multiples.strd ▹ multiples.ldrd_literal ▹
    multiples.strex ▹ multiples.tt ▹ multiples.ldrex ▹ multiples.strexb ▹ multiples.strexh ▹ multiples.stlb ▹
    multiples.stlh ▹ multiples.stl ▹ multiples.stlexb ▹ multiples.stlexh ▹ multiples.stlex ▹ multiples.ldrexb ▹
    multiples.ldrexh ▹ multiples.ldab ▹ multiples.ldah ▹ multiples.lda ▹ multiples.ldaexb ▹ multiples.ldaexh ▹
    multiples.ldaex ▹ multiples.tbb ▹ data_rows.and_reg_w ▹ data_rows.tst_reg_w ▹ data_rows.bic_reg_w ▹
    data_rows.orr_reg_w ▹ data_rows.mov_reg_w ▹ data_rows.orn_reg_w ▹ data_rows.mvn_reg_w ▹ data_rows.eor_reg_w ▹
    data_rows.teq_reg_w ▹ data_rows.add_reg_w ▹ data_rows.cmn_reg_w ▹ data_rows.adc_reg_w ▹ data_rows.sbc_reg_w ▹
    data_rows.sub_reg_w ▹ data_rows.cmp_reg_w ▹ data_rows.rsb_reg_w ▹ data_rows.and_imm_w ▹ data_rows.tst_imm_w ▹
    data_rows.bic_imm_w ▹ data_rows.orr_imm_w ▹ data_rows.mov_imm_w ▹ data_rows.orn_imm_w ▹ data_rows.mvn_imm_w ▹
    data_rows.eor_imm_w ▹ data_rows.teq_imm_w ▹ data_rows.add_imm_w ▹ data_rows.cmn_imm_w ▹ data_rows.adc_imm_w ▹
    data_rows.sbc_imm_w ▹ data_rows.sub_imm_w ▹ data_rows.cmp_imm_w ▹ data_rows.rsb_imm_w ▹ data_rows.addw ▹
    data_rows.subw ▹ data_rows.adr_after ▹ data_rows.adr_before ▹ data_rows.movw ▹ data_rows.ssat ▹
    data_rows.usat ▹ data_rows.sbfx ▹ data_rows.ubfx ▹ data_rows.bfi ▹ data_rows.bfc ▹ branches.bcond_w ▹
    branches.branch_w ▹ branches.bl ▹ branches.msr ▹ branches.mrs ▹ branches.hint_w ▹ branches.clrex ▹
    branches.dsb ▹ branches.dmb ▹ branches.isb ▹ branches.udf_w ▹ loads.ldr_imm12 ▹ loads.str_imm12 ▹
    loads.pld_imm12 ▹ loads.ldr_negative ▹ loads.str_negative ▹ loads.pld_negative ▹ loads.ldrt ▹ loads.strt ▹
    loads.ldr_back ▹ loads.str_back ▹ loads.ldr_index_w ▹ loads.str_index_w ▹ loads.pld_index ▹
    loads.ldr_literal_w ▹ loads.pld_literal ▹ arithmetic.shift_reg_w ▹ arithmetic.sxth_w ▹ arithmetic.uxth_w ▹
    arithmetic.sxtb_w ▹ arithmetic.uxtb_w ▹ arithmetic.rev_w ▹ arithmetic.rev16_w ▹ arithmetic.rbit ▹
    arithmetic.revsh_w ▹ arithmetic.clz ▹ arithmetic.mla ▹ arithmetic.mul_w ▹ arithmetic.mls ▹ arithmetic.smull ▹
    arithmetic.umull ▹ arithmetic.smlal ▹ arithmetic.umlal ▹ arithmetic.sdiv ▹ arithmetic.udiv ▹ arithmetic.sg ▹
    arithmetic.vlstm ▹ tt
