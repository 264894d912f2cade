-- The rows of 16 bits without limits.
use Rattle.std.proofs.Common.{refl}
use Rattle.tz_table.specs.NarrowRows.{lsl_imm, lsr_imm, asr_imm, add_reg, sub_reg, add_imm3, sub_imm3, mov_imm8, cmp_imm8, add_imm8, sub_imm8, and_low, eor_low, lsl_low, lsr_low, asr_low, adc_low, sbc_low, ror_low, tst_low, rsb_low, cmp_low, cmn_low, orr_low, mul_low, bic_low, mvn_low, mov_high, ldr_literal, str_index, strh_index, strb_index, ldrsb_index, ldr_index, ldrh_index, ldrb_index, ldrsh_index, str_offset, ldr_offset, strb_offset, ldrb_offset, strh_offset, ldrh_offset, str_sp, ldr_sp, adr, add_sp_imm8, sxth, sxtb, uxth, uxtb, rev, rev16, revsh, bkpt, hint, udf, svc, branch}
use Rattle.tz_encode.proofs.Reading.{Reads, shape, read_alone}

pub lsl_imm_reads : Reads lsl_imm 26 (shape 0)
lsl_imm_reads = read_alone lsl_imm 26 (shape 0) (λ f s. refl) (λ f s. refl) refl

pub lsr_imm_reads : Reads lsr_imm 26 (shape 1)
lsr_imm_reads = read_alone lsr_imm 26 (shape 1) (λ f s. refl) (λ f s. refl) refl

pub asr_imm_reads : Reads asr_imm 26 (shape 2)
asr_imm_reads = read_alone asr_imm 26 (shape 2) (λ f s. refl) (λ f s. refl) refl

pub add_reg_reads : Reads add_reg 21 (shape 3)
add_reg_reads = read_alone add_reg 21 (shape 3) (λ f s. refl) (λ f s. refl) refl

pub sub_reg_reads : Reads sub_reg 24 (shape 4)
sub_reg_reads = read_alone sub_reg 24 (shape 4) (λ f s. refl) (λ f s. refl) refl

pub add_imm3_reads : Reads add_imm3 5 (shape 5)
add_imm3_reads = read_alone add_imm3 5 (shape 5) (λ f s. refl) (λ f s. refl) refl

pub sub_imm3_reads : Reads sub_imm3 8 (shape 6)
sub_imm3_reads = read_alone sub_imm3 8 (shape 6) (λ f s. refl) (λ f s. refl) refl

pub mov_imm8_reads : Reads mov_imm8 10 (shape 7)
mov_imm8_reads = read_alone mov_imm8 10 (shape 7) (λ f s. refl) (λ f s. refl) refl

pub cmp_imm8_reads : Reads cmp_imm8 15 (shape 8)
cmp_imm8_reads = read_alone cmp_imm8 15 (shape 8) (λ f s. refl) (λ f s. refl) refl

pub add_imm8_reads : Reads add_imm8 5 (shape 9)
add_imm8_reads = read_alone add_imm8 5 (shape 9) (λ f s. refl) (λ f s. refl) refl

pub sub_imm8_reads : Reads sub_imm8 8 (shape 10)
sub_imm8_reads = read_alone sub_imm8 8 (shape 10) (λ f s. refl) (λ f s. refl) refl

pub and_low_reads : Reads and_low 16 (shape 11)
and_low_reads = read_alone and_low 16 (shape 11) (λ f s. refl) (λ f s. refl) refl

pub eor_low_reads : Reads eor_low 20 (shape 12)
eor_low_reads = read_alone eor_low 20 (shape 12) (λ f s. refl) (λ f s. refl) refl

pub lsl_low_reads : Reads lsl_low 32 (shape 13)
lsl_low_reads = read_alone lsl_low 32 (shape 13) (λ f s. refl) (λ f s. refl) refl

pub lsr_low_reads : Reads lsr_low 32 (shape 14)
lsr_low_reads = read_alone lsr_low 32 (shape 14) (λ f s. refl) (λ f s. refl) refl

pub asr_low_reads : Reads asr_low 32 (shape 15)
asr_low_reads = read_alone asr_low 32 (shape 15) (λ f s. refl) (λ f s. refl) refl

pub adc_low_reads : Reads adc_low 22 (shape 16)
adc_low_reads = read_alone adc_low 22 (shape 16) (λ f s. refl) (λ f s. refl) refl

pub sbc_low_reads : Reads sbc_low 23 (shape 17)
sbc_low_reads = read_alone sbc_low 23 (shape 17) (λ f s. refl) (λ f s. refl) refl

pub ror_low_reads : Reads ror_low 32 (shape 18)
ror_low_reads = read_alone ror_low 32 (shape 18) (λ f s. refl) (λ f s. refl) refl

pub tst_low_reads : Reads tst_low 28 (shape 19)
tst_low_reads = read_alone tst_low 28 (shape 19) (λ f s. refl) (λ f s. refl) refl

pub rsb_low_reads : Reads rsb_low 9 (shape 20)
rsb_low_reads = read_alone rsb_low 9 (shape 20) (λ f s. refl) (λ f s. refl) refl

pub cmp_low_reads : Reads cmp_low 31 (shape 21)
cmp_low_reads = read_alone cmp_low 31 (shape 21) (λ f s. refl) (λ f s. refl) refl

pub cmn_low_reads : Reads cmn_low 30 (shape 22)
cmn_low_reads = read_alone cmn_low 30 (shape 22) (λ f s. refl) (λ f s. refl) refl

pub orr_low_reads : Reads orr_low 18 (shape 23)
orr_low_reads = read_alone orr_low 18 (shape 23) (λ f s. refl) (λ f s. refl) refl

pub mul_low_reads : Reads mul_low 50 (shape 24)
mul_low_reads = read_alone mul_low 50 (shape 24) (λ f s. refl) (λ f s. refl) refl

pub bic_low_reads : Reads bic_low 17 (shape 25)
bic_low_reads = read_alone bic_low 17 (shape 25) (λ f s. refl) (λ f s. refl) refl

pub mvn_low_reads : Reads mvn_low 27 (shape 26)
mvn_low_reads = read_alone mvn_low 27 (shape 26) (λ f s. refl) (λ f s. refl) refl

pub mov_high_reads : Reads mov_high 26 (shape 29)
mov_high_reads = read_alone mov_high 26 (shape 29) (λ f s. refl) (λ f s. refl) refl

pub ldr_literal_reads : Reads ldr_literal 58 (shape 32)
ldr_literal_reads = read_alone ldr_literal 58 (shape 32) (λ f s. refl) (λ f s. refl) refl

pub str_index_reads : Reads str_index 59 (shape 33)
str_index_reads = read_alone str_index 59 (shape 33) (λ f s. refl) (λ f s. refl) refl

pub strh_index_reads : Reads strh_index 59 (shape 34)
strh_index_reads = read_alone strh_index 59 (shape 34) (λ f s. refl) (λ f s. refl) refl

pub strb_index_reads : Reads strb_index 59 (shape 35)
strb_index_reads = read_alone strb_index 59 (shape 35) (λ f s. refl) (λ f s. refl) refl

pub ldrsb_index_reads : Reads ldrsb_index 58 (shape 36)
ldrsb_index_reads = read_alone ldrsb_index 58 (shape 36) (λ f s. refl) (λ f s. refl) refl

pub ldr_index_reads : Reads ldr_index 58 (shape 37)
ldr_index_reads = read_alone ldr_index 58 (shape 37) (λ f s. refl) (λ f s. refl) refl

pub ldrh_index_reads : Reads ldrh_index 58 (shape 38)
ldrh_index_reads = read_alone ldrh_index 58 (shape 38) (λ f s. refl) (λ f s. refl) refl

pub ldrb_index_reads : Reads ldrb_index 58 (shape 39)
ldrb_index_reads = read_alone ldrb_index 58 (shape 39) (λ f s. refl) (λ f s. refl) refl

pub ldrsh_index_reads : Reads ldrsh_index 58 (shape 40)
ldrsh_index_reads = read_alone ldrsh_index 58 (shape 40) (λ f s. refl) (λ f s. refl) refl

pub str_offset_reads : Reads str_offset 59 (shape 41)
str_offset_reads = read_alone str_offset 59 (shape 41) (λ f s. refl) (λ f s. refl) refl

pub ldr_offset_reads : Reads ldr_offset 58 (shape 42)
ldr_offset_reads = read_alone ldr_offset 58 (shape 42) (λ f s. refl) (λ f s. refl) refl

pub strb_offset_reads : Reads strb_offset 59 (shape 43)
strb_offset_reads = read_alone strb_offset 59 (shape 43) (λ f s. refl) (λ f s. refl) refl

pub ldrb_offset_reads : Reads ldrb_offset 58 (shape 44)
ldrb_offset_reads = read_alone ldrb_offset 58 (shape 44) (λ f s. refl) (λ f s. refl) refl

pub strh_offset_reads : Reads strh_offset 59 (shape 45)
strh_offset_reads = read_alone strh_offset 59 (shape 45) (λ f s. refl) (λ f s. refl) refl

pub ldrh_offset_reads : Reads ldrh_offset 58 (shape 46)
ldrh_offset_reads = read_alone ldrh_offset 58 (shape 46) (λ f s. refl) (λ f s. refl) refl

pub str_sp_reads : Reads str_sp 59 (shape 47)
str_sp_reads = read_alone str_sp 59 (shape 47) (λ f s. refl) (λ f s. refl) refl

pub ldr_sp_reads : Reads ldr_sp 58 (shape 48)
ldr_sp_reads = read_alone ldr_sp 58 (shape 48) (λ f s. refl) (λ f s. refl) refl

pub adr_reads : Reads adr 34 (shape 49)
adr_reads = read_alone adr 34 (shape 49) (λ f s. refl) (λ f s. refl) refl

pub add_sp_imm8_reads : Reads add_sp_imm8 33 (shape 50)
add_sp_imm8_reads = read_alone add_sp_imm8 33 (shape 50) (λ f s. refl) (λ f s. refl) refl

pub sxth_reads : Reads sxth 41 (shape 53)
sxth_reads = read_alone sxth 41 (shape 53) (λ f s. refl) (λ f s. refl) refl

pub sxtb_reads : Reads sxtb 42 (shape 54)
sxtb_reads = read_alone sxtb 42 (shape 54) (λ f s. refl) (λ f s. refl) refl

pub uxth_reads : Reads uxth 43 (shape 55)
uxth_reads = read_alone uxth 43 (shape 55) (λ f s. refl) (λ f s. refl) refl

pub uxtb_reads : Reads uxtb 44 (shape 56)
uxtb_reads = read_alone uxtb 44 (shape 56) (λ f s. refl) (λ f s. refl) refl

pub rev_reads : Reads rev 45 (shape 60)
rev_reads = read_alone rev 45 (shape 60) (λ f s. refl) (λ f s. refl) refl

pub rev16_reads : Reads rev16 46 (shape 61)
rev16_reads = read_alone rev16 46 (shape 61) (λ f s. refl) (λ f s. refl) refl

pub revsh_reads : Reads revsh 48 (shape 62)
revsh_reads = read_alone revsh 48 (shape 62) (λ f s. refl) (λ f s. refl) refl

pub bkpt_reads : Reads bkpt 89 (shape 63)
bkpt_reads = read_alone bkpt 89 (shape 63) (λ f s. refl) (λ f s. refl) refl

pub hint_reads : Reads hint 77 (shape 65)
hint_reads = read_alone hint 77 (shape 65) (λ f s. refl) (λ f s. refl) refl

pub udf_reads : Reads udf 90 (shape 69)
udf_reads = read_alone udf 90 (shape 69) (λ f s. refl) (λ f s. refl) refl

pub svc_reads : Reads svc 88 (shape 70)
svc_reads = read_alone svc 88 (shape 70) (λ f s. refl) (λ f s. refl) refl

pub branch_reads : Reads branch 69 (shape 71)
branch_reads = read_alone branch 69 (shape 71) (λ f s. refl) (λ f s. refl) refl
