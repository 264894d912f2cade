-- What the limits of each row are, by its number.
use Rattle.std.proofs.Common.{◌≡◌, ℕ, true, false, refl, ap, ◌∙◌}
use Rattle.std.specs.Prelude.{◌==◌, ◌||◌, if◌then◌else◌}
use Rattle.tz_table.specs.Fields.{bits}
use Rattle.tz_table.specs.Limits.{can_add_high, can_begin, can_compare_high, can_exchange, can_store_many, not_zero}
use Rattle.tz_table.specs.Rows.{limits_at}
use Rattle.tz_table.specs.Table.{rows}
use Rattle.tz_table.specs.Terms.{high_register}

-- ---- from_lsl_imm

pub lsl_imm_limits : (f s : ℕ) → limits_at rows 0 f s ≡ true
unfolding rows
lsl_imm_limits f s = refl

pub lsr_imm_limits : (f s : ℕ) → limits_at rows 1 f s ≡ true
unfolding rows
lsr_imm_limits f s = refl

pub asr_imm_limits : (f s : ℕ) → limits_at rows 2 f s ≡ true
unfolding rows
asr_imm_limits f s = refl

pub add_reg_limits : (f s : ℕ) → limits_at rows 3 f s ≡ true
unfolding rows
add_reg_limits f s = refl

pub sub_reg_limits : (f s : ℕ) → limits_at rows 4 f s ≡ true
unfolding rows
sub_reg_limits f s = refl

pub add_imm3_limits : (f s : ℕ) → limits_at rows 5 f s ≡ true
unfolding rows
add_imm3_limits f s = refl

pub sub_imm3_limits : (f s : ℕ) → limits_at rows 6 f s ≡ true
unfolding rows
sub_imm3_limits f s = refl

pub mov_imm8_limits : (f s : ℕ) → limits_at rows 7 f s ≡ true
unfolding rows
mov_imm8_limits f s = refl

pub mov_imm8_last : (k f s : ℕ) → k ≡ 7 → limits_at rows k f s ≡ true
mov_imm8_last k f s e = ap (λ j. limits_at rows j f s) e ∙ mov_imm8_limits f s

pub ruleset from_lsl_imm_limits = (lsl_imm_limits, lsr_imm_limits, asr_imm_limits, add_reg_limits, sub_reg_limits, add_imm3_limits, sub_imm3_limits, mov_imm8_limits, mov_imm8_last)

-- ---- from_cmp_imm8

pub cmp_imm8_limits : (f s : ℕ) → limits_at rows 8 f s ≡ true
unfolding rows
cmp_imm8_limits f s = refl

pub add_imm8_limits : (f s : ℕ) → limits_at rows 9 f s ≡ true
unfolding rows
add_imm8_limits f s = refl

pub sub_imm8_limits : (f s : ℕ) → limits_at rows 10 f s ≡ true
unfolding rows
sub_imm8_limits f s = refl

pub and_low_limits : (f s : ℕ) → limits_at rows 11 f s ≡ true
unfolding rows
and_low_limits f s = refl

pub eor_low_limits : (f s : ℕ) → limits_at rows 12 f s ≡ true
unfolding rows
eor_low_limits f s = refl

pub lsl_low_limits : (f s : ℕ) → limits_at rows 13 f s ≡ true
unfolding rows
lsl_low_limits f s = refl

pub lsr_low_limits : (f s : ℕ) → limits_at rows 14 f s ≡ true
unfolding rows
lsr_low_limits f s = refl

pub asr_low_limits : (f s : ℕ) → limits_at rows 15 f s ≡ true
unfolding rows
asr_low_limits f s = refl

pub asr_low_last : (k f s : ℕ) → k ≡ 15 → limits_at rows k f s ≡ true
asr_low_last k f s e = ap (λ j. limits_at rows j f s) e ∙ asr_low_limits f s

pub ruleset from_cmp_imm8_limits = (cmp_imm8_limits, add_imm8_limits, sub_imm8_limits, and_low_limits, eor_low_limits, lsl_low_limits, lsr_low_limits, asr_low_limits, asr_low_last)

-- ---- from_adc_low

pub adc_low_limits : (f s : ℕ) → limits_at rows 16 f s ≡ true
unfolding rows
adc_low_limits f s = refl

pub sbc_low_limits : (f s : ℕ) → limits_at rows 17 f s ≡ true
unfolding rows
sbc_low_limits f s = refl

pub ror_low_limits : (f s : ℕ) → limits_at rows 18 f s ≡ true
unfolding rows
ror_low_limits f s = refl

pub tst_low_limits : (f s : ℕ) → limits_at rows 19 f s ≡ true
unfolding rows
tst_low_limits f s = refl

pub rsb_low_limits : (f s : ℕ) → limits_at rows 20 f s ≡ true
unfolding rows
rsb_low_limits f s = refl

pub cmp_low_limits : (f s : ℕ) → limits_at rows 21 f s ≡ true
unfolding rows
cmp_low_limits f s = refl

pub cmn_low_limits : (f s : ℕ) → limits_at rows 22 f s ≡ true
unfolding rows
cmn_low_limits f s = refl

pub orr_low_limits : (f s : ℕ) → limits_at rows 23 f s ≡ true
unfolding rows
orr_low_limits f s = refl

pub orr_low_last : (k f s : ℕ) → k ≡ 23 → limits_at rows k f s ≡ true
orr_low_last k f s e = ap (λ j. limits_at rows j f s) e ∙ orr_low_limits f s

pub ruleset from_adc_low_limits = (adc_low_limits, sbc_low_limits, ror_low_limits, tst_low_limits, rsb_low_limits, cmp_low_limits, cmn_low_limits, orr_low_limits, orr_low_last)

-- ---- from_mul_low

pub mul_low_limits : (f s : ℕ) → limits_at rows 24 f s ≡ true
unfolding rows
mul_low_limits f s = refl

pub bic_low_limits : (f s : ℕ) → limits_at rows 25 f s ≡ true
unfolding rows
bic_low_limits f s = refl

pub mvn_low_limits : (f s : ℕ) → limits_at rows 26 f s ≡ true
unfolding rows
mvn_low_limits f s = refl

pub add_high_limits : (f s : ℕ) → limits_at rows 27 f s ≡ can_add_high (high_register f) (bits f 3 4)
unfolding rows
add_high_limits f s = refl

pub cmp_high_limits : (f s : ℕ) → limits_at rows 28 f s ≡ can_compare_high (high_register f) (bits f 3 4)
unfolding rows
cmp_high_limits f s = refl

pub mov_high_limits : (f s : ℕ) → limits_at rows 29 f s ≡ true
unfolding rows
mov_high_limits f s = refl

pub bx_limits : (f s : ℕ) → limits_at rows 30 f s ≡ can_exchange (bits f 3 4) (bits f 2 1)
unfolding rows
bx_limits f s = refl

pub blx_limits : (f s : ℕ) → limits_at rows 31 f s ≡ can_exchange (bits f 3 4) (bits f 2 1)
unfolding rows
blx_limits f s = refl

pub blx_last : (k f s : ℕ) → k ≡ 31 → limits_at rows k f s ≡ can_exchange (bits f 3 4) (bits f 2 1)
blx_last k f s e = ap (λ j. limits_at rows j f s) e ∙ blx_limits f s

pub ruleset from_mul_low_limits = (mul_low_limits, bic_low_limits, mvn_low_limits, add_high_limits, cmp_high_limits, mov_high_limits, bx_limits, blx_limits, blx_last)

-- ---- from_ldr_literal

pub ldr_literal_limits : (f s : ℕ) → limits_at rows 32 f s ≡ true
unfolding rows
ldr_literal_limits f s = refl

pub str_index_limits : (f s : ℕ) → limits_at rows 33 f s ≡ true
unfolding rows
str_index_limits f s = refl

pub strh_index_limits : (f s : ℕ) → limits_at rows 34 f s ≡ true
unfolding rows
strh_index_limits f s = refl

pub strb_index_limits : (f s : ℕ) → limits_at rows 35 f s ≡ true
unfolding rows
strb_index_limits f s = refl

pub ldrsb_index_limits : (f s : ℕ) → limits_at rows 36 f s ≡ true
unfolding rows
ldrsb_index_limits f s = refl

pub ldr_index_limits : (f s : ℕ) → limits_at rows 37 f s ≡ true
unfolding rows
ldr_index_limits f s = refl

pub ldrh_index_limits : (f s : ℕ) → limits_at rows 38 f s ≡ true
unfolding rows
ldrh_index_limits f s = refl

pub ldrb_index_limits : (f s : ℕ) → limits_at rows 39 f s ≡ true
unfolding rows
ldrb_index_limits f s = refl

pub ldrb_index_last : (k f s : ℕ) → k ≡ 39 → limits_at rows k f s ≡ true
ldrb_index_last k f s e = ap (λ j. limits_at rows j f s) e ∙ ldrb_index_limits f s

pub ruleset from_ldr_literal_limits = (ldr_literal_limits, str_index_limits, strh_index_limits, strb_index_limits, ldrsb_index_limits, ldr_index_limits, ldrh_index_limits, ldrb_index_limits, ldrb_index_last)

-- ---- from_ldrsh_index

pub ldrsh_index_limits : (f s : ℕ) → limits_at rows 40 f s ≡ true
unfolding rows
ldrsh_index_limits f s = refl

pub str_offset_limits : (f s : ℕ) → limits_at rows 41 f s ≡ true
unfolding rows
str_offset_limits f s = refl

pub ldr_offset_limits : (f s : ℕ) → limits_at rows 42 f s ≡ true
unfolding rows
ldr_offset_limits f s = refl

pub strb_offset_limits : (f s : ℕ) → limits_at rows 43 f s ≡ true
unfolding rows
strb_offset_limits f s = refl

pub ldrb_offset_limits : (f s : ℕ) → limits_at rows 44 f s ≡ true
unfolding rows
ldrb_offset_limits f s = refl

pub strh_offset_limits : (f s : ℕ) → limits_at rows 45 f s ≡ true
unfolding rows
strh_offset_limits f s = refl

pub ldrh_offset_limits : (f s : ℕ) → limits_at rows 46 f s ≡ true
unfolding rows
ldrh_offset_limits f s = refl

pub str_sp_limits : (f s : ℕ) → limits_at rows 47 f s ≡ true
unfolding rows
str_sp_limits f s = refl

pub str_sp_last : (k f s : ℕ) → k ≡ 47 → limits_at rows k f s ≡ true
str_sp_last k f s e = ap (λ j. limits_at rows j f s) e ∙ str_sp_limits f s

pub ruleset from_ldrsh_index_limits = (ldrsh_index_limits, str_offset_limits, ldr_offset_limits, strb_offset_limits, ldrb_offset_limits, strh_offset_limits, ldrh_offset_limits, str_sp_limits, str_sp_last)

-- ---- from_ldr_sp

pub ldr_sp_limits : (f s : ℕ) → limits_at rows 48 f s ≡ true
unfolding rows
ldr_sp_limits f s = refl

pub adr_limits : (f s : ℕ) → limits_at rows 49 f s ≡ true
unfolding rows
adr_limits f s = refl

pub add_sp_imm8_limits : (f s : ℕ) → limits_at rows 50 f s ≡ true
unfolding rows
add_sp_imm8_limits f s = refl

pub add_sp_imm7_limits : (f s : ℕ) → limits_at rows 51 f s ≡ true
unfolding rows
add_sp_imm7_limits f s = refl

pub cbz_limits : (f s : ℕ) → limits_at rows 52 f s ≡ true
unfolding rows
cbz_limits f s = refl

pub sxth_limits : (f s : ℕ) → limits_at rows 53 f s ≡ true
unfolding rows
sxth_limits f s = refl

pub sxtb_limits : (f s : ℕ) → limits_at rows 54 f s ≡ true
unfolding rows
sxtb_limits f s = refl

pub uxth_limits : (f s : ℕ) → limits_at rows 55 f s ≡ true
unfolding rows
uxth_limits f s = refl

pub uxth_last : (k f s : ℕ) → k ≡ 55 → limits_at rows k f s ≡ true
uxth_last k f s e = ap (λ j. limits_at rows j f s) e ∙ uxth_limits f s

pub ruleset from_ldr_sp_limits = (ldr_sp_limits, adr_limits, add_sp_imm8_limits, add_sp_imm7_limits, cbz_limits, sxth_limits, sxtb_limits, uxth_limits, uxth_last)

-- ---- from_uxtb

pub uxtb_limits : (f s : ℕ) → limits_at rows 56 f s ≡ true
unfolding rows
uxtb_limits f s = refl

pub push_limits : (f s : ℕ) → limits_at rows 57 f s ≡ not_zero (bits f 0 9)
unfolding rows
push_limits f s = refl

pub pop_limits : (f s : ℕ) → limits_at rows 58 f s ≡ not_zero (bits f 0 9)
unfolding rows
pop_limits f s = refl

pub cps_limits : (f s : ℕ) → limits_at rows 59 f s ≡ not_zero (bits f 0 2)
unfolding rows
cps_limits f s = refl

pub rev_limits : (f s : ℕ) → limits_at rows 60 f s ≡ true
unfolding rows
rev_limits f s = refl

pub rev16_limits : (f s : ℕ) → limits_at rows 61 f s ≡ true
unfolding rows
rev16_limits f s = refl

pub revsh_limits : (f s : ℕ) → limits_at rows 62 f s ≡ true
unfolding rows
revsh_limits f s = refl

pub bkpt_limits : (f s : ℕ) → limits_at rows 63 f s ≡ true
unfolding rows
bkpt_limits f s = refl

pub bkpt_last : (k f s : ℕ) → k ≡ 63 → limits_at rows k f s ≡ true
bkpt_last k f s e = ap (λ j. limits_at rows j f s) e ∙ bkpt_limits f s

pub ruleset from_uxtb_limits = (uxtb_limits, push_limits, pop_limits, cps_limits, rev_limits, rev16_limits, revsh_limits, bkpt_limits, bkpt_last)

-- ---- from_if_then

pub if_then_limits : (f s : ℕ) → limits_at rows 64 f s ≡ (if bits f 0 4 == 0 then false else can_begin (bits f 4 4) (bits f 0 4))
unfolding rows
if_then_limits f s = refl

pub hint_limits : (f s : ℕ) → limits_at rows 65 f s ≡ true
unfolding rows
hint_limits f s = refl

pub stm_limits : (f s : ℕ) → limits_at rows 66 f s ≡ can_store_many (bits f 8 3) (bits f 0 8)
unfolding rows
stm_limits f s = refl

pub ldm_limits : (f s : ℕ) → limits_at rows 67 f s ≡ not_zero (bits f 0 8)
unfolding rows
ldm_limits f s = refl

pub bcond_limits : (f s : ℕ) → limits_at rows 68 f s ≡ (if bits f 8 4 == 14 || (bits f 8 4 == 15) then false else true)
unfolding rows
bcond_limits f s = refl

pub udf_limits : (f s : ℕ) → limits_at rows 69 f s ≡ true
unfolding rows
udf_limits f s = refl

pub svc_limits : (f s : ℕ) → limits_at rows 70 f s ≡ true
unfolding rows
svc_limits f s = refl

pub branch_limits : (f s : ℕ) → limits_at rows 71 f s ≡ true
unfolding rows
branch_limits f s = refl

pub branch_last : (k f s : ℕ) → k ≡ 71 → limits_at rows k f s ≡ true
branch_last k f s e = ap (λ j. limits_at rows j f s) e ∙ branch_limits f s

pub ruleset from_if_then_limits = (if_then_limits, hint_limits, stm_limits, ldm_limits, bcond_limits, udf_limits, svc_limits, branch_limits, branch_last)
