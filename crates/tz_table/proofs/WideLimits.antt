-- What the limits of each row are, by its number.
use Rattle.std.proofs.Common.{◌≡◌, ℕ, true, false, refl, ap, ◌∙◌}
use Rattle.std.specs.Prelude.{◌==◌, ◌&&◌, ◌||◌, if◌then◌else◌}
use Rattle.tz_table.specs.Fields.{bits}
use Rattle.tz_table.specs.Limits.{can_add, can_add_constant, can_add_register, can_branch_table, can_clear, can_compare, can_extract, can_insert, can_load, can_load_back, can_load_index, can_load_pair, can_load_pair_literal, can_move, can_move_many, can_multiply_long, can_name, can_saturate, can_set, can_set_from, can_store, can_store_back, can_store_exclusive, can_store_index, can_store_pair, not_pc, plain, plain2, plain2_same, plain3, plain4, plain_base}
use Rattle.tz_table.specs.Rows.{limits_at}
use Rattle.tz_table.specs.Table.{rows}
use Rattle.tz_table.specs.Terms.{imm12_of, imm5_of}

-- ---- from_ldm_w

pub ldm_w_limits : (f s : ℕ) → limits_at rows 72 f s ≡ can_move_many (bits f 5 1) (bits f 0 4) s
unfolding rows
ldm_w_limits f s = refl

pub stm_w_limits : (f s : ℕ) → limits_at rows 73 f s ≡ can_move_many (bits f 5 1) (bits f 0 4) s
unfolding rows
stm_w_limits f s = refl

pub ldmdb_limits : (f s : ℕ) → limits_at rows 74 f s ≡ can_move_many (bits f 5 1) (bits f 0 4) s
unfolding rows
ldmdb_limits f s = refl

pub stmdb_limits : (f s : ℕ) → limits_at rows 75 f s ≡ can_move_many (bits f 5 1) (bits f 0 4) s
unfolding rows
stmdb_limits f s = refl

pub ldrd_limits : (f s : ℕ) → limits_at rows 76 f s ≡ (if (bits f 8 1 == 0 && bits f 5 1 == 0) || (bits f 0 4 == 15) then false else can_load_pair (bits f 5 1) (bits f 0 4) (bits s 12 4) (bits s 8 4))
unfolding rows
ldrd_limits f s = refl

pub strd_limits : (f s : ℕ) → limits_at rows 77 f s ≡ (if (bits f 8 1 == 0 && bits f 5 1 == 0) || (bits f 0 4 == 15) then false else can_store_pair (bits f 5 1) (bits f 0 4) (bits s 12 4) (bits s 8 4))
unfolding rows
strd_limits f s = refl

pub ldrd_literal_limits : (f s : ℕ) → limits_at rows 78 f s ≡ can_load_pair_literal (bits s 12 4) (bits s 8 4)
unfolding rows
ldrd_literal_limits f s = refl

pub strex_limits : (f s : ℕ) → limits_at rows 79 f s ≡ (if bits s 12 4 == 15 then false else can_store_exclusive (bits s 8 4) (bits s 12 4) (bits f 0 4))
unfolding rows
strex_limits f s = refl

pub strex_last : (k f s : ℕ) → k ≡ 79 → limits_at rows k f s ≡ (if bits s 12 4 == 15 then false else can_store_exclusive (bits s 8 4) (bits s 12 4) (bits f 0 4))
strex_last k f s e = ap (λ j. limits_at rows j f s) e ∙ strex_limits f s

pub ruleset from_ldm_w_limits = (ldm_w_limits, stm_w_limits, ldmdb_limits, stmdb_limits, ldrd_limits, strd_limits, ldrd_literal_limits, strex_limits, strex_last)

-- ---- from_tt

pub tt_limits : (f s : ℕ) → limits_at rows 80 f s ≡ plain_base (bits s 8 4) (bits f 0 4)
unfolding rows
tt_limits f s = refl

pub ldrex_limits : (f s : ℕ) → limits_at rows 81 f s ≡ plain_base (bits s 12 4) (bits f 0 4)
unfolding rows
ldrex_limits f s = refl

pub strexb_limits : (f s : ℕ) → limits_at rows 82 f s ≡ can_store_exclusive (bits s 0 4) (bits s 12 4) (bits f 0 4)
unfolding rows
strexb_limits f s = refl

pub strexh_limits : (f s : ℕ) → limits_at rows 83 f s ≡ can_store_exclusive (bits s 0 4) (bits s 12 4) (bits f 0 4)
unfolding rows
strexh_limits f s = refl

pub stlb_limits : (f s : ℕ) → limits_at rows 84 f s ≡ plain_base (bits s 12 4) (bits f 0 4)
unfolding rows
stlb_limits f s = refl

pub stlh_limits : (f s : ℕ) → limits_at rows 85 f s ≡ plain_base (bits s 12 4) (bits f 0 4)
unfolding rows
stlh_limits f s = refl

pub stl_limits : (f s : ℕ) → limits_at rows 86 f s ≡ plain_base (bits s 12 4) (bits f 0 4)
unfolding rows
stl_limits f s = refl

pub stlexb_limits : (f s : ℕ) → limits_at rows 87 f s ≡ can_store_exclusive (bits s 0 4) (bits s 12 4) (bits f 0 4)
unfolding rows
stlexb_limits f s = refl

pub stlexb_last : (k f s : ℕ) → k ≡ 87 → limits_at rows k f s ≡ can_store_exclusive (bits s 0 4) (bits s 12 4) (bits f 0 4)
stlexb_last k f s e = ap (λ j. limits_at rows j f s) e ∙ stlexb_limits f s

pub ruleset from_tt_limits = (tt_limits, ldrex_limits, strexb_limits, strexh_limits, stlb_limits, stlh_limits, stl_limits, stlexb_limits, stlexb_last)

-- ---- from_stlexh

pub stlexh_limits : (f s : ℕ) → limits_at rows 88 f s ≡ can_store_exclusive (bits s 0 4) (bits s 12 4) (bits f 0 4)
unfolding rows
stlexh_limits f s = refl

pub stlex_limits : (f s : ℕ) → limits_at rows 89 f s ≡ can_store_exclusive (bits s 0 4) (bits s 12 4) (bits f 0 4)
unfolding rows
stlex_limits f s = refl

pub ldrexb_limits : (f s : ℕ) → limits_at rows 90 f s ≡ plain_base (bits s 12 4) (bits f 0 4)
unfolding rows
ldrexb_limits f s = refl

pub ldrexh_limits : (f s : ℕ) → limits_at rows 91 f s ≡ plain_base (bits s 12 4) (bits f 0 4)
unfolding rows
ldrexh_limits f s = refl

pub ldab_limits : (f s : ℕ) → limits_at rows 92 f s ≡ plain_base (bits s 12 4) (bits f 0 4)
unfolding rows
ldab_limits f s = refl

pub ldah_limits : (f s : ℕ) → limits_at rows 93 f s ≡ plain_base (bits s 12 4) (bits f 0 4)
unfolding rows
ldah_limits f s = refl

pub lda_limits : (f s : ℕ) → limits_at rows 94 f s ≡ plain_base (bits s 12 4) (bits f 0 4)
unfolding rows
lda_limits f s = refl

pub ldaexb_limits : (f s : ℕ) → limits_at rows 95 f s ≡ plain_base (bits s 12 4) (bits f 0 4)
unfolding rows
ldaexb_limits f s = refl

pub ldaexb_last : (k f s : ℕ) → k ≡ 95 → limits_at rows k f s ≡ plain_base (bits s 12 4) (bits f 0 4)
ldaexb_last k f s e = ap (λ j. limits_at rows j f s) e ∙ ldaexb_limits f s

pub ruleset from_stlexh_limits = (stlexh_limits, stlex_limits, ldrexb_limits, ldrexh_limits, ldab_limits, ldah_limits, lda_limits, ldaexb_limits, ldaexb_last)

-- ---- from_ldaexh

pub ldaexh_limits : (f s : ℕ) → limits_at rows 96 f s ≡ plain_base (bits s 12 4) (bits f 0 4)
unfolding rows
ldaexh_limits f s = refl

pub ldaex_limits : (f s : ℕ) → limits_at rows 97 f s ≡ plain_base (bits s 12 4) (bits f 0 4)
unfolding rows
ldaex_limits f s = refl

pub tbb_limits : (f s : ℕ) → limits_at rows 98 f s ≡ can_branch_table (bits f 0 4) (bits s 0 4)
unfolding rows
tbb_limits f s = refl

pub and_reg_w_limits : (f s : ℕ) → limits_at rows 99 f s ≡ (if bits s 8 4 == 15 then false else plain3 (bits s 8 4) (bits f 0 4) (bits s 0 4))
unfolding rows
and_reg_w_limits f s = refl

pub tst_reg_w_limits : (f s : ℕ) → limits_at rows 100 f s ≡ plain2 (bits f 0 4) (bits s 0 4)
unfolding rows
tst_reg_w_limits f s = refl

pub bic_reg_w_limits : (f s : ℕ) → limits_at rows 101 f s ≡ plain3 (bits s 8 4) (bits f 0 4) (bits s 0 4)
unfolding rows
bic_reg_w_limits f s = refl

pub orr_reg_w_limits : (f s : ℕ) → limits_at rows 102 f s ≡ (if bits f 0 4 == 15 then false else plain3 (bits s 8 4) (bits f 0 4) (bits s 0 4))
unfolding rows
orr_reg_w_limits f s = refl

pub mov_reg_w_limits : (f s : ℕ) → limits_at rows 103 f s ≡ can_move (bits f 4 1) (bits s 8 4) (bits s 0 4) (bits s 4 2) (imm5_of s)
unfolding rows
mov_reg_w_limits f s = refl

pub mov_reg_w_last : (k f s : ℕ) → k ≡ 103 → limits_at rows k f s ≡ can_move (bits f 4 1) (bits s 8 4) (bits s 0 4) (bits s 4 2) (imm5_of s)
mov_reg_w_last k f s e = ap (λ j. limits_at rows j f s) e ∙ mov_reg_w_limits f s

pub ruleset from_ldaexh_limits = (ldaexh_limits, ldaex_limits, tbb_limits, and_reg_w_limits, tst_reg_w_limits, bic_reg_w_limits, orr_reg_w_limits, mov_reg_w_limits, mov_reg_w_last)

-- ---- from_orn_reg_w

pub orn_reg_w_limits : (f s : ℕ) → limits_at rows 104 f s ≡ (if bits f 0 4 == 15 then false else plain3 (bits s 8 4) (bits f 0 4) (bits s 0 4))
unfolding rows
orn_reg_w_limits f s = refl

pub mvn_reg_w_limits : (f s : ℕ) → limits_at rows 105 f s ≡ plain2 (bits s 8 4) (bits s 0 4)
unfolding rows
mvn_reg_w_limits f s = refl

pub eor_reg_w_limits : (f s : ℕ) → limits_at rows 106 f s ≡ (if bits s 8 4 == 15 then false else plain3 (bits s 8 4) (bits f 0 4) (bits s 0 4))
unfolding rows
eor_reg_w_limits f s = refl

pub teq_reg_w_limits : (f s : ℕ) → limits_at rows 107 f s ≡ plain2 (bits f 0 4) (bits s 0 4)
unfolding rows
teq_reg_w_limits f s = refl

pub add_reg_w_limits : (f s : ℕ) → limits_at rows 108 f s ≡ (if bits s 8 4 == 15 then false else can_add_register (bits s 8 4) (bits f 0 4) (bits s 0 4) (bits s 4 2) (imm5_of s))
unfolding rows
add_reg_w_limits f s = refl

pub cmn_reg_w_limits : (f s : ℕ) → limits_at rows 109 f s ≡ plain_base (bits s 0 4) (bits f 0 4)
unfolding rows
cmn_reg_w_limits f s = refl

pub adc_reg_w_limits : (f s : ℕ) → limits_at rows 110 f s ≡ plain3 (bits s 8 4) (bits f 0 4) (bits s 0 4)
unfolding rows
adc_reg_w_limits f s = refl

pub sbc_reg_w_limits : (f s : ℕ) → limits_at rows 111 f s ≡ plain3 (bits s 8 4) (bits f 0 4) (bits s 0 4)
unfolding rows
sbc_reg_w_limits f s = refl

pub sbc_reg_w_last : (k f s : ℕ) → k ≡ 111 → limits_at rows k f s ≡ plain3 (bits s 8 4) (bits f 0 4) (bits s 0 4)
sbc_reg_w_last k f s e = ap (λ j. limits_at rows j f s) e ∙ sbc_reg_w_limits f s

pub ruleset from_orn_reg_w_limits = (orn_reg_w_limits, mvn_reg_w_limits, eor_reg_w_limits, teq_reg_w_limits, add_reg_w_limits, cmn_reg_w_limits, adc_reg_w_limits, sbc_reg_w_limits, sbc_reg_w_last)

-- ---- from_sub_reg_w

pub sub_reg_w_limits : (f s : ℕ) → limits_at rows 112 f s ≡ (if bits s 8 4 == 15 then false else can_add_register (bits s 8 4) (bits f 0 4) (bits s 0 4) (bits s 4 2) (imm5_of s))
unfolding rows
sub_reg_w_limits f s = refl

pub cmp_reg_w_limits : (f s : ℕ) → limits_at rows 113 f s ≡ plain_base (bits s 0 4) (bits f 0 4)
unfolding rows
cmp_reg_w_limits f s = refl

pub rsb_reg_w_limits : (f s : ℕ) → limits_at rows 114 f s ≡ plain3 (bits s 8 4) (bits f 0 4) (bits s 0 4)
unfolding rows
rsb_reg_w_limits f s = refl

pub and_imm_w_limits : (f s : ℕ) → limits_at rows 115 f s ≡ (if bits s 8 4 == 15 then false else can_set_from (bits s 8 4) (bits f 0 4) (imm12_of f s))
unfolding rows
and_imm_w_limits f s = refl

pub tst_imm_w_limits : (f s : ℕ) → limits_at rows 116 f s ≡ can_set (bits f 0 4) (imm12_of f s)
unfolding rows
tst_imm_w_limits f s = refl

pub bic_imm_w_limits : (f s : ℕ) → limits_at rows 117 f s ≡ can_set_from (bits s 8 4) (bits f 0 4) (imm12_of f s)
unfolding rows
bic_imm_w_limits f s = refl

pub orr_imm_w_limits : (f s : ℕ) → limits_at rows 118 f s ≡ (if bits f 0 4 == 15 then false else can_set_from (bits s 8 4) (bits f 0 4) (imm12_of f s))
unfolding rows
orr_imm_w_limits f s = refl

pub mov_imm_w_limits : (f s : ℕ) → limits_at rows 119 f s ≡ can_set (bits s 8 4) (imm12_of f s)
unfolding rows
mov_imm_w_limits f s = refl

pub mov_imm_w_last : (k f s : ℕ) → k ≡ 119 → limits_at rows k f s ≡ can_set (bits s 8 4) (imm12_of f s)
mov_imm_w_last k f s e = ap (λ j. limits_at rows j f s) e ∙ mov_imm_w_limits f s

pub ruleset from_sub_reg_w_limits = (sub_reg_w_limits, cmp_reg_w_limits, rsb_reg_w_limits, and_imm_w_limits, tst_imm_w_limits, bic_imm_w_limits, orr_imm_w_limits, mov_imm_w_limits, mov_imm_w_last)

-- ---- from_orn_imm_w

pub orn_imm_w_limits : (f s : ℕ) → limits_at rows 120 f s ≡ (if bits f 0 4 == 15 then false else can_set_from (bits s 8 4) (bits f 0 4) (imm12_of f s))
unfolding rows
orn_imm_w_limits f s = refl

pub mvn_imm_w_limits : (f s : ℕ) → limits_at rows 121 f s ≡ can_set (bits s 8 4) (imm12_of f s)
unfolding rows
mvn_imm_w_limits f s = refl

pub eor_imm_w_limits : (f s : ℕ) → limits_at rows 122 f s ≡ (if bits s 8 4 == 15 then false else can_set_from (bits s 8 4) (bits f 0 4) (imm12_of f s))
unfolding rows
eor_imm_w_limits f s = refl

pub teq_imm_w_limits : (f s : ℕ) → limits_at rows 123 f s ≡ can_set (bits f 0 4) (imm12_of f s)
unfolding rows
teq_imm_w_limits f s = refl

pub add_imm_w_limits : (f s : ℕ) → limits_at rows 124 f s ≡ (if bits s 8 4 == 15 then false else can_add_constant (bits s 8 4) (bits f 0 4) (imm12_of f s))
unfolding rows
add_imm_w_limits f s = refl

pub cmn_imm_w_limits : (f s : ℕ) → limits_at rows 125 f s ≡ can_compare (bits f 0 4) (imm12_of f s)
unfolding rows
cmn_imm_w_limits f s = refl

pub adc_imm_w_limits : (f s : ℕ) → limits_at rows 126 f s ≡ can_set_from (bits s 8 4) (bits f 0 4) (imm12_of f s)
unfolding rows
adc_imm_w_limits f s = refl

pub sbc_imm_w_limits : (f s : ℕ) → limits_at rows 127 f s ≡ can_set_from (bits s 8 4) (bits f 0 4) (imm12_of f s)
unfolding rows
sbc_imm_w_limits f s = refl

pub sbc_imm_w_last : (k f s : ℕ) → k ≡ 127 → limits_at rows k f s ≡ can_set_from (bits s 8 4) (bits f 0 4) (imm12_of f s)
sbc_imm_w_last k f s e = ap (λ j. limits_at rows j f s) e ∙ sbc_imm_w_limits f s

pub ruleset from_orn_imm_w_limits = (orn_imm_w_limits, mvn_imm_w_limits, eor_imm_w_limits, teq_imm_w_limits, add_imm_w_limits, cmn_imm_w_limits, adc_imm_w_limits, sbc_imm_w_limits, sbc_imm_w_last)

-- ---- from_sub_imm_w

pub sub_imm_w_limits : (f s : ℕ) → limits_at rows 128 f s ≡ (if bits s 8 4 == 15 then false else can_add_constant (bits s 8 4) (bits f 0 4) (imm12_of f s))
unfolding rows
sub_imm_w_limits f s = refl

pub cmp_imm_w_limits : (f s : ℕ) → limits_at rows 129 f s ≡ can_compare (bits f 0 4) (imm12_of f s)
unfolding rows
cmp_imm_w_limits f s = refl

pub rsb_imm_w_limits : (f s : ℕ) → limits_at rows 130 f s ≡ can_set_from (bits s 8 4) (bits f 0 4) (imm12_of f s)
unfolding rows
rsb_imm_w_limits f s = refl

pub addw_limits : (f s : ℕ) → limits_at rows 131 f s ≡ (if bits f 0 4 == 15 then false else can_add (bits s 8 4) (bits f 0 4))
unfolding rows
addw_limits f s = refl

pub subw_limits : (f s : ℕ) → limits_at rows 132 f s ≡ (if bits f 0 4 == 15 then false else can_add (bits s 8 4) (bits f 0 4))
unfolding rows
subw_limits f s = refl

pub adr_after_limits : (f s : ℕ) → limits_at rows 133 f s ≡ plain (bits s 8 4)
unfolding rows
adr_after_limits f s = refl

pub adr_before_limits : (f s : ℕ) → limits_at rows 134 f s ≡ plain (bits s 8 4)
unfolding rows
adr_before_limits f s = refl

pub movw_limits : (f s : ℕ) → limits_at rows 135 f s ≡ plain (bits s 8 4)
unfolding rows
movw_limits f s = refl

pub movw_last : (k f s : ℕ) → k ≡ 135 → limits_at rows k f s ≡ plain (bits s 8 4)
movw_last k f s e = ap (λ j. limits_at rows j f s) e ∙ movw_limits f s

pub ruleset from_sub_imm_w_limits = (sub_imm_w_limits, cmp_imm_w_limits, rsb_imm_w_limits, addw_limits, subw_limits, adr_after_limits, adr_before_limits, movw_limits, movw_last)

-- ---- from_ssat

pub ssat_limits : (f s : ℕ) → limits_at rows 136 f s ≡ can_saturate (bits s 8 4) (bits f 0 4) (bits f 5 1) (imm5_of s)
unfolding rows
ssat_limits f s = refl

pub usat_limits : (f s : ℕ) → limits_at rows 137 f s ≡ can_saturate (bits s 8 4) (bits f 0 4) (bits f 5 1) (imm5_of s)
unfolding rows
usat_limits f s = refl

pub sbfx_limits : (f s : ℕ) → limits_at rows 138 f s ≡ can_extract (bits s 8 4) (bits f 0 4) (imm5_of s) (bits s 0 5)
unfolding rows
sbfx_limits f s = refl

pub ubfx_limits : (f s : ℕ) → limits_at rows 139 f s ≡ can_extract (bits s 8 4) (bits f 0 4) (imm5_of s) (bits s 0 5)
unfolding rows
ubfx_limits f s = refl

pub bfi_limits : (f s : ℕ) → limits_at rows 140 f s ≡ (if bits f 0 4 == 15 then false else can_insert (bits s 8 4) (bits f 0 4) (imm5_of s) (bits s 0 5))
unfolding rows
bfi_limits f s = refl

pub bfc_limits : (f s : ℕ) → limits_at rows 141 f s ≡ can_clear (bits s 8 4) (imm5_of s) (bits s 0 5)
unfolding rows
bfc_limits f s = refl

pub bcond_w_limits : (f s : ℕ) → limits_at rows 142 f s ≡ (if bits f 6 4 == 14 || (bits f 6 4 == 15) then false else true)
unfolding rows
bcond_w_limits f s = refl

pub branch_w_limits : (f s : ℕ) → limits_at rows 143 f s ≡ true
unfolding rows
branch_w_limits f s = refl

pub branch_w_last : (k f s : ℕ) → k ≡ 143 → limits_at rows k f s ≡ true
branch_w_last k f s e = ap (λ j. limits_at rows j f s) e ∙ branch_w_limits f s

pub ruleset from_ssat_limits = (ssat_limits, usat_limits, sbfx_limits, ubfx_limits, bfi_limits, bfc_limits, bcond_w_limits, branch_w_limits, branch_w_last)

-- ---- from_bl

pub bl_limits : (f s : ℕ) → limits_at rows 144 f s ≡ true
unfolding rows
bl_limits f s = refl

pub msr_limits : (f s : ℕ) → limits_at rows 145 f s ≡ can_name (bits f 0 4) (bits s 0 8)
unfolding rows
msr_limits f s = refl

pub mrs_limits : (f s : ℕ) → limits_at rows 146 f s ≡ can_name (bits s 8 4) (bits s 0 8)
unfolding rows
mrs_limits f s = refl

pub hint_w_limits : (f s : ℕ) → limits_at rows 147 f s ≡ true
unfolding rows
hint_w_limits f s = refl

pub clrex_limits : (f s : ℕ) → limits_at rows 148 f s ≡ true
unfolding rows
clrex_limits f s = refl

pub dsb_limits : (f s : ℕ) → limits_at rows 149 f s ≡ true
unfolding rows
dsb_limits f s = refl

pub dmb_limits : (f s : ℕ) → limits_at rows 150 f s ≡ true
unfolding rows
dmb_limits f s = refl

pub isb_limits : (f s : ℕ) → limits_at rows 151 f s ≡ true
unfolding rows
isb_limits f s = refl

pub isb_last : (k f s : ℕ) → k ≡ 151 → limits_at rows k f s ≡ true
isb_last k f s e = ap (λ j. limits_at rows j f s) e ∙ isb_limits f s

pub ruleset from_bl_limits = (bl_limits, msr_limits, mrs_limits, hint_w_limits, clrex_limits, dsb_limits, dmb_limits, isb_limits, isb_last)

-- ---- from_udf_w

pub udf_w_limits : (f s : ℕ) → limits_at rows 152 f s ≡ true
unfolding rows
udf_w_limits f s = refl

pub ldr_imm12_limits : (f s : ℕ) → limits_at rows 153 f s ≡ (if bits f 5 2 == 3 || ((bits f 8 1 == 1 && bits f 5 2 == 2) || (bits f 0 4 == 15 || (bits f 5 2 == 0 && bits s 12 4 == 15))) then false else can_load (bits f 5 2) (bits s 12 4))
unfolding rows
ldr_imm12_limits f s = refl

pub str_imm12_limits : (f s : ℕ) → limits_at rows 154 f s ≡ (if bits f 5 2 == 3 || (bits f 0 4 == 15) then false else can_store (bits f 5 2) (bits s 12 4))
unfolding rows
str_imm12_limits f s = refl

pub pld_imm12_limits : (f s : ℕ) → limits_at rows 155 f s ≡ (if bits f 0 4 == 15 then false else true)
unfolding rows
pld_imm12_limits f s = refl

pub ldr_negative_limits : (f s : ℕ) → limits_at rows 156 f s ≡ (if bits f 5 2 == 3 || ((bits f 8 1 == 1 && bits f 5 2 == 2) || (bits f 0 4 == 15 || (bits f 5 2 == 0 && bits s 12 4 == 15))) then false else can_load (bits f 5 2) (bits s 12 4))
unfolding rows
ldr_negative_limits f s = refl

pub str_negative_limits : (f s : ℕ) → limits_at rows 157 f s ≡ (if bits f 5 2 == 3 || (bits f 0 4 == 15) then false else can_store (bits f 5 2) (bits s 12 4))
unfolding rows
str_negative_limits f s = refl

pub pld_negative_limits : (f s : ℕ) → limits_at rows 158 f s ≡ (if bits f 0 4 == 15 then false else true)
unfolding rows
pld_negative_limits f s = refl

pub ldrt_limits : (f s : ℕ) → limits_at rows 159 f s ≡ (if bits f 5 2 == 3 || ((bits f 8 1 == 1 && bits f 5 2 == 2) || (bits f 0 4 == 15)) then false else plain (bits s 12 4))
unfolding rows
ldrt_limits f s = refl

pub ldrt_last : (k f s : ℕ) → k ≡ 159 → limits_at rows k f s ≡ (if bits f 5 2 == 3 || ((bits f 8 1 == 1 && bits f 5 2 == 2) || (bits f 0 4 == 15)) then false else plain (bits s 12 4))
ldrt_last k f s e = ap (λ j. limits_at rows j f s) e ∙ ldrt_limits f s

pub ruleset from_udf_w_limits = (udf_w_limits, ldr_imm12_limits, str_imm12_limits, pld_imm12_limits, ldr_negative_limits, str_negative_limits, pld_negative_limits, ldrt_limits, ldrt_last)

-- ---- from_strt

pub strt_limits : (f s : ℕ) → limits_at rows 160 f s ≡ (if bits f 5 2 == 3 || (bits f 0 4 == 15) then false else plain (bits s 12 4))
unfolding rows
strt_limits f s = refl

pub ldr_back_limits : (f s : ℕ) → limits_at rows 161 f s ≡ (if bits f 5 2 == 3 || ((bits f 8 1 == 1 && bits f 5 2 == 2) || (bits f 0 4 == 15)) then false else can_load_back (bits f 5 2) (bits s 12 4) (bits f 0 4))
unfolding rows
ldr_back_limits f s = refl

pub str_back_limits : (f s : ℕ) → limits_at rows 162 f s ≡ (if bits f 5 2 == 3 || (bits f 0 4 == 15) then false else can_store_back (bits f 5 2) (bits s 12 4) (bits f 0 4))
unfolding rows
str_back_limits f s = refl

pub ldr_index_w_limits : (f s : ℕ) → limits_at rows 163 f s ≡ (if bits f 5 2 == 3 || ((bits f 8 1 == 1 && bits f 5 2 == 2) || (bits f 0 4 == 15 || (bits f 5 2 == 0 && bits s 12 4 == 15))) then false else can_load_index (bits f 5 2) (bits s 12 4) (bits s 0 4))
unfolding rows
ldr_index_w_limits f s = refl

pub str_index_w_limits : (f s : ℕ) → limits_at rows 164 f s ≡ (if bits f 5 2 == 3 || (bits f 0 4 == 15) then false else can_store_index (bits f 5 2) (bits s 12 4) (bits s 0 4))
unfolding rows
str_index_w_limits f s = refl

pub pld_index_limits : (f s : ℕ) → limits_at rows 165 f s ≡ (if bits f 0 4 == 15 then false else plain (bits s 0 4))
unfolding rows
pld_index_limits f s = refl

pub ldr_literal_w_limits : (f s : ℕ) → limits_at rows 166 f s ≡ (if bits f 5 2 == 3 || ((bits f 8 1 == 1 && bits f 5 2 == 2) || (bits f 5 2 == 0 && bits s 12 4 == 15)) then false else can_load (bits f 5 2) (bits s 12 4))
unfolding rows
ldr_literal_w_limits f s = refl

pub pld_literal_limits : (f s : ℕ) → limits_at rows 167 f s ≡ true
unfolding rows
pld_literal_limits f s = refl

pub pld_literal_last : (k f s : ℕ) → k ≡ 167 → limits_at rows k f s ≡ true
pld_literal_last k f s e = ap (λ j. limits_at rows j f s) e ∙ pld_literal_limits f s

pub ruleset from_strt_limits = (strt_limits, ldr_back_limits, str_back_limits, ldr_index_w_limits, str_index_w_limits, pld_index_limits, ldr_literal_w_limits, pld_literal_limits, pld_literal_last)

-- ---- from_shift_reg_w

pub shift_reg_w_limits : (f s : ℕ) → limits_at rows 168 f s ≡ plain3 (bits s 8 4) (bits f 0 4) (bits s 0 4)
unfolding rows
shift_reg_w_limits f s = refl

pub sxth_w_limits : (f s : ℕ) → limits_at rows 169 f s ≡ plain2 (bits s 8 4) (bits s 0 4)
unfolding rows
sxth_w_limits f s = refl

pub uxth_w_limits : (f s : ℕ) → limits_at rows 170 f s ≡ plain2 (bits s 8 4) (bits s 0 4)
unfolding rows
uxth_w_limits f s = refl

pub sxtb_w_limits : (f s : ℕ) → limits_at rows 171 f s ≡ plain2 (bits s 8 4) (bits s 0 4)
unfolding rows
sxtb_w_limits f s = refl

pub uxtb_w_limits : (f s : ℕ) → limits_at rows 172 f s ≡ plain2 (bits s 8 4) (bits s 0 4)
unfolding rows
uxtb_w_limits f s = refl

pub rev_w_limits : (f s : ℕ) → limits_at rows 173 f s ≡ plain2_same (bits s 8 4) (bits s 0 4) (bits f 0 4)
unfolding rows
rev_w_limits f s = refl

pub rev16_w_limits : (f s : ℕ) → limits_at rows 174 f s ≡ plain2_same (bits s 8 4) (bits s 0 4) (bits f 0 4)
unfolding rows
rev16_w_limits f s = refl

pub rbit_limits : (f s : ℕ) → limits_at rows 175 f s ≡ plain2_same (bits s 8 4) (bits s 0 4) (bits f 0 4)
unfolding rows
rbit_limits f s = refl

pub rbit_last : (k f s : ℕ) → k ≡ 175 → limits_at rows k f s ≡ plain2_same (bits s 8 4) (bits s 0 4) (bits f 0 4)
rbit_last k f s e = ap (λ j. limits_at rows j f s) e ∙ rbit_limits f s

pub ruleset from_shift_reg_w_limits = (shift_reg_w_limits, sxth_w_limits, uxth_w_limits, sxtb_w_limits, uxtb_w_limits, rev_w_limits, rev16_w_limits, rbit_limits, rbit_last)

-- ---- from_revsh_w

pub revsh_w_limits : (f s : ℕ) → limits_at rows 176 f s ≡ plain2_same (bits s 8 4) (bits s 0 4) (bits f 0 4)
unfolding rows
revsh_w_limits f s = refl

pub clz_limits : (f s : ℕ) → limits_at rows 177 f s ≡ plain2_same (bits s 8 4) (bits s 0 4) (bits f 0 4)
unfolding rows
clz_limits f s = refl

pub mla_limits : (f s : ℕ) → limits_at rows 178 f s ≡ (if bits s 12 4 == 15 then false else plain4 (bits s 8 4) (bits f 0 4) (bits s 0 4) (bits s 12 4))
unfolding rows
mla_limits f s = refl

pub mul_w_limits : (f s : ℕ) → limits_at rows 179 f s ≡ plain3 (bits s 8 4) (bits f 0 4) (bits s 0 4)
unfolding rows
mul_w_limits f s = refl

pub mls_limits : (f s : ℕ) → limits_at rows 180 f s ≡ plain4 (bits s 8 4) (bits f 0 4) (bits s 0 4) (bits s 12 4)
unfolding rows
mls_limits f s = refl

pub smull_limits : (f s : ℕ) → limits_at rows 181 f s ≡ can_multiply_long (bits s 12 4) (bits s 8 4) (bits f 0 4) (bits s 0 4)
unfolding rows
smull_limits f s = refl

pub umull_limits : (f s : ℕ) → limits_at rows 182 f s ≡ can_multiply_long (bits s 12 4) (bits s 8 4) (bits f 0 4) (bits s 0 4)
unfolding rows
umull_limits f s = refl

pub smlal_limits : (f s : ℕ) → limits_at rows 183 f s ≡ can_multiply_long (bits s 12 4) (bits s 8 4) (bits f 0 4) (bits s 0 4)
unfolding rows
smlal_limits f s = refl

pub smlal_last : (k f s : ℕ) → k ≡ 183 → limits_at rows k f s ≡ can_multiply_long (bits s 12 4) (bits s 8 4) (bits f 0 4) (bits s 0 4)
smlal_last k f s e = ap (λ j. limits_at rows j f s) e ∙ smlal_limits f s

pub ruleset from_revsh_w_limits = (revsh_w_limits, clz_limits, mla_limits, mul_w_limits, mls_limits, smull_limits, umull_limits, smlal_limits, smlal_last)

-- ---- from_umlal

pub umlal_limits : (f s : ℕ) → limits_at rows 184 f s ≡ can_multiply_long (bits s 12 4) (bits s 8 4) (bits f 0 4) (bits s 0 4)
unfolding rows
umlal_limits f s = refl

pub sdiv_limits : (f s : ℕ) → limits_at rows 185 f s ≡ plain3 (bits s 8 4) (bits f 0 4) (bits s 0 4)
unfolding rows
sdiv_limits f s = refl

pub udiv_limits : (f s : ℕ) → limits_at rows 186 f s ≡ plain3 (bits s 8 4) (bits f 0 4) (bits s 0 4)
unfolding rows
udiv_limits f s = refl

pub sg_limits : (f s : ℕ) → limits_at rows 187 f s ≡ true
unfolding rows
sg_limits f s = refl

pub vlstm_limits : (f s : ℕ) → limits_at rows 188 f s ≡ not_pc (bits f 0 4)
unfolding rows
vlstm_limits f s = refl

pub vlstm_last : (k f s : ℕ) → k ≡ 188 → limits_at rows k f s ≡ not_pc (bits f 0 4)
vlstm_last k f s e = ap (λ j. limits_at rows j f s) e ∙ vlstm_limits f s

pub ruleset from_umlal_limits = (umlal_limits, sdiv_limits, udiv_limits, sg_limits, vlstm_limits, vlstm_last)
