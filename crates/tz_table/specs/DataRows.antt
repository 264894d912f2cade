-- The rows of 32 bits that process data: shifted registers, constants, wide constants, saturation and bit
-- fields.
use Rattle.std.specs.Prelude.{◌+◌, ◌-◌, ◌*◌, true, false, [], ◌∷◌, pos, neg_ℤ}
use Rattle.tz_table.specs.Rows.{TableRow, row, row_but}
use Rattle.tz_table.specs.Terms.{is_one, flags_of, imm_shift_of, imm_amount_of}
use Rattle.tz_table.specs.Limits.{plain, plain2, plain3, plain_base, can_add, can_add_register, can_move, can_add_constant, can_set, can_set_from, can_compare, can_saturate, can_extract, can_insert, can_clear}
use Rattle.tz_table.specs.declared.instruction.Insn.TheVariants as insns
use Rattle.tz_table.specs.declared.instruction.DataOp.TheVariants as ops
use Rattle.tz_table.specs.declared.instruction.FieldOp.TheVariants as fields
use Rattle.tz_table.specs.declared.instruction.Flags.TheVariants as flags

-- and.w rd, rn, rm, shift; with s ands.w
abbrev pub and_reg_w : TableRow
and_reg_w = row_but "1110 1010 000s nnnn | 0iii dddd iitt mmmm" (λ x. (x "d" 15 ∷ []) ∷ []) (λ v. plain3 (v "d") (v "n") (v "m")) (λ v. insns.DataReg ops.And (flags_of (v "s")) (v "d") (v "n") (v "m") (imm_shift_of (v "t") (v "i")) (imm_amount_of (v "t") (v "i")))

-- tst.w rn, rm, shift
abbrev pub tst_reg_w : TableRow
tst_reg_w = row "1110 1010 0001 nnnn | 0iii 1111 iitt mmmm" (λ v. plain2 (v "n") (v "m")) (λ v. insns.DataReg ops.Tst flags.Always 0 (v "n") (v "m") (imm_shift_of (v "t") (v "i")) (imm_amount_of (v "t") (v "i")))

-- bic.w rd, rn, rm, shift; with s bics.w
abbrev pub bic_reg_w : TableRow
bic_reg_w = row "1110 1010 001s nnnn | 0iii dddd iitt mmmm" (λ v. plain3 (v "d") (v "n") (v "m")) (λ v. insns.DataReg ops.Bic (flags_of (v "s")) (v "d") (v "n") (v "m") (imm_shift_of (v "t") (v "i")) (imm_amount_of (v "t") (v "i")))

-- orr.w rd, rn, rm, shift; with s orrs.w
abbrev pub orr_reg_w : TableRow
orr_reg_w = row_but "1110 1010 010s nnnn | 0iii dddd iitt mmmm" (λ x. (x "n" 15 ∷ []) ∷ []) (λ v. plain3 (v "d") (v "n") (v "m")) (λ v. insns.DataReg ops.Orr (flags_of (v "s")) (v "d") (v "n") (v "m") (imm_shift_of (v "t") (v "i")) (imm_amount_of (v "t") (v "i")))

-- mov.w rd, rm, shift; with s movs.w
abbrev pub mov_reg_w : TableRow
mov_reg_w = row "1110 1010 010s 1111 | 0iii dddd iitt mmmm" (λ v. can_move (v "s") (v "d") (v "m") (v "t") (v "i")) (λ v. insns.DataReg ops.Mov (flags_of (v "s")) (v "d") 0 (v "m") (imm_shift_of (v "t") (v "i")) (imm_amount_of (v "t") (v "i")))

-- orn.w rd, rn, rm, shift; with s orns.w
abbrev pub orn_reg_w : TableRow
orn_reg_w = row_but "1110 1010 011s nnnn | 0iii dddd iitt mmmm" (λ x. (x "n" 15 ∷ []) ∷ []) (λ v. plain3 (v "d") (v "n") (v "m")) (λ v. insns.DataReg ops.Orn (flags_of (v "s")) (v "d") (v "n") (v "m") (imm_shift_of (v "t") (v "i")) (imm_amount_of (v "t") (v "i")))

-- mvn.w rd, rm, shift; with s mvns.w
abbrev pub mvn_reg_w : TableRow
mvn_reg_w = row "1110 1010 011s 1111 | 0iii dddd iitt mmmm" (λ v. plain2 (v "d") (v "m")) (λ v. insns.DataReg ops.Mvn (flags_of (v "s")) (v "d") 0 (v "m") (imm_shift_of (v "t") (v "i")) (imm_amount_of (v "t") (v "i")))

-- eor.w rd, rn, rm, shift; with s eors.w
abbrev pub eor_reg_w : TableRow
eor_reg_w = row_but "1110 1010 100s nnnn | 0iii dddd iitt mmmm" (λ x. (x "d" 15 ∷ []) ∷ []) (λ v. plain3 (v "d") (v "n") (v "m")) (λ v. insns.DataReg ops.Eor (flags_of (v "s")) (v "d") (v "n") (v "m") (imm_shift_of (v "t") (v "i")) (imm_amount_of (v "t") (v "i")))

-- teq.w rn, rm, shift
abbrev pub teq_reg_w : TableRow
teq_reg_w = row "1110 1010 1001 nnnn | 0iii 1111 iitt mmmm" (λ v. plain2 (v "n") (v "m")) (λ v. insns.DataReg ops.Teq flags.Always 0 (v "n") (v "m") (imm_shift_of (v "t") (v "i")) (imm_amount_of (v "t") (v "i")))

-- add.w rd, rn, rm, shift; with s adds.w
abbrev pub add_reg_w : TableRow
add_reg_w = row_but "1110 1011 000s nnnn | 0iii dddd iitt mmmm" (λ x. (x "d" 15 ∷ []) ∷ []) (λ v. can_add_register (v "d") (v "n") (v "m") (v "t") (v "i")) (λ v. insns.DataReg ops.Add (flags_of (v "s")) (v "d") (v "n") (v "m") (imm_shift_of (v "t") (v "i")) (imm_amount_of (v "t") (v "i")))

-- cmn.w rn, rm, shift
abbrev pub cmn_reg_w : TableRow
cmn_reg_w = row "1110 1011 0001 nnnn | 0iii 1111 iitt mmmm" (λ v. plain_base (v "m") (v "n")) (λ v. insns.DataReg ops.Cmn flags.Always 0 (v "n") (v "m") (imm_shift_of (v "t") (v "i")) (imm_amount_of (v "t") (v "i")))

-- adc.w rd, rn, rm, shift; with s adcs.w
abbrev pub adc_reg_w : TableRow
adc_reg_w = row "1110 1011 010s nnnn | 0iii dddd iitt mmmm" (λ v. plain3 (v "d") (v "n") (v "m")) (λ v. insns.DataReg ops.Adc (flags_of (v "s")) (v "d") (v "n") (v "m") (imm_shift_of (v "t") (v "i")) (imm_amount_of (v "t") (v "i")))

-- sbc.w rd, rn, rm, shift; with s sbcs.w
abbrev pub sbc_reg_w : TableRow
sbc_reg_w = row "1110 1011 011s nnnn | 0iii dddd iitt mmmm" (λ v. plain3 (v "d") (v "n") (v "m")) (λ v. insns.DataReg ops.Sbc (flags_of (v "s")) (v "d") (v "n") (v "m") (imm_shift_of (v "t") (v "i")) (imm_amount_of (v "t") (v "i")))

-- sub.w rd, rn, rm, shift; with s subs.w
abbrev pub sub_reg_w : TableRow
sub_reg_w = row_but "1110 1011 101s nnnn | 0iii dddd iitt mmmm" (λ x. (x "d" 15 ∷ []) ∷ []) (λ v. can_add_register (v "d") (v "n") (v "m") (v "t") (v "i")) (λ v. insns.DataReg ops.Sub (flags_of (v "s")) (v "d") (v "n") (v "m") (imm_shift_of (v "t") (v "i")) (imm_amount_of (v "t") (v "i")))

-- cmp.w rn, rm, shift
abbrev pub cmp_reg_w : TableRow
cmp_reg_w = row "1110 1011 1011 nnnn | 0iii 1111 iitt mmmm" (λ v. plain_base (v "m") (v "n")) (λ v. insns.DataReg ops.Cmp flags.Always 0 (v "n") (v "m") (imm_shift_of (v "t") (v "i")) (imm_amount_of (v "t") (v "i")))

-- rsb.w rd, rn, rm, shift; with s rsbs.w
abbrev pub rsb_reg_w : TableRow
rsb_reg_w = row "1110 1011 110s nnnn | 0iii dddd iitt mmmm" (λ v. plain3 (v "d") (v "n") (v "m")) (λ v. insns.DataReg ops.Rsb (flags_of (v "s")) (v "d") (v "n") (v "m") (imm_shift_of (v "t") (v "i")) (imm_amount_of (v "t") (v "i")))

-- and.w rd, rn, #i; with s ands.w
abbrev pub and_imm_w : TableRow
and_imm_w = row_but "1111 0i00 000s nnnn | 0iii dddd iiii iiii" (λ x. (x "d" 15 ∷ []) ∷ []) (λ v. can_set_from (v "d") (v "n") (v "i")) (λ v. insns.DataImm ops.And (flags_of (v "s")) (v "d") (v "n") (v "i"))

-- tst.w rn, #i
abbrev pub tst_imm_w : TableRow
tst_imm_w = row "1111 0i00 0001 nnnn | 0iii 1111 iiii iiii" (λ v. can_set (v "n") (v "i")) (λ v. insns.DataImm ops.Tst flags.Always 0 (v "n") (v "i"))

-- bic.w rd, rn, #i; with s bics.w
abbrev pub bic_imm_w : TableRow
bic_imm_w = row "1111 0i00 001s nnnn | 0iii dddd iiii iiii" (λ v. can_set_from (v "d") (v "n") (v "i")) (λ v. insns.DataImm ops.Bic (flags_of (v "s")) (v "d") (v "n") (v "i"))

-- orr.w rd, rn, #i; with s orrs.w
abbrev pub orr_imm_w : TableRow
orr_imm_w = row_but "1111 0i00 010s nnnn | 0iii dddd iiii iiii" (λ x. (x "n" 15 ∷ []) ∷ []) (λ v. can_set_from (v "d") (v "n") (v "i")) (λ v. insns.DataImm ops.Orr (flags_of (v "s")) (v "d") (v "n") (v "i"))

-- mov.w rd, #i; with s movs.w
abbrev pub mov_imm_w : TableRow
mov_imm_w = row "1111 0i00 010s 1111 | 0iii dddd iiii iiii" (λ v. can_set (v "d") (v "i")) (λ v. insns.DataImm ops.Mov (flags_of (v "s")) (v "d") 0 (v "i"))

-- orn.w rd, rn, #i; with s orns.w
abbrev pub orn_imm_w : TableRow
orn_imm_w = row_but "1111 0i00 011s nnnn | 0iii dddd iiii iiii" (λ x. (x "n" 15 ∷ []) ∷ []) (λ v. can_set_from (v "d") (v "n") (v "i")) (λ v. insns.DataImm ops.Orn (flags_of (v "s")) (v "d") (v "n") (v "i"))

-- mvn.w rd, #i; with s mvns.w
abbrev pub mvn_imm_w : TableRow
mvn_imm_w = row "1111 0i00 011s 1111 | 0iii dddd iiii iiii" (λ v. can_set (v "d") (v "i")) (λ v. insns.DataImm ops.Mvn (flags_of (v "s")) (v "d") 0 (v "i"))

-- eor.w rd, rn, #i; with s eors.w
abbrev pub eor_imm_w : TableRow
eor_imm_w = row_but "1111 0i00 100s nnnn | 0iii dddd iiii iiii" (λ x. (x "d" 15 ∷ []) ∷ []) (λ v. can_set_from (v "d") (v "n") (v "i")) (λ v. insns.DataImm ops.Eor (flags_of (v "s")) (v "d") (v "n") (v "i"))

-- teq.w rn, #i
abbrev pub teq_imm_w : TableRow
teq_imm_w = row "1111 0i00 1001 nnnn | 0iii 1111 iiii iiii" (λ v. can_set (v "n") (v "i")) (λ v. insns.DataImm ops.Teq flags.Always 0 (v "n") (v "i"))

-- add.w rd, rn, #i; with s adds.w
abbrev pub add_imm_w : TableRow
add_imm_w = row_but "1111 0i01 000s nnnn | 0iii dddd iiii iiii" (λ x. (x "d" 15 ∷ []) ∷ []) (λ v. can_add_constant (v "d") (v "n") (v "i")) (λ v. insns.DataImm ops.Add (flags_of (v "s")) (v "d") (v "n") (v "i"))

-- cmn.w rn, #i
abbrev pub cmn_imm_w : TableRow
cmn_imm_w = row "1111 0i01 0001 nnnn | 0iii 1111 iiii iiii" (λ v. can_compare (v "n") (v "i")) (λ v. insns.DataImm ops.Cmn flags.Always 0 (v "n") (v "i"))

-- adc.w rd, rn, #i; with s adcs.w
abbrev pub adc_imm_w : TableRow
adc_imm_w = row "1111 0i01 010s nnnn | 0iii dddd iiii iiii" (λ v. can_set_from (v "d") (v "n") (v "i")) (λ v. insns.DataImm ops.Adc (flags_of (v "s")) (v "d") (v "n") (v "i"))

-- sbc.w rd, rn, #i; with s sbcs.w
abbrev pub sbc_imm_w : TableRow
sbc_imm_w = row "1111 0i01 011s nnnn | 0iii dddd iiii iiii" (λ v. can_set_from (v "d") (v "n") (v "i")) (λ v. insns.DataImm ops.Sbc (flags_of (v "s")) (v "d") (v "n") (v "i"))

-- sub.w rd, rn, #i; with s subs.w
abbrev pub sub_imm_w : TableRow
sub_imm_w = row_but "1111 0i01 101s nnnn | 0iii dddd iiii iiii" (λ x. (x "d" 15 ∷ []) ∷ []) (λ v. can_add_constant (v "d") (v "n") (v "i")) (λ v. insns.DataImm ops.Sub (flags_of (v "s")) (v "d") (v "n") (v "i"))

-- cmp.w rn, #i
abbrev pub cmp_imm_w : TableRow
cmp_imm_w = row "1111 0i01 1011 nnnn | 0iii 1111 iiii iiii" (λ v. can_compare (v "n") (v "i")) (λ v. insns.DataImm ops.Cmp flags.Always 0 (v "n") (v "i"))

-- rsb.w rd, rn, #i; with s rsbs.w
abbrev pub rsb_imm_w : TableRow
rsb_imm_w = row "1111 0i01 110s nnnn | 0iii dddd iiii iiii" (λ v. can_set_from (v "d") (v "n") (v "i")) (λ v. insns.DataImm ops.Rsb (flags_of (v "s")) (v "d") (v "n") (v "i"))

-- addw rd, rn, #i
abbrev pub addw : TableRow
addw = row_but "1111 0i10 0000 nnnn | 0iii dddd iiii iiii" (λ x. (x "n" 15 ∷ []) ∷ []) (λ v. can_add (v "d") (v "n")) (λ v. insns.AddWide false (v "d") (v "n") (v "i"))

-- subw rd, rn, #i
abbrev pub subw : TableRow
subw = row_but "1111 0i10 1010 nnnn | 0iii dddd iiii iiii" (λ x. (x "n" 15 ∷ []) ∷ []) (λ v. can_add (v "d") (v "n")) (λ v. insns.AddWide true (v "d") (v "n") (v "i"))

-- adr.w rd, target, after the instruction
abbrev pub adr_after : TableRow
adr_after = row "1111 0i10 0000 1111 | 0iii dddd iiii iiii" (λ v. plain (v "d")) (λ v. insns.Adr (v "d") (pos (v "i")))

-- adr.w rd, target, before the instruction
abbrev pub adr_before : TableRow
adr_before = row "1111 0i10 1010 1111 | 0iii dddd iiii iiii" (λ v. plain (v "d")) (λ v. insns.Adr (v "d") (neg_ℤ (pos (v "i"))))

-- movw rd, #j:i; movt
abbrev pub movw : TableRow
movw = row "1111 0i10 t100 jjjj | 0iii dddd iiii iiii" (λ v. plain (v "d")) (λ v. insns.MovWide (is_one (v "t")) (v "d") (v "j" * 4096 + v "i"))

-- ssat rd, #b + 1, rn, shift; asr by 0 is no code
abbrev pub ssat : TableRow
ssat = row "1111 0011 00s0 nnnn | 0iii dddd ii0b bbbb" (λ v. can_saturate (v "d") (v "n") (v "s") (v "i")) (λ v. insns.Saturate true (v "d") (v "n") (v "b" + 1) (is_one (v "s")) (v "i"))

-- usat rd, #b, rn, shift; asr by 0 is no code
abbrev pub usat : TableRow
usat = row "1111 0011 10s0 nnnn | 0iii dddd ii0b bbbb" (λ v. can_saturate (v "d") (v "n") (v "s") (v "i")) (λ v. insns.Saturate false (v "d") (v "n") (v "b") (is_one (v "s")) (v "i"))

-- sbfx rd, rn, #i, #w + 1; together at most 32
abbrev pub sbfx : TableRow
sbfx = row "1111 0011 0100 nnnn | 0iii dddd ii0w wwww" (λ v. can_extract (v "d") (v "n") (v "i") (v "w")) (λ v. insns.BitField fields.Sbfx (v "d") (v "n") (v "i") (v "w" + 1))

-- ubfx rd, rn, #i, #w + 1; together at most 32
abbrev pub ubfx : TableRow
ubfx = row "1111 0011 1100 nnnn | 0iii dddd ii0w wwww" (λ v. can_extract (v "d") (v "n") (v "i") (v "w")) (λ v. insns.BitField fields.Ubfx (v "d") (v "n") (v "i") (v "w" + 1))

-- bfi rd, rn, #i, #m - i + 1
abbrev pub bfi : TableRow
bfi = row_but "1111 0011 0110 nnnn | 0iii dddd ii0m mmmm" (λ x. (x "n" 15 ∷ []) ∷ []) (λ v. can_insert (v "d") (v "n") (v "i") (v "m")) (λ v. insns.BitField fields.Bfi (v "d") (v "n") (v "i") (v "m" + 1 - v "i"))

-- bfc rd, #i, #m - i + 1
abbrev pub bfc : TableRow
bfc = row "1111 0011 0110 1111 | 0iii dddd ii0m mmmm" (λ v. can_clear (v "d") (v "i") (v "m")) (λ v. insns.BitField fields.Bfc (v "d") 0 (v "i") (v "m" + 1 - v "i"))
