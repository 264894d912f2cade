-- What the codes of 16 bits mean, leaf by leaf of the decoder: where these fields are known, few rows are left.
use Rattle.std.proofs.Common.{◌≡◌, ◌≢◌, ℕ, true, false, [], ◌∷◌, refl}
use Rattle.std.specs.Prelude.{◌+◌, ◌*◌, not, pos, if◌then◌else◌}
use Rattle.std.proofs.lemmas.Bool.{and_from, or_from, eq-eqb, ne_eqb}
use Rattle.tz_table.specs.Fields.{bits}
use Rattle.tz_table.specs.Patterns.{first}
use Rattle.tz_table.specs.Terms.{is_one, imm_amount_of, signed_by, high_register}
use Rattle.tz_table.specs.Limits.{not_zero, is_listed, can_add_high, can_compare_high, can_exchange, can_begin, can_store_many}
use Rattle.tz_table.specs.Table.{rows, refusals, decode_of}
use Rattle.tz_table.proofs.Scans.{known_by}
use Rattle.tz_table.specs.declared.Decoded.TheVariants.{One, Undefined}
use Rattle.tz_table.specs.declared.Width.TheVariants.{Narrow}
use Rattle.tz_table.specs.declared.Insn.TheVariants as insns
use Rattle.tz_table.specs.declared.DataOp.TheVariants as ops
use Rattle.tz_table.specs.declared.ExtendOp.TheVariants as extends
use Rattle.tz_table.specs.declared.ReverseOp.TheVariants as reverses
use Rattle.tz_table.specs.declared.MultiplyOp.TheVariants as multiplies
use Rattle.tz_table.specs.declared.Flags.TheVariants as flags
use Rattle.tz_table.specs.declared.Shift.TheVariants as shifts
use Rattle.tz_table.specs.declared.Size.TheVariants as sizes
use Rattle.tz_table.specs.declared.Address.TheVariants as addresses

-- ---- the leading bits

pub narrow_branch : (f s : ℕ) → bits f 12 4 ≡ 14 → bits f 11 1 ≡ 0 → decode_of f s ≡ One (insns.Branch (signed_by 2048 (bits f 0 11 * 2))) Narrow
unfolding rows decode_of
narrow_branch f s h0 h1 = known_by refusals rows (first 12 4 14 ∷ first 11 1 0 ∷ []) ([]) f s (and_from _ _ (eq-eqb _ _ h0) (eq-eqb _ _ h1)) refl

pub narrow_branch2 : (f s : ℕ) → bits f 11 5 ≡ 28 → decode_of f s ≡ One (insns.Branch (signed_by 2048 (bits f 0 11 * 2))) Narrow
unfolding rows decode_of
narrow_branch2 f s h0 = known_by refusals rows (first 11 5 28 ∷ []) ([]) f s (eq-eqb _ _ h0) refl

pub ruleset narrow = (narrow_branch, narrow_branch2)

-- ---- 000

pub shifts_and_sums_lsl_imm : (f s : ℕ) → bits f 13 3 ≡ 0 → bits f 11 2 ≡ 0 → decode_of f s ≡ One (insns.DataReg ops.Mov flags.OutsideIt (bits f 0 3) 0 (bits f 3 3) shifts.Lsl (bits f 6 5)) Narrow
unfolding rows decode_of
shifts_and_sums_lsl_imm f s h0 h1 = known_by refusals rows (first 13 3 0 ∷ first 11 2 0 ∷ []) ([]) f s (and_from _ _ (eq-eqb _ _ h0) (eq-eqb _ _ h1)) refl

pub shifts_and_sums_lsr_imm : (f s : ℕ) → bits f 13 3 ≡ 0 → bits f 11 2 ≡ 1 → decode_of f s ≡ One (insns.DataReg ops.Mov flags.OutsideIt (bits f 0 3) 0 (bits f 3 3) shifts.Lsr (imm_amount_of 1 (bits f 6 5))) Narrow
unfolding rows decode_of
shifts_and_sums_lsr_imm f s h0 h1 = known_by refusals rows (first 13 3 0 ∷ first 11 2 1 ∷ []) ([]) f s (and_from _ _ (eq-eqb _ _ h0) (eq-eqb _ _ h1)) refl

pub shifts_and_sums_asr_imm : (f s : ℕ) → bits f 13 3 ≡ 0 → bits f 11 2 ≡ 2 → decode_of f s ≡ One (insns.DataReg ops.Mov flags.OutsideIt (bits f 0 3) 0 (bits f 3 3) shifts.Asr (imm_amount_of 2 (bits f 6 5))) Narrow
unfolding rows decode_of
shifts_and_sums_asr_imm f s h0 h1 = known_by refusals rows (first 13 3 0 ∷ first 11 2 2 ∷ []) ([]) f s (and_from _ _ (eq-eqb _ _ h0) (eq-eqb _ _ h1)) refl

pub ruleset shifts_and_sums = (shifts_and_sums_lsl_imm, shifts_and_sums_lsr_imm, shifts_and_sums_asr_imm)

-- ---- 00011

pub sums_add_reg : (f s : ℕ) → bits f 11 5 ≡ 3 → bits f 9 2 ≡ 0 → decode_of f s ≡ One (insns.DataReg ops.Add flags.OutsideIt (bits f 0 3) (bits f 3 3) (bits f 6 3) shifts.Lsl 0) Narrow
unfolding rows decode_of
sums_add_reg f s h0 h1 = known_by refusals rows (first 11 5 3 ∷ first 9 2 0 ∷ []) ([]) f s (and_from _ _ (eq-eqb _ _ h0) (eq-eqb _ _ h1)) refl

pub sums_sub_reg : (f s : ℕ) → bits f 11 5 ≡ 3 → bits f 9 2 ≡ 1 → decode_of f s ≡ One (insns.DataReg ops.Sub flags.OutsideIt (bits f 0 3) (bits f 3 3) (bits f 6 3) shifts.Lsl 0) Narrow
unfolding rows decode_of
sums_sub_reg f s h0 h1 = known_by refusals rows (first 11 5 3 ∷ first 9 2 1 ∷ []) ([]) f s (and_from _ _ (eq-eqb _ _ h0) (eq-eqb _ _ h1)) refl

pub sums_add_imm3 : (f s : ℕ) → bits f 11 5 ≡ 3 → bits f 9 2 ≡ 2 → decode_of f s ≡ One (insns.DataImm ops.Add flags.OutsideIt (bits f 0 3) (bits f 3 3) (bits f 6 3)) Narrow
unfolding rows decode_of
sums_add_imm3 f s h0 h1 = known_by refusals rows (first 11 5 3 ∷ first 9 2 2 ∷ []) ([]) f s (and_from _ _ (eq-eqb _ _ h0) (eq-eqb _ _ h1)) refl

pub sums_sub_imm3 : (f s : ℕ) → bits f 11 5 ≡ 3 → bits f 9 2 ≡ 3 → decode_of f s ≡ One (insns.DataImm ops.Sub flags.OutsideIt (bits f 0 3) (bits f 3 3) (bits f 6 3)) Narrow
unfolding rows decode_of
sums_sub_imm3 f s h0 h1 = known_by refusals rows (first 11 5 3 ∷ first 9 2 3 ∷ []) ([]) f s (and_from _ _ (eq-eqb _ _ h0) (eq-eqb _ _ h1)) refl

pub ruleset sums = (sums_add_reg, sums_sub_reg, sums_add_imm3, sums_sub_imm3)

-- ---- 001

pub constants_mov_imm8 : (f s : ℕ) → bits f 13 3 ≡ 1 → bits f 11 2 ≡ 0 → decode_of f s ≡ One (insns.DataImm ops.Mov flags.OutsideIt (bits f 8 3) 0 (bits f 0 8)) Narrow
unfolding rows decode_of
constants_mov_imm8 f s h0 h1 = known_by refusals rows (first 13 3 1 ∷ first 11 2 0 ∷ []) ([]) f s (and_from _ _ (eq-eqb _ _ h0) (eq-eqb _ _ h1)) refl

pub constants_cmp_imm8 : (f s : ℕ) → bits f 13 3 ≡ 1 → bits f 11 2 ≡ 1 → decode_of f s ≡ One (insns.DataImm ops.Cmp flags.Always 0 (bits f 8 3) (bits f 0 8)) Narrow
unfolding rows decode_of
constants_cmp_imm8 f s h0 h1 = known_by refusals rows (first 13 3 1 ∷ first 11 2 1 ∷ []) ([]) f s (and_from _ _ (eq-eqb _ _ h0) (eq-eqb _ _ h1)) refl

pub constants_add_imm8 : (f s : ℕ) → bits f 13 3 ≡ 1 → bits f 11 2 ≡ 2 → decode_of f s ≡ One (insns.DataImm ops.Add flags.OutsideIt (bits f 8 3) (bits f 8 3) (bits f 0 8)) Narrow
unfolding rows decode_of
constants_add_imm8 f s h0 h1 = known_by refusals rows (first 13 3 1 ∷ first 11 2 2 ∷ []) ([]) f s (and_from _ _ (eq-eqb _ _ h0) (eq-eqb _ _ h1)) refl

pub constants_sub_imm8 : (f s : ℕ) → bits f 13 3 ≡ 1 → bits f 11 2 ≡ 3 → decode_of f s ≡ One (insns.DataImm ops.Sub flags.OutsideIt (bits f 8 3) (bits f 8 3) (bits f 0 8)) Narrow
unfolding rows decode_of
constants_sub_imm8 f s h0 h1 = known_by refusals rows (first 13 3 1 ∷ first 11 2 3 ∷ []) ([]) f s (and_from _ _ (eq-eqb _ _ h0) (eq-eqb _ _ h1)) refl

pub ruleset constants = (constants_mov_imm8, constants_cmp_imm8, constants_add_imm8, constants_sub_imm8)

-- ---- 010000

pub registers_and_low : (f s : ℕ) → bits f 10 6 ≡ 16 → bits f 6 4 ≡ 0 → decode_of f s ≡ One (insns.DataReg ops.And flags.OutsideIt (bits f 0 3) (bits f 0 3) (bits f 3 3) shifts.Lsl 0) Narrow
unfolding rows decode_of
registers_and_low f s h0 h1 = known_by refusals rows (first 10 6 16 ∷ first 6 4 0 ∷ []) ([]) f s (and_from _ _ (eq-eqb _ _ h0) (eq-eqb _ _ h1)) refl

pub registers_eor_low : (f s : ℕ) → bits f 10 6 ≡ 16 → bits f 6 4 ≡ 1 → decode_of f s ≡ One (insns.DataReg ops.Eor flags.OutsideIt (bits f 0 3) (bits f 0 3) (bits f 3 3) shifts.Lsl 0) Narrow
unfolding rows decode_of
registers_eor_low f s h0 h1 = known_by refusals rows (first 10 6 16 ∷ first 6 4 1 ∷ []) ([]) f s (and_from _ _ (eq-eqb _ _ h0) (eq-eqb _ _ h1)) refl

pub registers_lsl_low : (f s : ℕ) → bits f 10 6 ≡ 16 → bits f 6 4 ≡ 2 → decode_of f s ≡ One (insns.ShiftReg shifts.Lsl flags.OutsideIt (bits f 0 3) (bits f 0 3) (bits f 3 3)) Narrow
unfolding rows decode_of
registers_lsl_low f s h0 h1 = known_by refusals rows (first 10 6 16 ∷ first 6 4 2 ∷ []) ([]) f s (and_from _ _ (eq-eqb _ _ h0) (eq-eqb _ _ h1)) refl

pub registers_lsr_low : (f s : ℕ) → bits f 10 6 ≡ 16 → bits f 6 4 ≡ 3 → decode_of f s ≡ One (insns.ShiftReg shifts.Lsr flags.OutsideIt (bits f 0 3) (bits f 0 3) (bits f 3 3)) Narrow
unfolding rows decode_of
registers_lsr_low f s h0 h1 = known_by refusals rows (first 10 6 16 ∷ first 6 4 3 ∷ []) ([]) f s (and_from _ _ (eq-eqb _ _ h0) (eq-eqb _ _ h1)) refl

pub registers_asr_low : (f s : ℕ) → bits f 10 6 ≡ 16 → bits f 6 4 ≡ 4 → decode_of f s ≡ One (insns.ShiftReg shifts.Asr flags.OutsideIt (bits f 0 3) (bits f 0 3) (bits f 3 3)) Narrow
unfolding rows decode_of
registers_asr_low f s h0 h1 = known_by refusals rows (first 10 6 16 ∷ first 6 4 4 ∷ []) ([]) f s (and_from _ _ (eq-eqb _ _ h0) (eq-eqb _ _ h1)) refl

pub registers_adc_low : (f s : ℕ) → bits f 10 6 ≡ 16 → bits f 6 4 ≡ 5 → decode_of f s ≡ One (insns.DataReg ops.Adc flags.OutsideIt (bits f 0 3) (bits f 0 3) (bits f 3 3) shifts.Lsl 0) Narrow
unfolding rows decode_of
registers_adc_low f s h0 h1 = known_by refusals rows (first 10 6 16 ∷ first 6 4 5 ∷ []) ([]) f s (and_from _ _ (eq-eqb _ _ h0) (eq-eqb _ _ h1)) refl

pub registers_sbc_low : (f s : ℕ) → bits f 10 6 ≡ 16 → bits f 6 4 ≡ 6 → decode_of f s ≡ One (insns.DataReg ops.Sbc flags.OutsideIt (bits f 0 3) (bits f 0 3) (bits f 3 3) shifts.Lsl 0) Narrow
unfolding rows decode_of
registers_sbc_low f s h0 h1 = known_by refusals rows (first 10 6 16 ∷ first 6 4 6 ∷ []) ([]) f s (and_from _ _ (eq-eqb _ _ h0) (eq-eqb _ _ h1)) refl

pub registers_ror_low : (f s : ℕ) → bits f 10 6 ≡ 16 → bits f 6 4 ≡ 7 → decode_of f s ≡ One (insns.ShiftReg shifts.Ror flags.OutsideIt (bits f 0 3) (bits f 0 3) (bits f 3 3)) Narrow
unfolding rows decode_of
registers_ror_low f s h0 h1 = known_by refusals rows (first 10 6 16 ∷ first 6 4 7 ∷ []) ([]) f s (and_from _ _ (eq-eqb _ _ h0) (eq-eqb _ _ h1)) refl

pub registers_tst_low : (f s : ℕ) → bits f 10 6 ≡ 16 → bits f 6 4 ≡ 8 → decode_of f s ≡ One (insns.DataReg ops.Tst flags.Always 0 (bits f 0 3) (bits f 3 3) shifts.Lsl 0) Narrow
unfolding rows decode_of
registers_tst_low f s h0 h1 = known_by refusals rows (first 10 6 16 ∷ first 6 4 8 ∷ []) ([]) f s (and_from _ _ (eq-eqb _ _ h0) (eq-eqb _ _ h1)) refl

pub registers_rsb_low : (f s : ℕ) → bits f 10 6 ≡ 16 → bits f 6 4 ≡ 9 → decode_of f s ≡ One (insns.DataImm ops.Rsb flags.OutsideIt (bits f 0 3) (bits f 3 3) 0) Narrow
unfolding rows decode_of
registers_rsb_low f s h0 h1 = known_by refusals rows (first 10 6 16 ∷ first 6 4 9 ∷ []) ([]) f s (and_from _ _ (eq-eqb _ _ h0) (eq-eqb _ _ h1)) refl

pub registers_cmp_low : (f s : ℕ) → bits f 10 6 ≡ 16 → bits f 6 4 ≡ 10 → decode_of f s ≡ One (insns.DataReg ops.Cmp flags.Always 0 (bits f 0 3) (bits f 3 3) shifts.Lsl 0) Narrow
unfolding rows decode_of
registers_cmp_low f s h0 h1 = known_by refusals rows (first 10 6 16 ∷ first 6 4 10 ∷ []) ([]) f s (and_from _ _ (eq-eqb _ _ h0) (eq-eqb _ _ h1)) refl

pub registers_cmn_low : (f s : ℕ) → bits f 10 6 ≡ 16 → bits f 6 4 ≡ 11 → decode_of f s ≡ One (insns.DataReg ops.Cmn flags.Always 0 (bits f 0 3) (bits f 3 3) shifts.Lsl 0) Narrow
unfolding rows decode_of
registers_cmn_low f s h0 h1 = known_by refusals rows (first 10 6 16 ∷ first 6 4 11 ∷ []) ([]) f s (and_from _ _ (eq-eqb _ _ h0) (eq-eqb _ _ h1)) refl

pub registers_orr_low : (f s : ℕ) → bits f 10 6 ≡ 16 → bits f 6 4 ≡ 12 → decode_of f s ≡ One (insns.DataReg ops.Orr flags.OutsideIt (bits f 0 3) (bits f 0 3) (bits f 3 3) shifts.Lsl 0) Narrow
unfolding rows decode_of
registers_orr_low f s h0 h1 = known_by refusals rows (first 10 6 16 ∷ first 6 4 12 ∷ []) ([]) f s (and_from _ _ (eq-eqb _ _ h0) (eq-eqb _ _ h1)) refl

pub registers_mul_low : (f s : ℕ) → bits f 10 6 ≡ 16 → bits f 6 4 ≡ 13 → decode_of f s ≡ One (insns.Multiply multiplies.Mul flags.OutsideIt (bits f 0 3) (bits f 3 3) (bits f 0 3) 0) Narrow
unfolding rows decode_of
registers_mul_low f s h0 h1 = known_by refusals rows (first 10 6 16 ∷ first 6 4 13 ∷ []) ([]) f s (and_from _ _ (eq-eqb _ _ h0) (eq-eqb _ _ h1)) refl

pub registers_bic_low : (f s : ℕ) → bits f 10 6 ≡ 16 → bits f 6 4 ≡ 14 → decode_of f s ≡ One (insns.DataReg ops.Bic flags.OutsideIt (bits f 0 3) (bits f 0 3) (bits f 3 3) shifts.Lsl 0) Narrow
unfolding rows decode_of
registers_bic_low f s h0 h1 = known_by refusals rows (first 10 6 16 ∷ first 6 4 14 ∷ []) ([]) f s (and_from _ _ (eq-eqb _ _ h0) (eq-eqb _ _ h1)) refl

pub registers_mvn_low : (f s : ℕ) → bits f 10 6 ≡ 16 → bits f 6 4 ≡ 15 → decode_of f s ≡ One (insns.DataReg ops.Mvn flags.OutsideIt (bits f 0 3) 0 (bits f 3 3) shifts.Lsl 0) Narrow
unfolding rows decode_of
registers_mvn_low f s h0 h1 = known_by refusals rows (first 10 6 16 ∷ first 6 4 15 ∷ []) ([]) f s (and_from _ _ (eq-eqb _ _ h0) (eq-eqb _ _ h1)) refl

pub ruleset registers = (registers_and_low, registers_eor_low, registers_lsl_low, registers_lsr_low, registers_asr_low, registers_adc_low, registers_sbc_low, registers_ror_low, registers_tst_low, registers_rsb_low, registers_cmp_low, registers_cmn_low, registers_orr_low, registers_mul_low, registers_bic_low, registers_mvn_low)

-- ---- 010001

pub high_registers_add_high : (f s : ℕ) → bits f 10 6 ≡ 17 → bits f 8 2 ≡ 0 → decode_of f s ≡ (if can_add_high (high_register f) (bits f 3 4) then One (insns.DataReg ops.Add flags.Never (high_register f) (high_register f) (bits f 3 4) shifts.Lsl 0) Narrow else Undefined Narrow)
unfolding rows decode_of
high_registers_add_high f s h0 h1 = known_by refusals rows (first 10 6 17 ∷ first 8 2 0 ∷ []) ([]) f s (and_from _ _ (eq-eqb _ _ h0) (eq-eqb _ _ h1)) refl

pub high_registers_cmp_high : (f s : ℕ) → bits f 10 6 ≡ 17 → bits f 8 2 ≡ 1 → decode_of f s ≡ (if can_compare_high (high_register f) (bits f 3 4) then One (insns.DataReg ops.Cmp flags.Always 0 (high_register f) (bits f 3 4) shifts.Lsl 0) Narrow else Undefined Narrow)
unfolding rows decode_of
high_registers_cmp_high f s h0 h1 = known_by refusals rows (first 10 6 17 ∷ first 8 2 1 ∷ []) ([]) f s (and_from _ _ (eq-eqb _ _ h0) (eq-eqb _ _ h1)) refl

pub high_registers_mov_high : (f s : ℕ) → bits f 10 6 ≡ 17 → bits f 8 2 ≡ 2 → decode_of f s ≡ One (insns.DataReg ops.Mov flags.Never (high_register f) 0 (bits f 3 4) shifts.Lsl 0) Narrow
unfolding rows decode_of
high_registers_mov_high f s h0 h1 = known_by refusals rows (first 10 6 17 ∷ first 8 2 2 ∷ []) ([]) f s (and_from _ _ (eq-eqb _ _ h0) (eq-eqb _ _ h1)) refl

pub ruleset high_registers = (high_registers_add_high, high_registers_cmp_high, high_registers_mov_high)

-- ---- 01000111

pub exchanges_bx : (f s : ℕ) → bits f 8 8 ≡ 71 → bits f 7 1 ≡ 0 → bits f 0 2 ≡ 0 → decode_of f s ≡ (if can_exchange (bits f 3 4) (bits f 2 1) then One (insns.BranchExchange (bits f 3 4) (is_one (bits f 2 1))) Narrow else Undefined Narrow)
unfolding rows decode_of
exchanges_bx f s h0 h1 h2 = known_by refusals rows (first 8 8 71 ∷ first 7 1 0 ∷ first 0 2 0 ∷ []) ([]) f s (and_from _ _ (eq-eqb _ _ h0) (and_from _ _ (eq-eqb _ _ h1) (eq-eqb _ _ h2))) refl

pub exchanges_blx : (f s : ℕ) → bits f 8 8 ≡ 71 → bits f 7 1 ≡ 1 → bits f 0 2 ≡ 0 → decode_of f s ≡ (if can_exchange (bits f 3 4) (bits f 2 1) then One (insns.CallExchange (bits f 3 4) (is_one (bits f 2 1))) Narrow else Undefined Narrow)
unfolding rows decode_of
exchanges_blx f s h0 h1 h2 = known_by refusals rows (first 8 8 71 ∷ first 7 1 1 ∷ first 0 2 0 ∷ []) ([]) f s (and_from _ _ (eq-eqb _ _ h0) (and_from _ _ (eq-eqb _ _ h1) (eq-eqb _ _ h2))) refl

pub exchanges_low : (f s : ℕ) → bits f 8 8 ≡ 71 → bits f 0 2 ≢ 0 → decode_of f s ≡ Undefined Narrow
unfolding rows decode_of
exchanges_low f s h0 h1 = known_by refusals rows (first 8 8 71 ∷ []) ((first 0 2 0 ∷ []) ∷ []) f s (eq-eqb _ _ h0) (ne_eqb _ _ h1)

pub ruleset exchanges = (exchanges_bx, exchanges_blx, exchanges_low)

-- ---- 01001

pub literal_ldr_literal : (f s : ℕ) → bits f 11 5 ≡ 9 → decode_of f s ≡ One (insns.Load sizes.Word false (bits f 8 3) (addresses.Literal (pos (bits f 0 8 * 4))) false) Narrow
unfolding rows decode_of
literal_ldr_literal f s h0 = known_by refusals rows (first 11 5 9 ∷ []) ([]) f s (eq-eqb _ _ h0) refl

pub ruleset literal = (literal_ldr_literal)

-- ---- 0101

pub indexes_str_index : (f s : ℕ) → bits f 12 4 ≡ 5 → bits f 9 3 ≡ 0 → decode_of f s ≡ One (insns.Store sizes.Word (bits f 0 3) (addresses.Index (bits f 3 3) (bits f 6 3) 0) false) Narrow
unfolding rows decode_of
indexes_str_index f s h0 h1 = known_by refusals rows (first 12 4 5 ∷ first 9 3 0 ∷ []) ([]) f s (and_from _ _ (eq-eqb _ _ h0) (eq-eqb _ _ h1)) refl

pub indexes_strh_index : (f s : ℕ) → bits f 12 4 ≡ 5 → bits f 9 3 ≡ 1 → decode_of f s ≡ One (insns.Store sizes.Half (bits f 0 3) (addresses.Index (bits f 3 3) (bits f 6 3) 0) false) Narrow
unfolding rows decode_of
indexes_strh_index f s h0 h1 = known_by refusals rows (first 12 4 5 ∷ first 9 3 1 ∷ []) ([]) f s (and_from _ _ (eq-eqb _ _ h0) (eq-eqb _ _ h1)) refl

pub indexes_strb_index : (f s : ℕ) → bits f 12 4 ≡ 5 → bits f 9 3 ≡ 2 → decode_of f s ≡ One (insns.Store sizes.Byte (bits f 0 3) (addresses.Index (bits f 3 3) (bits f 6 3) 0) false) Narrow
unfolding rows decode_of
indexes_strb_index f s h0 h1 = known_by refusals rows (first 12 4 5 ∷ first 9 3 2 ∷ []) ([]) f s (and_from _ _ (eq-eqb _ _ h0) (eq-eqb _ _ h1)) refl

pub indexes_ldrsb_index : (f s : ℕ) → bits f 12 4 ≡ 5 → bits f 9 3 ≡ 3 → decode_of f s ≡ One (insns.Load sizes.Byte true (bits f 0 3) (addresses.Index (bits f 3 3) (bits f 6 3) 0) false) Narrow
unfolding rows decode_of
indexes_ldrsb_index f s h0 h1 = known_by refusals rows (first 12 4 5 ∷ first 9 3 3 ∷ []) ([]) f s (and_from _ _ (eq-eqb _ _ h0) (eq-eqb _ _ h1)) refl

pub indexes_ldr_index : (f s : ℕ) → bits f 12 4 ≡ 5 → bits f 9 3 ≡ 4 → decode_of f s ≡ One (insns.Load sizes.Word false (bits f 0 3) (addresses.Index (bits f 3 3) (bits f 6 3) 0) false) Narrow
unfolding rows decode_of
indexes_ldr_index f s h0 h1 = known_by refusals rows (first 12 4 5 ∷ first 9 3 4 ∷ []) ([]) f s (and_from _ _ (eq-eqb _ _ h0) (eq-eqb _ _ h1)) refl

pub indexes_ldrh_index : (f s : ℕ) → bits f 12 4 ≡ 5 → bits f 9 3 ≡ 5 → decode_of f s ≡ One (insns.Load sizes.Half false (bits f 0 3) (addresses.Index (bits f 3 3) (bits f 6 3) 0) false) Narrow
unfolding rows decode_of
indexes_ldrh_index f s h0 h1 = known_by refusals rows (first 12 4 5 ∷ first 9 3 5 ∷ []) ([]) f s (and_from _ _ (eq-eqb _ _ h0) (eq-eqb _ _ h1)) refl

pub indexes_ldrb_index : (f s : ℕ) → bits f 12 4 ≡ 5 → bits f 9 3 ≡ 6 → decode_of f s ≡ One (insns.Load sizes.Byte false (bits f 0 3) (addresses.Index (bits f 3 3) (bits f 6 3) 0) false) Narrow
unfolding rows decode_of
indexes_ldrb_index f s h0 h1 = known_by refusals rows (first 12 4 5 ∷ first 9 3 6 ∷ []) ([]) f s (and_from _ _ (eq-eqb _ _ h0) (eq-eqb _ _ h1)) refl

pub indexes_ldrsh_index : (f s : ℕ) → bits f 12 4 ≡ 5 → bits f 9 3 ≡ 7 → decode_of f s ≡ One (insns.Load sizes.Half true (bits f 0 3) (addresses.Index (bits f 3 3) (bits f 6 3) 0) false) Narrow
unfolding rows decode_of
indexes_ldrsh_index f s h0 h1 = known_by refusals rows (first 12 4 5 ∷ first 9 3 7 ∷ []) ([]) f s (and_from _ _ (eq-eqb _ _ h0) (eq-eqb _ _ h1)) refl

pub ruleset indexes = (indexes_str_index, indexes_strh_index, indexes_strb_index, indexes_ldrsb_index, indexes_ldr_index, indexes_ldrh_index, indexes_ldrb_index, indexes_ldrsh_index)

-- ---- 0110 to 1010

pub offsets_str_offset : (f s : ℕ) → bits f 11 5 ≡ 12 → decode_of f s ≡ One (insns.Store sizes.Word (bits f 0 3) (addresses.Offset (bits f 3 3) (pos (bits f 6 5 * 4))) false) Narrow
unfolding rows decode_of
offsets_str_offset f s h0 = known_by refusals rows (first 11 5 12 ∷ []) ([]) f s (eq-eqb _ _ h0) refl

pub offsets_ldr_offset : (f s : ℕ) → bits f 11 5 ≡ 13 → decode_of f s ≡ One (insns.Load sizes.Word false (bits f 0 3) (addresses.Offset (bits f 3 3) (pos (bits f 6 5 * 4))) false) Narrow
unfolding rows decode_of
offsets_ldr_offset f s h0 = known_by refusals rows (first 11 5 13 ∷ []) ([]) f s (eq-eqb _ _ h0) refl

pub offsets_strb_offset : (f s : ℕ) → bits f 11 5 ≡ 14 → decode_of f s ≡ One (insns.Store sizes.Byte (bits f 0 3) (addresses.Offset (bits f 3 3) (pos (bits f 6 5))) false) Narrow
unfolding rows decode_of
offsets_strb_offset f s h0 = known_by refusals rows (first 11 5 14 ∷ []) ([]) f s (eq-eqb _ _ h0) refl

pub offsets_ldrb_offset : (f s : ℕ) → bits f 11 5 ≡ 15 → decode_of f s ≡ One (insns.Load sizes.Byte false (bits f 0 3) (addresses.Offset (bits f 3 3) (pos (bits f 6 5))) false) Narrow
unfolding rows decode_of
offsets_ldrb_offset f s h0 = known_by refusals rows (first 11 5 15 ∷ []) ([]) f s (eq-eqb _ _ h0) refl

pub offsets_strh_offset : (f s : ℕ) → bits f 11 5 ≡ 16 → decode_of f s ≡ One (insns.Store sizes.Half (bits f 0 3) (addresses.Offset (bits f 3 3) (pos (bits f 6 5 * 2))) false) Narrow
unfolding rows decode_of
offsets_strh_offset f s h0 = known_by refusals rows (first 11 5 16 ∷ []) ([]) f s (eq-eqb _ _ h0) refl

pub offsets_ldrh_offset : (f s : ℕ) → bits f 11 5 ≡ 17 → decode_of f s ≡ One (insns.Load sizes.Half false (bits f 0 3) (addresses.Offset (bits f 3 3) (pos (bits f 6 5 * 2))) false) Narrow
unfolding rows decode_of
offsets_ldrh_offset f s h0 = known_by refusals rows (first 11 5 17 ∷ []) ([]) f s (eq-eqb _ _ h0) refl

pub offsets_str_sp : (f s : ℕ) → bits f 11 5 ≡ 18 → decode_of f s ≡ One (insns.Store sizes.Word (bits f 8 3) (addresses.Offset 13 (pos (bits f 0 8 * 4))) false) Narrow
unfolding rows decode_of
offsets_str_sp f s h0 = known_by refusals rows (first 11 5 18 ∷ []) ([]) f s (eq-eqb _ _ h0) refl

pub offsets_ldr_sp : (f s : ℕ) → bits f 11 5 ≡ 19 → decode_of f s ≡ One (insns.Load sizes.Word false (bits f 8 3) (addresses.Offset 13 (pos (bits f 0 8 * 4))) false) Narrow
unfolding rows decode_of
offsets_ldr_sp f s h0 = known_by refusals rows (first 11 5 19 ∷ []) ([]) f s (eq-eqb _ _ h0) refl

pub offsets_adr : (f s : ℕ) → bits f 11 5 ≡ 20 → decode_of f s ≡ One (insns.Adr (bits f 8 3) (pos (bits f 0 8 * 4))) Narrow
unfolding rows decode_of
offsets_adr f s h0 = known_by refusals rows (first 11 5 20 ∷ []) ([]) f s (eq-eqb _ _ h0) refl

pub offsets_add_sp_imm8 : (f s : ℕ) → bits f 11 5 ≡ 21 → decode_of f s ≡ One (insns.AddWide false (bits f 8 3) 13 (bits f 0 8 * 4)) Narrow
unfolding rows decode_of
offsets_add_sp_imm8 f s h0 = known_by refusals rows (first 11 5 21 ∷ []) ([]) f s (eq-eqb _ _ h0) refl

pub ruleset offsets = (offsets_str_offset, offsets_ldr_offset, offsets_strb_offset, offsets_ldrb_offset, offsets_strh_offset, offsets_ldrh_offset, offsets_str_sp, offsets_ldr_sp, offsets_adr, offsets_add_sp_imm8)

-- ---- 1011

pub miscellaneous_add_sp_imm7 : (f s : ℕ) → bits f 12 4 ≡ 11 → bits f 8 4 ≡ 0 → decode_of f s ≡ One (insns.AddWide (is_one (bits f 7 1)) 13 13 (bits f 0 7 * 4)) Narrow
unfolding rows decode_of
miscellaneous_add_sp_imm7 f s h0 h1 = known_by refusals rows (first 12 4 11 ∷ first 8 4 0 ∷ []) ([]) f s (and_from _ _ (eq-eqb _ _ h0) (eq-eqb _ _ h1)) refl

pub miscellaneous_bkpt : (f s : ℕ) → bits f 12 4 ≡ 11 → bits f 8 4 ≡ 14 → decode_of f s ≡ One (insns.Breakpoint (bits f 0 8)) Narrow
unfolding rows decode_of
miscellaneous_bkpt f s h0 h1 = known_by refusals rows (first 12 4 11 ∷ first 8 4 14 ∷ []) ([]) f s (and_from _ _ (eq-eqb _ _ h0) (eq-eqb _ _ h1)) refl

pub miscellaneous_seven : (f s : ℕ) → bits f 12 4 ≡ 11 → bits f 8 4 ≡ 7 → decode_of f s ≡ Undefined Narrow
unfolding rows decode_of
miscellaneous_seven f s h0 h1 = known_by refusals rows (first 12 4 11 ∷ first 8 4 7 ∷ []) ([]) f s (and_from _ _ (eq-eqb _ _ h0) (eq-eqb _ _ h1)) refl

pub miscellaneous_eight : (f s : ℕ) → bits f 12 4 ≡ 11 → bits f 8 4 ≡ 8 → decode_of f s ≡ Undefined Narrow
unfolding rows decode_of
miscellaneous_eight f s h0 h1 = known_by refusals rows (first 12 4 11 ∷ first 8 4 8 ∷ []) ([]) f s (and_from _ _ (eq-eqb _ _ h0) (eq-eqb _ _ h1)) refl

pub ruleset miscellaneous = (miscellaneous_add_sp_imm7, miscellaneous_bkpt, miscellaneous_seven, miscellaneous_eight)

-- ---- 1011.0.1

pub compare_and_branch_cbz : (f s : ℕ) → bits f 12 4 ≡ 11 → bits f 10 1 ≡ 0 → bits f 8 1 ≡ 1 → decode_of f s ≡ One (insns.BranchZero (is_one (bits f 11 1)) (bits f 0 3) (pos (bits f 9 1 * 64 + bits f 3 5 * 2))) Narrow
unfolding rows decode_of
compare_and_branch_cbz f s h0 h1 h2 = known_by refusals rows (first 12 4 11 ∷ first 10 1 0 ∷ first 8 1 1 ∷ []) ([]) f s (and_from _ _ (eq-eqb _ _ h0) (and_from _ _ (eq-eqb _ _ h1) (eq-eqb _ _ h2))) refl

pub ruleset compare_and_branch = (compare_and_branch_cbz)

-- ---- 10110010

pub extensions_sxth : (f s : ℕ) → bits f 8 8 ≡ 178 → bits f 6 2 ≡ 0 → decode_of f s ≡ One (insns.Extend extends.Sxth (bits f 0 3) (bits f 3 3) 0) Narrow
unfolding rows decode_of
extensions_sxth f s h0 h1 = known_by refusals rows (first 8 8 178 ∷ first 6 2 0 ∷ []) ([]) f s (and_from _ _ (eq-eqb _ _ h0) (eq-eqb _ _ h1)) refl

pub extensions_sxtb : (f s : ℕ) → bits f 8 8 ≡ 178 → bits f 6 2 ≡ 1 → decode_of f s ≡ One (insns.Extend extends.Sxtb (bits f 0 3) (bits f 3 3) 0) Narrow
unfolding rows decode_of
extensions_sxtb f s h0 h1 = known_by refusals rows (first 8 8 178 ∷ first 6 2 1 ∷ []) ([]) f s (and_from _ _ (eq-eqb _ _ h0) (eq-eqb _ _ h1)) refl

pub extensions_uxth : (f s : ℕ) → bits f 8 8 ≡ 178 → bits f 6 2 ≡ 2 → decode_of f s ≡ One (insns.Extend extends.Uxth (bits f 0 3) (bits f 3 3) 0) Narrow
unfolding rows decode_of
extensions_uxth f s h0 h1 = known_by refusals rows (first 8 8 178 ∷ first 6 2 2 ∷ []) ([]) f s (and_from _ _ (eq-eqb _ _ h0) (eq-eqb _ _ h1)) refl

pub extensions_uxtb : (f s : ℕ) → bits f 8 8 ≡ 178 → bits f 6 2 ≡ 3 → decode_of f s ≡ One (insns.Extend extends.Uxtb (bits f 0 3) (bits f 3 3) 0) Narrow
unfolding rows decode_of
extensions_uxtb f s h0 h1 = known_by refusals rows (first 8 8 178 ∷ first 6 2 3 ∷ []) ([]) f s (and_from _ _ (eq-eqb _ _ h0) (eq-eqb _ _ h1)) refl

pub ruleset extensions = (extensions_sxth, extensions_sxtb, extensions_uxth, extensions_uxtb)

-- ---- 1011010

pub push_push : (f s : ℕ) → bits f 9 7 ≡ 90 → decode_of f s ≡ (if not_zero (bits f 0 9) then One (insns.StoreMany 13 (bits f 8 1 * 16384 + bits f 0 8) true true) Narrow else Undefined Narrow)
unfolding rows decode_of
push_push f s h0 = known_by refusals rows (first 9 7 90 ∷ []) ([]) f s (eq-eqb _ _ h0) refl

pub ruleset push = (push_push)

-- ---- 1011110

pub pop_pop : (f s : ℕ) → bits f 9 7 ≡ 94 → decode_of f s ≡ (if not_zero (bits f 0 9) then One (insns.LoadMany 13 (bits f 8 1 * 32768 + bits f 0 8) false true) Narrow else Undefined Narrow)
unfolding rows decode_of
pop_pop f s h0 = known_by refusals rows (first 9 7 94 ∷ []) ([]) f s (eq-eqb _ _ h0) refl

pub ruleset pop = (pop_pop)

-- ---- 10110110

pub change_state_cps : (f s : ℕ) → bits f 8 8 ≡ 182 → bits f 5 3 ≡ 3 → bits f 2 2 ≡ 0 → decode_of f s ≡ (if not_zero (bits f 0 2) then One (insns.ChangeState (is_one (bits f 4 1)) (is_one (bits f 1 1)) (is_one (bits f 0 1))) Narrow else Undefined Narrow)
unfolding rows decode_of
change_state_cps f s h0 h1 h2 = known_by refusals rows (first 8 8 182 ∷ first 5 3 3 ∷ first 2 2 0 ∷ []) ([]) f s (and_from _ _ (eq-eqb _ _ h0) (and_from _ _ (eq-eqb _ _ h1) (eq-eqb _ _ h2))) refl

pub change_state_high : (f s : ℕ) → bits f 8 8 ≡ 182 → bits f 5 3 ≢ 3 → decode_of f s ≡ Undefined Narrow
unfolding rows decode_of
change_state_high f s h0 h1 = known_by refusals rows (first 8 8 182 ∷ []) ((first 5 3 3 ∷ []) ∷ []) f s (eq-eqb _ _ h0) (ne_eqb _ _ h1)

pub change_state_low : (f s : ℕ) → bits f 8 8 ≡ 182 → bits f 2 2 ≢ 0 → decode_of f s ≡ Undefined Narrow
unfolding rows decode_of
change_state_low f s h0 h1 = known_by refusals rows (first 8 8 182 ∷ []) ((first 2 2 0 ∷ []) ∷ []) f s (eq-eqb _ _ h0) (ne_eqb _ _ h1)

pub ruleset change_state = (change_state_cps, change_state_high, change_state_low)

-- ---- 10111010

pub reversals_rev : (f s : ℕ) → bits f 8 8 ≡ 186 → bits f 6 2 ≡ 0 → decode_of f s ≡ One (insns.Reverse reverses.Rev (bits f 0 3) (bits f 3 3)) Narrow
unfolding rows decode_of
reversals_rev f s h0 h1 = known_by refusals rows (first 8 8 186 ∷ first 6 2 0 ∷ []) ([]) f s (and_from _ _ (eq-eqb _ _ h0) (eq-eqb _ _ h1)) refl

pub reversals_rev16 : (f s : ℕ) → bits f 8 8 ≡ 186 → bits f 6 2 ≡ 1 → decode_of f s ≡ One (insns.Reverse reverses.Rev16 (bits f 0 3) (bits f 3 3)) Narrow
unfolding rows decode_of
reversals_rev16 f s h0 h1 = known_by refusals rows (first 8 8 186 ∷ first 6 2 1 ∷ []) ([]) f s (and_from _ _ (eq-eqb _ _ h0) (eq-eqb _ _ h1)) refl

pub reversals_revsh : (f s : ℕ) → bits f 8 8 ≡ 186 → bits f 6 2 ≡ 3 → decode_of f s ≡ One (insns.Reverse reverses.Revsh (bits f 0 3) (bits f 3 3)) Narrow
unfolding rows decode_of
reversals_revsh f s h0 h1 = known_by refusals rows (first 8 8 186 ∷ first 6 2 3 ∷ []) ([]) f s (and_from _ _ (eq-eqb _ _ h0) (eq-eqb _ _ h1)) refl

pub reversals_other : (f s : ℕ) → bits f 8 8 ≡ 186 → bits f 6 2 ≡ 2 → decode_of f s ≡ Undefined Narrow
unfolding rows decode_of
reversals_other f s h0 h1 = known_by refusals rows (first 8 8 186 ∷ first 6 2 2 ∷ []) ([]) f s (and_from _ _ (eq-eqb _ _ h0) (eq-eqb _ _ h1)) refl

pub ruleset reversals = (reversals_rev, reversals_rev16, reversals_revsh, reversals_other)

-- ---- 10111111

pub hints_hint : (f s : ℕ) → bits f 8 8 ≡ 191 → bits f 0 4 ≡ 0 → decode_of f s ≡ One (insns.Hint (bits f 4 4)) Narrow
unfolding rows decode_of
hints_hint f s h0 h1 = known_by refusals rows (first 8 8 191 ∷ first 0 4 0 ∷ []) ([]) f s (and_from _ _ (eq-eqb _ _ h0) (eq-eqb _ _ h1)) refl

pub hints_if_then : (f s : ℕ) → bits f 8 8 ≡ 191 → bits f 0 4 ≢ 0 → decode_of f s ≡ (if can_begin (bits f 4 4) (bits f 0 4) then One (insns.IfThen (bits f 4 4) (bits f 0 4)) Narrow else Undefined Narrow)
unfolding rows decode_of
hints_if_then f s h0 h1 = known_by refusals rows (first 8 8 191 ∷ []) ((first 0 4 0 ∷ []) ∷ []) f s (eq-eqb _ _ h0) (ne_eqb _ _ h1)

pub ruleset hints = (hints_hint, hints_if_then)

-- ---- 1100

pub several_stm : (f s : ℕ) → bits f 12 4 ≡ 12 → bits f 11 1 ≡ 0 → decode_of f s ≡ (if can_store_many (bits f 8 3) (bits f 0 8) then One (insns.StoreMany (bits f 8 3) (bits f 0 8) false true) Narrow else Undefined Narrow)
unfolding rows decode_of
several_stm f s h0 h1 = known_by refusals rows (first 12 4 12 ∷ first 11 1 0 ∷ []) ([]) f s (and_from _ _ (eq-eqb _ _ h0) (eq-eqb _ _ h1)) refl

pub several_ldm : (f s : ℕ) → bits f 12 4 ≡ 12 → bits f 11 1 ≡ 1 → decode_of f s ≡ (if not_zero (bits f 0 8) then One (insns.LoadMany (bits f 8 3) (bits f 0 8) false (not (is_listed (bits f 0 8) (bits f 8 3)))) Narrow else Undefined Narrow)
unfolding rows decode_of
several_ldm f s h0 h1 = known_by refusals rows (first 12 4 12 ∷ first 11 1 1 ∷ []) ([]) f s (and_from _ _ (eq-eqb _ _ h0) (eq-eqb _ _ h1)) refl

pub ruleset several = (several_stm, several_ldm)

-- ---- 1101

pub conditional_udf : (f s : ℕ) → bits f 12 4 ≡ 13 → bits f 8 4 ≡ 14 → decode_of f s ≡ One (insns.Undefined (bits f 0 8)) Narrow
unfolding rows decode_of
conditional_udf f s h0 h1 = known_by refusals rows (first 12 4 13 ∷ first 8 4 14 ∷ []) ([]) f s (and_from _ _ (eq-eqb _ _ h0) (eq-eqb _ _ h1)) refl

pub conditional_svc : (f s : ℕ) → bits f 12 4 ≡ 13 → bits f 8 4 ≡ 15 → decode_of f s ≡ One (insns.Supervisor (bits f 0 8)) Narrow
unfolding rows decode_of
conditional_svc f s h0 h1 = known_by refusals rows (first 12 4 13 ∷ first 8 4 15 ∷ []) ([]) f s (and_from _ _ (eq-eqb _ _ h0) (eq-eqb _ _ h1)) refl

pub conditional_bcond : (f s : ℕ) → bits f 12 4 ≡ 13 → bits f 8 4 ≢ 14 → bits f 8 4 ≢ 15 → decode_of f s ≡ One (insns.BranchIf (bits f 8 4) (signed_by 256 (bits f 0 8 * 2))) Narrow
unfolding rows decode_of
conditional_bcond f s h0 h1 h2 = known_by refusals rows (first 12 4 13 ∷ []) ((first 8 4 14 ∷ []) ∷ (first 8 4 15 ∷ []) ∷ []) f s (eq-eqb _ _ h0) (or_from _ _ (ne_eqb _ _ h1) (ne_eqb _ _ h2))

pub ruleset conditional = (conditional_udf, conditional_svc, conditional_bcond)
