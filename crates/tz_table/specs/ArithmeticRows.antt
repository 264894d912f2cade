-- The rows of 32 bits for shifts by a register, extensions, reversals, multiplications, divisions, and of
-- the Security Extension.
use Rattle.std.specs.Prelude.{true, false, [], ◌∷◌}
use Rattle.tz_table.specs.Rows.{TableRow, row, row_but, any}
use Rattle.tz_table.specs.Terms.{is_one, flags_of, shift_of}
use Rattle.tz_table.specs.Limits.{not_pc, plain2, plain3, plain4, plain2_same, can_multiply_long}
use Rattle.tz_table.specs.declared.instruction.Insn.TheVariants as insns
use Rattle.tz_table.specs.declared.instruction.ExtendOp.TheVariants as extends
use Rattle.tz_table.specs.declared.instruction.ReverseOp.TheVariants as reverses
use Rattle.tz_table.specs.declared.instruction.MultiplyOp.TheVariants as multiplies
use Rattle.tz_table.specs.declared.instruction.LongOp.TheVariants as longs
use Rattle.tz_table.specs.declared.instruction.Flags.TheVariants as flags

-- lsl.w rd, rn, rm; lsr.w, asr.w, ror.w; with s lsls.w ..
abbrev pub shift_reg_w : TableRow
shift_reg_w = row "1111 1010 0tts nnnn | 1111 dddd 0000 mmmm" (λ v. plain3 (v "d") (v "n") (v "m")) (λ v. insns.ShiftReg (shift_of (v "t")) (flags_of (v "s")) (v "d") (v "n") (v "m"))

-- sxth.w rd, rm, ror #8r
abbrev pub sxth_w : TableRow
sxth_w = row "1111 1010 0000 1111 | 1111 dddd 10rr mmmm" (λ v. plain2 (v "d") (v "m")) (λ v. insns.Extend extends.Sxth (v "d") (v "m") (v "r000"))

-- uxth.w rd, rm, ror #8r
abbrev pub uxth_w : TableRow
uxth_w = row "1111 1010 0001 1111 | 1111 dddd 10rr mmmm" (λ v. plain2 (v "d") (v "m")) (λ v. insns.Extend extends.Uxth (v "d") (v "m") (v "r000"))

-- sxtb.w rd, rm, ror #8r
abbrev pub sxtb_w : TableRow
sxtb_w = row "1111 1010 0100 1111 | 1111 dddd 10rr mmmm" (λ v. plain2 (v "d") (v "m")) (λ v. insns.Extend extends.Sxtb (v "d") (v "m") (v "r000"))

-- uxtb.w rd, rm, ror #8r
abbrev pub uxtb_w : TableRow
uxtb_w = row "1111 1010 0101 1111 | 1111 dddd 10rr mmmm" (λ v. plain2 (v "d") (v "m")) (λ v. insns.Extend extends.Uxtb (v "d") (v "m") (v "r000"))

-- rev.w rd, rm; k is m
abbrev pub rev_w : TableRow
rev_w = row "1111 1010 1001 kkkk | 1111 dddd 1000 mmmm" (λ v. plain2_same (v "d") (v "m") (v "k")) (λ v. insns.Reverse reverses.Rev (v "d") (v "m"))

-- rev16.w rd, rm; k is m
abbrev pub rev16_w : TableRow
rev16_w = row "1111 1010 1001 kkkk | 1111 dddd 1001 mmmm" (λ v. plain2_same (v "d") (v "m") (v "k")) (λ v. insns.Reverse reverses.Rev16 (v "d") (v "m"))

-- rbit rd, rm; k is m
abbrev pub rbit : TableRow
rbit = row "1111 1010 1001 kkkk | 1111 dddd 1010 mmmm" (λ v. plain2_same (v "d") (v "m") (v "k")) (λ v. insns.Reverse reverses.Rbit (v "d") (v "m"))

-- revsh.w rd, rm; k is m
abbrev pub revsh_w : TableRow
revsh_w = row "1111 1010 1001 kkkk | 1111 dddd 1011 mmmm" (λ v. plain2_same (v "d") (v "m") (v "k")) (λ v. insns.Reverse reverses.Revsh (v "d") (v "m"))

-- clz rd, rm; k is m
abbrev pub clz : TableRow
clz = row "1111 1010 1011 kkkk | 1111 dddd 1000 mmmm" (λ v. plain2_same (v "d") (v "m") (v "k")) (λ v. insns.Reverse reverses.Clz (v "d") (v "m"))

-- mla rd, rn, rm, ra
abbrev pub mla : TableRow
mla = row_but "1111 1011 0000 nnnn | aaaa dddd 0000 mmmm" (λ x. (x "a" 15 ∷ []) ∷ []) (λ v. plain4 (v "d") (v "n") (v "m") (v "a")) (λ v. insns.Multiply multiplies.Mla flags.Never (v "d") (v "n") (v "m") (v "a"))

-- mul.w rd, rn, rm
abbrev pub mul_w : TableRow
mul_w = row "1111 1011 0000 nnnn | 1111 dddd 0000 mmmm" (λ v. plain3 (v "d") (v "n") (v "m")) (λ v. insns.Multiply multiplies.Mul flags.Never (v "d") (v "n") (v "m") 0)

-- mls rd, rn, rm, ra
abbrev pub mls : TableRow
mls = row "1111 1011 0000 nnnn | aaaa dddd 0001 mmmm" (λ v. plain4 (v "d") (v "n") (v "m") (v "a")) (λ v. insns.Multiply multiplies.Mls flags.Never (v "d") (v "n") (v "m") (v "a"))

-- smull rl, rh, rn, rm; l not h
abbrev pub smull : TableRow
smull = row "1111 1011 1000 nnnn | llll hhhh 0000 mmmm" (λ v. can_multiply_long (v "l") (v "h") (v "n") (v "m")) (λ v. insns.MultiplyLong longs.Smull (v "l") (v "h") (v "n") (v "m"))

-- umull rl, rh, rn, rm; l not h
abbrev pub umull : TableRow
umull = row "1111 1011 1010 nnnn | llll hhhh 0000 mmmm" (λ v. can_multiply_long (v "l") (v "h") (v "n") (v "m")) (λ v. insns.MultiplyLong longs.Umull (v "l") (v "h") (v "n") (v "m"))

-- smlal rl, rh, rn, rm; l not h
abbrev pub smlal : TableRow
smlal = row "1111 1011 1100 nnnn | llll hhhh 0000 mmmm" (λ v. can_multiply_long (v "l") (v "h") (v "n") (v "m")) (λ v. insns.MultiplyLong longs.Smlal (v "l") (v "h") (v "n") (v "m"))

-- umlal rl, rh, rn, rm; l not h
abbrev pub umlal : TableRow
umlal = row "1111 1011 1110 nnnn | llll hhhh 0000 mmmm" (λ v. can_multiply_long (v "l") (v "h") (v "n") (v "m")) (λ v. insns.MultiplyLong longs.Umlal (v "l") (v "h") (v "n") (v "m"))

-- sdiv rd, rn, rm
abbrev pub sdiv : TableRow
sdiv = row "1111 1011 1001 nnnn | 1111 dddd 1111 mmmm" (λ v. plain3 (v "d") (v "n") (v "m")) (λ v. insns.Divide true (v "d") (v "n") (v "m"))

-- udiv rd, rn, rm
abbrev pub udiv : TableRow
udiv = row "1111 1011 1011 nnnn | 1111 dddd 1111 mmmm" (λ v. plain3 (v "d") (v "n") (v "m")) (λ v. insns.Divide false (v "d") (v "n") (v "m"))

-- sg
abbrev pub sg : TableRow
sg = row "1110 1001 0111 1111 | 1110 1001 0111 1111" any (λ v. insns.SecureGateway)

-- vlstm rn, vlldm rn
abbrev pub vlstm : TableRow
vlstm = row "1110 1100 001l nnnn | 0000 1010 0000 0000" (λ v. not_pc (v "n")) (λ v. insns.LazyState (is_one (v "l")) (v "n"))
