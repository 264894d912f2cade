-- The rows of 16 bits, in the manual's order of leading bits. Of the letters d, n, m and t are registers, i is a
-- constant, l a list, and s a single bit.
use Rattle.std.specs.Prelude.{true, false, not, [], ◌∷◌, pos}
use Rattle.tz_table.specs.Fields.{bits}
use Rattle.tz_table.specs.Rows.{TableRow, row, row_but, row_at, any}
use Rattle.tz_table.specs.Terms.{is_one, signed_by, imm_amount_of}
use Rattle.tz_table.specs.Limits.{not_zero, is_listed, can_add_high, can_compare_high, can_exchange, can_begin, can_store_many}
use Rattle.tz_table.specs.declared.instruction.Insn.TheVariants as insns
use Rattle.tz_table.specs.declared.instruction.DataOp.TheVariants as ops
use Rattle.tz_table.specs.declared.instruction.ExtendOp.TheVariants as extends
use Rattle.tz_table.specs.declared.instruction.ReverseOp.TheVariants as reverses
use Rattle.tz_table.specs.declared.instruction.MultiplyOp.TheVariants as multiplies
use Rattle.tz_table.specs.declared.instruction.Flags.TheVariants as flags
use Rattle.tz_table.specs.declared.units.Shift.TheVariants as shifts
use Rattle.tz_table.specs.declared.units.Size.TheVariants as sizes
use Rattle.tz_table.specs.declared.instruction.Address.TheVariants as addresses

-- lsls rd, rm, #i; movs rd, rm where i is 0
abbrev pub lsl_imm : TableRow
lsl_imm = row "0000 0iii iimm mddd" any (λ v. insns.DataReg ops.Mov flags.OutsideIt (v "d") 0 (v "m") shifts.Lsl (v "i"))

-- lsrs rd, rm, #i; 0 is 32
abbrev pub lsr_imm : TableRow
lsr_imm = row "0000 1iii iimm mddd" any (λ v. insns.DataReg ops.Mov flags.OutsideIt (v "d") 0 (v "m") shifts.Lsr (imm_amount_of 1 (v "i")))

-- asrs rd, rm, #i; 0 is 32
abbrev pub asr_imm : TableRow
asr_imm = row "0001 0iii iimm mddd" any (λ v. insns.DataReg ops.Mov flags.OutsideIt (v "d") 0 (v "m") shifts.Asr (imm_amount_of 2 (v "i")))

-- adds rd, rn, rm
abbrev pub add_reg : TableRow
add_reg = row "0001 100m mmnn nddd" any (λ v. insns.DataReg ops.Add flags.OutsideIt (v "d") (v "n") (v "m") shifts.Lsl 0)

-- subs rd, rn, rm
abbrev pub sub_reg : TableRow
sub_reg = row "0001 101m mmnn nddd" any (λ v. insns.DataReg ops.Sub flags.OutsideIt (v "d") (v "n") (v "m") shifts.Lsl 0)

-- adds rd, rn, #i
abbrev pub add_imm3 : TableRow
add_imm3 = row "0001 110i iinn nddd" any (λ v. insns.DataImm ops.Add flags.OutsideIt (v "d") (v "n") (v "i"))

-- subs rd, rn, #i
abbrev pub sub_imm3 : TableRow
sub_imm3 = row "0001 111i iinn nddd" any (λ v. insns.DataImm ops.Sub flags.OutsideIt (v "d") (v "n") (v "i"))

-- movs rd, #i
abbrev pub mov_imm8 : TableRow
mov_imm8 = row "0010 0ddd iiii iiii" any (λ v. insns.DataImm ops.Mov flags.OutsideIt (v "d") 0 (v "i"))

-- cmp rn, #i
abbrev pub cmp_imm8 : TableRow
cmp_imm8 = row "0010 1nnn iiii iiii" any (λ v. insns.DataImm ops.Cmp flags.Always 0 (v "n") (v "i"))

-- adds rd, rd, #i
abbrev pub add_imm8 : TableRow
add_imm8 = row "0011 0ddd iiii iiii" any (λ v. insns.DataImm ops.Add flags.OutsideIt (v "d") (v "d") (v "i"))

-- subs rd, rd, #i
abbrev pub sub_imm8 : TableRow
sub_imm8 = row "0011 1ddd iiii iiii" any (λ v. insns.DataImm ops.Sub flags.OutsideIt (v "d") (v "d") (v "i"))

-- ands rd, rd, rm
abbrev pub and_low : TableRow
and_low = row "0100 0000 00mm mddd" any (λ v. insns.DataReg ops.And flags.OutsideIt (v "d") (v "d") (v "m") shifts.Lsl 0)

-- eors rd, rd, rm
abbrev pub eor_low : TableRow
eor_low = row "0100 0000 01mm mddd" any (λ v. insns.DataReg ops.Eor flags.OutsideIt (v "d") (v "d") (v "m") shifts.Lsl 0)

-- lsls rd, rd, rm
abbrev pub lsl_low : TableRow
lsl_low = row "0100 0000 10mm mddd" any (λ v. insns.ShiftReg shifts.Lsl flags.OutsideIt (v "d") (v "d") (v "m"))

-- lsrs rd, rd, rm
abbrev pub lsr_low : TableRow
lsr_low = row "0100 0000 11mm mddd" any (λ v. insns.ShiftReg shifts.Lsr flags.OutsideIt (v "d") (v "d") (v "m"))

-- asrs rd, rd, rm
abbrev pub asr_low : TableRow
asr_low = row "0100 0001 00mm mddd" any (λ v. insns.ShiftReg shifts.Asr flags.OutsideIt (v "d") (v "d") (v "m"))

-- adcs rd, rd, rm
abbrev pub adc_low : TableRow
adc_low = row "0100 0001 01mm mddd" any (λ v. insns.DataReg ops.Adc flags.OutsideIt (v "d") (v "d") (v "m") shifts.Lsl 0)

-- sbcs rd, rd, rm
abbrev pub sbc_low : TableRow
sbc_low = row "0100 0001 10mm mddd" any (λ v. insns.DataReg ops.Sbc flags.OutsideIt (v "d") (v "d") (v "m") shifts.Lsl 0)

-- rors rd, rd, rm
abbrev pub ror_low : TableRow
ror_low = row "0100 0001 11mm mddd" any (λ v. insns.ShiftReg shifts.Ror flags.OutsideIt (v "d") (v "d") (v "m"))

-- tst rn, rm
abbrev pub tst_low : TableRow
tst_low = row "0100 0010 00mm mnnn" any (λ v. insns.DataReg ops.Tst flags.Always 0 (v "n") (v "m") shifts.Lsl 0)

-- rsbs rd, rn, #0
abbrev pub rsb_low : TableRow
rsb_low = row "0100 0010 01nn nddd" any (λ v. insns.DataImm ops.Rsb flags.OutsideIt (v "d") (v "n") 0)

-- cmp rn, rm
abbrev pub cmp_low : TableRow
cmp_low = row "0100 0010 10mm mnnn" any (λ v. insns.DataReg ops.Cmp flags.Always 0 (v "n") (v "m") shifts.Lsl 0)

-- cmn rn, rm
abbrev pub cmn_low : TableRow
cmn_low = row "0100 0010 11mm mnnn" any (λ v. insns.DataReg ops.Cmn flags.Always 0 (v "n") (v "m") shifts.Lsl 0)

-- orrs rd, rd, rm
abbrev pub orr_low : TableRow
orr_low = row "0100 0011 00mm mddd" any (λ v. insns.DataReg ops.Orr flags.OutsideIt (v "d") (v "d") (v "m") shifts.Lsl 0)

-- muls rd, rn, rd
abbrev pub mul_low : TableRow
mul_low = row "0100 0011 01nn nddd" any (λ v. insns.Multiply multiplies.Mul flags.OutsideIt (v "d") (v "n") (v "d") 0)

-- bics rd, rd, rm
abbrev pub bic_low : TableRow
bic_low = row "0100 0011 10mm mddd" any (λ v. insns.DataReg ops.Bic flags.OutsideIt (v "d") (v "d") (v "m") shifts.Lsl 0)

-- mvns rd, rm
abbrev pub mvn_low : TableRow
mvn_low = row "0100 0011 11mm mddd" any (λ v. insns.DataReg ops.Mvn flags.OutsideIt (v "d") 0 (v "m") shifts.Lsl 0)

-- add rd, rd, rm; not both PC
abbrev pub add_high : TableRow
add_high = row "0100 0100 dmmm mddd" (λ v. can_add_high (v "d") (v "m")) (λ v. insns.DataReg ops.Add flags.Never (v "d") (v "d") (v "m") shifts.Lsl 0)

-- cmp rn, rm; not both below 8, no PC
abbrev pub cmp_high : TableRow
cmp_high = row "0100 0101 nmmm mnnn" (λ v. can_compare_high (v "n") (v "m")) (λ v. insns.DataReg ops.Cmp flags.Always 0 (v "n") (v "m") shifts.Lsl 0)

-- mov rd, rm
abbrev pub mov_high : TableRow
mov_high = row "0100 0110 dmmm mddd" any (λ v. insns.DataReg ops.Mov flags.Never (v "d") 0 (v "m") shifts.Lsl 0)

-- bx rm, bxns rm; no PC, with s no SP
abbrev pub bx : TableRow
bx = row "0100 0111 0mmm ms00" (λ v. can_exchange (v "m") (v "s")) (λ v. insns.BranchExchange (v "m") (is_one (v "s")))

-- blx rm, blxns rm; no PC, with s no SP
abbrev pub blx : TableRow
blx = row "0100 0111 1mmm ms00" (λ v. can_exchange (v "m") (v "s")) (λ v. insns.CallExchange (v "m") (is_one (v "s")))

-- ldr rt, [pc, #4i]
abbrev pub ldr_literal : TableRow
ldr_literal = row "0100 1ttt iiii iiii" any (λ v. insns.Load sizes.Word false (v "t") (addresses.Literal (pos (v "i00"))) false)

-- str rt, [rn, rm]
abbrev pub str_index : TableRow
str_index = row "0101 000m mmnn nttt" any (λ v. insns.Store sizes.Word (v "t") (addresses.Index (v "n") (v "m") 0) false)

-- strh rt, [rn, rm]
abbrev pub strh_index : TableRow
strh_index = row "0101 001m mmnn nttt" any (λ v. insns.Store sizes.Half (v "t") (addresses.Index (v "n") (v "m") 0) false)

-- strb rt, [rn, rm]
abbrev pub strb_index : TableRow
strb_index = row "0101 010m mmnn nttt" any (λ v. insns.Store sizes.Byte (v "t") (addresses.Index (v "n") (v "m") 0) false)

-- ldrsb rt, [rn, rm]
abbrev pub ldrsb_index : TableRow
ldrsb_index = row "0101 011m mmnn nttt" any (λ v. insns.Load sizes.Byte true (v "t") (addresses.Index (v "n") (v "m") 0) false)

-- ldr rt, [rn, rm]
abbrev pub ldr_index : TableRow
ldr_index = row "0101 100m mmnn nttt" any (λ v. insns.Load sizes.Word false (v "t") (addresses.Index (v "n") (v "m") 0) false)

-- ldrh rt, [rn, rm]
abbrev pub ldrh_index : TableRow
ldrh_index = row "0101 101m mmnn nttt" any (λ v. insns.Load sizes.Half false (v "t") (addresses.Index (v "n") (v "m") 0) false)

-- ldrb rt, [rn, rm]
abbrev pub ldrb_index : TableRow
ldrb_index = row "0101 110m mmnn nttt" any (λ v. insns.Load sizes.Byte false (v "t") (addresses.Index (v "n") (v "m") 0) false)

-- ldrsh rt, [rn, rm]
abbrev pub ldrsh_index : TableRow
ldrsh_index = row "0101 111m mmnn nttt" any (λ v. insns.Load sizes.Half true (v "t") (addresses.Index (v "n") (v "m") 0) false)

-- str rt, [rn, #4i]
abbrev pub str_offset : TableRow
str_offset = row "0110 0iii iinn nttt" any (λ v. insns.Store sizes.Word (v "t") (addresses.Offset (v "n") (pos (v "i00"))) false)

-- ldr rt, [rn, #4i]
abbrev pub ldr_offset : TableRow
ldr_offset = row "0110 1iii iinn nttt" any (λ v. insns.Load sizes.Word false (v "t") (addresses.Offset (v "n") (pos (v "i00"))) false)

-- strb rt, [rn, #i]
abbrev pub strb_offset : TableRow
strb_offset = row "0111 0iii iinn nttt" any (λ v. insns.Store sizes.Byte (v "t") (addresses.Offset (v "n") (pos (v "i"))) false)

-- ldrb rt, [rn, #i]
abbrev pub ldrb_offset : TableRow
ldrb_offset = row "0111 1iii iinn nttt" any (λ v. insns.Load sizes.Byte false (v "t") (addresses.Offset (v "n") (pos (v "i"))) false)

-- strh rt, [rn, #2i]
abbrev pub strh_offset : TableRow
strh_offset = row "1000 0iii iinn nttt" any (λ v. insns.Store sizes.Half (v "t") (addresses.Offset (v "n") (pos (v "i0"))) false)

-- ldrh rt, [rn, #2i]
abbrev pub ldrh_offset : TableRow
ldrh_offset = row "1000 1iii iinn nttt" any (λ v. insns.Load sizes.Half false (v "t") (addresses.Offset (v "n") (pos (v "i0"))) false)

-- str rt, [sp, #4i]
abbrev pub str_sp : TableRow
str_sp = row "1001 0ttt iiii iiii" any (λ v. insns.Store sizes.Word (v "t") (addresses.Offset 13 (pos (v "i00"))) false)

-- ldr rt, [sp, #4i]
abbrev pub ldr_sp : TableRow
ldr_sp = row "1001 1ttt iiii iiii" any (λ v. insns.Load sizes.Word false (v "t") (addresses.Offset 13 (pos (v "i00"))) false)

-- adr rd, target
abbrev pub adr : TableRow
adr = row "1010 0ddd iiii iiii" any (λ v. insns.Adr (v "d") (pos (v "i00")))

-- add rd, sp, #4i
abbrev pub add_sp_imm8 : TableRow
add_sp_imm8 = row "1010 1ddd iiii iiii" any (λ v. insns.AddWide false (v "d") 13 (v "i00"))

-- add sp, sp, #4i; sub
abbrev pub add_sp_imm7 : TableRow
add_sp_imm7 = row "1011 0000 siii iiii" any (λ v. insns.AddWide (is_one (v "s")) 13 13 (v "i00"))

-- cbz rn, target; cbnz
abbrev pub cbz : TableRow
cbz = row "1011 z0i1 iiii innn" any (λ v. insns.BranchZero (is_one (v "z")) (v "n") (pos (v "i0")))

-- sxth rd, rm
abbrev pub sxth : TableRow
sxth = row "1011 0010 00mm mddd" any (λ v. insns.Extend extends.Sxth (v "d") (v "m") 0)

-- sxtb rd, rm
abbrev pub sxtb : TableRow
sxtb = row "1011 0010 01mm mddd" any (λ v. insns.Extend extends.Sxtb (v "d") (v "m") 0)

-- uxth rd, rm
abbrev pub uxth : TableRow
uxth = row "1011 0010 10mm mddd" any (λ v. insns.Extend extends.Uxth (v "d") (v "m") 0)

-- uxtb rd, rm
abbrev pub uxtb : TableRow
uxtb = row "1011 0010 11mm mddd" any (λ v. insns.Extend extends.Uxtb (v "d") (v "m") 0)

-- push {list, lr}; not empty
abbrev pub push : TableRow
push = row_at "1011 010m llll llll" (λ v f s. not_zero (bits f 0 9)) (λ v f s. insns.StoreMany 13 (v "m000000l") true true)

-- pop {list, pc}; not empty
abbrev pub pop : TableRow
pop = row_at "1011 110p llll llll" (λ v f s. not_zero (bits f 0 9)) (λ v f s. insns.LoadMany 13 (v "p0000000l") false true)

-- cpsie if, cpsid if; i or f
abbrev pub cps : TableRow
cps = row_at "1011 0110 011d 00if" (λ v f s. not_zero (bits f 0 2)) (λ v f s. insns.ChangeState (is_one (v "d")) (is_one (v "i")) (is_one (v "f")))

-- rev rd, rm
abbrev pub rev : TableRow
rev = row "1011 1010 00mm mddd" any (λ v. insns.Reverse reverses.Rev (v "d") (v "m"))

-- rev16 rd, rm
abbrev pub rev16 : TableRow
rev16 = row "1011 1010 01mm mddd" any (λ v. insns.Reverse reverses.Rev16 (v "d") (v "m"))

-- revsh rd, rm
abbrev pub revsh : TableRow
revsh = row "1011 1010 11mm mddd" any (λ v. insns.Reverse reverses.Revsh (v "d") (v "m"))

-- bkpt #i
abbrev pub bkpt : TableRow
bkpt = row "1011 1110 iiii iiii" any (λ v. insns.Breakpoint (v "i"))

-- it c, ite c ..; k not 0, c not 15
abbrev pub if_then : TableRow
if_then = row_but "1011 1111 cccc kkkk" (λ x. (x "k" 0 ∷ []) ∷ []) (λ v. can_begin (v "c") (v "k")) (λ v. insns.IfThen (v "c") (v "k"))

-- nop, yield, wfe, wfi, sev, hint #o
abbrev pub hint : TableRow
hint = row "1011 1111 oooo 0000" any (λ v. insns.Hint (v "o"))

-- stm rn!, {list}; not empty
abbrev pub stm : TableRow
stm = row "1100 0nnn llll llll" (λ v. can_store_many (v "n") (v "l")) (λ v. insns.StoreMany (v "n") (v "l") false true)

-- ldm rn!, {list}; rn not written back where it is in the list
abbrev pub ldm : TableRow
ldm = row "1100 1nnn llll llll" (λ v. not_zero (v "l")) (λ v. insns.LoadMany (v "n") (v "l") false (not (is_listed (v "l") (v "n"))))

-- beq target ..; c up to 13
abbrev pub bcond : TableRow
bcond = row_but "1101 cccc iiii iiii" (λ x. (x "c" 14 ∷ []) ∷ (x "c" 15 ∷ []) ∷ []) any (λ v. insns.BranchIf (v "c") (signed_by 256 (v "i0")))

-- udf #i
abbrev pub udf : TableRow
udf = row "1101 1110 iiii iiii" any (λ v. insns.Undefined (v "i"))

-- svc #i
abbrev pub svc : TableRow
svc = row "1101 1111 iiii iiii" any (λ v. insns.Supervisor (v "i"))

-- b target
abbrev pub branch : TableRow
branch = row "1110 0iii iiii iiii" any (λ v. insns.Branch (signed_by 2048 (v "i0")))
