-- The text of instructions that process data.
use Rattle.std.specs.Prelude.{List, [], ◌∷◌, codes}
use Rattle.tz_table.specs.declared.instruction.DataOp.TheVariants.{And, Bic, Orr, Orn, Eor, Add, Adc, Sbc, Sub, Rsb, Mov, Mvn, Tst, Teq, Cmn, Cmp}
use Rattle.tz_table.specs.declared.instruction.FieldOp.TheVariants.{Sbfx, Ubfx, Bfi, Bfc}
use Rattle.tz_table.specs.declared.instruction.ExtendOp.TheVariants.{Sxth, Sxtb, Uxth, Uxtb}
use Rattle.tz_table.specs.declared.instruction.ReverseOp.TheVariants.{Rev, Rev16, Rbit, Revsh, Clz}
use Rattle.tz_table.specs.declared.instruction.MultiplyOp.TheVariants.{Mul, Mla, Mls}
use Rattle.tz_table.specs.declared.instruction.LongOp.TheVariants.{Smull, Umull, Smlal, Umlal}
use Rattle.tz_syntax.specs.FormNumbers.{constant, register, shift_register, add_wide, adr, mov_wide, saturate, bit_field, extend, reverse, multiply, multiply_long, divide, no, yes, never, always, outside, lsl, lsr, asr, ror}
use Rattle.tz_syntax.specs.Operands.{reg, num, imm, aligned, shifted, left, right, rotated}
use Rattle.tz_syntax.specs.Rows.{TextRowValue, is, narrow, wide}

-- operations with a constant: flags
abbrev pub constants : List TextRowValue
constants =
    wide (constant And) (is 1 never ∷ []) (codes "and.w") (reg 5 ∷ reg 6 ∷ imm 7 ∷ []) ∷  -- and.w rd, rn, #i
    wide (constant And) (is 1 always ∷ []) (codes "ands.w") (reg 5 ∷ reg 6 ∷ imm 7 ∷ []) ∷  -- ands.w rd, rn, #i
    wide (constant Bic) (is 1 never ∷ []) (codes "bic.w") (reg 5 ∷ reg 6 ∷ imm 7 ∷ []) ∷  -- bic.w rd, rn, #i
    wide (constant Bic) (is 1 always ∷ []) (codes "bics.w") (reg 5 ∷ reg 6 ∷ imm 7 ∷ []) ∷  -- bics.w rd, rn, #i
    wide (constant Orr) (is 1 never ∷ []) (codes "orr.w") (reg 5 ∷ reg 6 ∷ imm 7 ∷ []) ∷  -- orr.w rd, rn, #i
    wide (constant Orr) (is 1 always ∷ []) (codes "orrs.w") (reg 5 ∷ reg 6 ∷ imm 7 ∷ []) ∷  -- orrs.w rd, rn, #i
    wide (constant Orn) (is 1 never ∷ []) (codes "orn") (reg 5 ∷ reg 6 ∷ imm 7 ∷ []) ∷  -- orn rd, rn, #i
    wide (constant Orn) (is 1 always ∷ []) (codes "orns") (reg 5 ∷ reg 6 ∷ imm 7 ∷ []) ∷  -- orns rd, rn, #i
    wide (constant Eor) (is 1 never ∷ []) (codes "eor.w") (reg 5 ∷ reg 6 ∷ imm 7 ∷ []) ∷  -- eor.w rd, rn, #i
    wide (constant Eor) (is 1 always ∷ []) (codes "eors.w") (reg 5 ∷ reg 6 ∷ imm 7 ∷ []) ∷  -- eors.w rd, rn, #i
    narrow (constant Add) (is 1 outside ∷ []) (codes "adds") (reg 5 ∷ reg 6 ∷ imm 7 ∷ []) ∷  -- adds rd, rn, #i
    wide (constant Add) (is 1 never ∷ []) (codes "add.w") (reg 5 ∷ reg 6 ∷ imm 7 ∷ []) ∷  -- add.w rd, rn, #i
    wide (constant Add) (is 1 always ∷ []) (codes "adds.w") (reg 5 ∷ reg 6 ∷ imm 7 ∷ []) ∷  -- adds.w rd, rn, #i
    wide (constant Adc) (is 1 never ∷ []) (codes "adc.w") (reg 5 ∷ reg 6 ∷ imm 7 ∷ []) ∷  -- adc.w rd, rn, #i
    wide (constant Adc) (is 1 always ∷ []) (codes "adcs.w") (reg 5 ∷ reg 6 ∷ imm 7 ∷ []) ∷  -- adcs.w rd, rn, #i
    wide (constant Sbc) (is 1 never ∷ []) (codes "sbc.w") (reg 5 ∷ reg 6 ∷ imm 7 ∷ []) ∷  -- sbc.w rd, rn, #i
    wide (constant Sbc) (is 1 always ∷ []) (codes "sbcs.w") (reg 5 ∷ reg 6 ∷ imm 7 ∷ []) ∷  -- sbcs.w rd, rn, #i
    narrow (constant Sub) (is 1 outside ∷ []) (codes "subs") (reg 5 ∷ reg 6 ∷ imm 7 ∷ []) ∷  -- subs rd, rn, #i
    wide (constant Sub) (is 1 never ∷ []) (codes "sub.w") (reg 5 ∷ reg 6 ∷ imm 7 ∷ []) ∷  -- sub.w rd, rn, #i
    wide (constant Sub) (is 1 always ∷ []) (codes "subs.w") (reg 5 ∷ reg 6 ∷ imm 7 ∷ []) ∷  -- subs.w rd, rn, #i
    narrow (constant Rsb) (is 1 outside ∷ []) (codes "rsbs") (reg 5 ∷ reg 6 ∷ imm 7 ∷ []) ∷  -- rsbs rd, rn, #i
    wide (constant Rsb) (is 1 never ∷ []) (codes "rsb.w") (reg 5 ∷ reg 6 ∷ imm 7 ∷ []) ∷  -- rsb.w rd, rn, #i
    wide (constant Rsb) (is 1 always ∷ []) (codes "rsbs.w") (reg 5 ∷ reg 6 ∷ imm 7 ∷ []) ∷  -- rsbs.w rd, rn, #i
    narrow (constant Mov) (is 1 outside ∷ []) (codes "movs") (reg 5 ∷ imm 7 ∷ []) ∷  -- movs rd, #i
    wide (constant Mov) (is 1 never ∷ []) (codes "mov.w") (reg 5 ∷ imm 7 ∷ []) ∷  -- mov.w rd, #i
    wide (constant Mov) (is 1 always ∷ []) (codes "movs.w") (reg 5 ∷ imm 7 ∷ []) ∷  -- movs.w rd, #i
    wide (constant Mvn) (is 1 never ∷ []) (codes "mvn.w") (reg 5 ∷ imm 7 ∷ []) ∷  -- mvn.w rd, #i
    wide (constant Mvn) (is 1 always ∷ []) (codes "mvns.w") (reg 5 ∷ imm 7 ∷ []) ∷  -- mvns.w rd, #i
    wide (constant Tst) (is 1 always ∷ []) (codes "tst.w") (reg 6 ∷ imm 7 ∷ []) ∷  -- tst.w rn, #i
    wide (constant Teq) (is 1 always ∷ []) (codes "teq") (reg 6 ∷ imm 7 ∷ []) ∷  -- teq rn, #i
    wide (constant Cmn) (is 1 always ∷ []) (codes "cmn.w") (reg 6 ∷ imm 7 ∷ []) ∷  -- cmn.w rn, #i
    narrow (constant Cmp) (is 1 always ∷ []) (codes "cmp") (reg 6 ∷ imm 7 ∷ []) ∷  -- cmp rn, #i
    wide (constant Cmp) (is 1 always ∷ []) (codes "cmp.w") (reg 6 ∷ imm 7 ∷ []) ∷  -- cmp.w rn, #i
    []

-- operations with a register: flags; kind of the shift, and its amount at place 8
abbrev pub registers : List TextRowValue
registers =
    narrow (register And) (is 1 outside ∷ []) (codes "ands") (reg 5 ∷ reg 6 ∷ reg 7 ∷ []) ∷  -- ands rd, rd, rm
    wide (register And) (is 1 never ∷ []) (codes "and.w") (reg 5 ∷ reg 6 ∷ shifted 7 2 8 ∷ []) ∷  -- and.w rd, rn, rm, shift
    wide (register And) (is 1 always ∷ []) (codes "ands.w") (reg 5 ∷ reg 6 ∷ shifted 7 2 8 ∷ []) ∷  -- ands.w rd, rn, rm, shift
    narrow (register Bic) (is 1 outside ∷ []) (codes "bics") (reg 5 ∷ reg 6 ∷ reg 7 ∷ []) ∷  -- bics rd, rd, rm
    wide (register Bic) (is 1 never ∷ []) (codes "bic.w") (reg 5 ∷ reg 6 ∷ shifted 7 2 8 ∷ []) ∷  -- bic.w rd, rn, rm, shift
    wide (register Bic) (is 1 always ∷ []) (codes "bics.w") (reg 5 ∷ reg 6 ∷ shifted 7 2 8 ∷ []) ∷  -- bics.w rd, rn, rm, shift
    narrow (register Orr) (is 1 outside ∷ []) (codes "orrs") (reg 5 ∷ reg 6 ∷ reg 7 ∷ []) ∷  -- orrs rd, rd, rm
    wide (register Orr) (is 1 never ∷ []) (codes "orr.w") (reg 5 ∷ reg 6 ∷ shifted 7 2 8 ∷ []) ∷  -- orr.w rd, rn, rm, shift
    wide (register Orr) (is 1 always ∷ []) (codes "orrs.w") (reg 5 ∷ reg 6 ∷ shifted 7 2 8 ∷ []) ∷  -- orrs.w rd, rn, rm, shift
    wide (register Orn) (is 1 never ∷ []) (codes "orn") (reg 5 ∷ reg 6 ∷ shifted 7 2 8 ∷ []) ∷  -- orn rd, rn, rm, shift
    wide (register Orn) (is 1 always ∷ []) (codes "orns") (reg 5 ∷ reg 6 ∷ shifted 7 2 8 ∷ []) ∷  -- orns rd, rn, rm, shift
    narrow (register Eor) (is 1 outside ∷ []) (codes "eors") (reg 5 ∷ reg 6 ∷ reg 7 ∷ []) ∷  -- eors rd, rd, rm
    wide (register Eor) (is 1 never ∷ []) (codes "eor.w") (reg 5 ∷ reg 6 ∷ shifted 7 2 8 ∷ []) ∷  -- eor.w rd, rn, rm, shift
    wide (register Eor) (is 1 always ∷ []) (codes "eors.w") (reg 5 ∷ reg 6 ∷ shifted 7 2 8 ∷ []) ∷  -- eors.w rd, rn, rm, shift
    narrow (register Add) (is 1 outside ∷ []) (codes "adds") (reg 5 ∷ reg 6 ∷ reg 7 ∷ []) ∷  -- adds rd, rn, rm
    narrow (register Add) (is 1 never ∷ []) (codes "add") (reg 5 ∷ reg 6 ∷ reg 7 ∷ []) ∷  -- add rd, rd, rm
    wide (register Add) (is 1 never ∷ []) (codes "add.w") (reg 5 ∷ reg 6 ∷ shifted 7 2 8 ∷ []) ∷  -- add.w rd, rn, rm, shift
    wide (register Add) (is 1 always ∷ []) (codes "adds.w") (reg 5 ∷ reg 6 ∷ shifted 7 2 8 ∷ []) ∷  -- adds.w rd, rn, rm, shift
    narrow (register Adc) (is 1 outside ∷ []) (codes "adcs") (reg 5 ∷ reg 6 ∷ reg 7 ∷ []) ∷  -- adcs rd, rd, rm
    wide (register Adc) (is 1 never ∷ []) (codes "adc.w") (reg 5 ∷ reg 6 ∷ shifted 7 2 8 ∷ []) ∷  -- adc.w rd, rn, rm, shift
    wide (register Adc) (is 1 always ∷ []) (codes "adcs.w") (reg 5 ∷ reg 6 ∷ shifted 7 2 8 ∷ []) ∷  -- adcs.w rd, rn, rm, shift
    narrow (register Sbc) (is 1 outside ∷ []) (codes "sbcs") (reg 5 ∷ reg 6 ∷ reg 7 ∷ []) ∷  -- sbcs rd, rd, rm
    wide (register Sbc) (is 1 never ∷ []) (codes "sbc.w") (reg 5 ∷ reg 6 ∷ shifted 7 2 8 ∷ []) ∷  -- sbc.w rd, rn, rm, shift
    wide (register Sbc) (is 1 always ∷ []) (codes "sbcs.w") (reg 5 ∷ reg 6 ∷ shifted 7 2 8 ∷ []) ∷  -- sbcs.w rd, rn, rm, shift
    narrow (register Sub) (is 1 outside ∷ []) (codes "subs") (reg 5 ∷ reg 6 ∷ reg 7 ∷ []) ∷  -- subs rd, rn, rm
    wide (register Sub) (is 1 never ∷ []) (codes "sub.w") (reg 5 ∷ reg 6 ∷ shifted 7 2 8 ∷ []) ∷  -- sub.w rd, rn, rm, shift
    wide (register Sub) (is 1 always ∷ []) (codes "subs.w") (reg 5 ∷ reg 6 ∷ shifted 7 2 8 ∷ []) ∷  -- subs.w rd, rn, rm, shift
    wide (register Rsb) (is 1 never ∷ []) (codes "rsb.w") (reg 5 ∷ reg 6 ∷ shifted 7 2 8 ∷ []) ∷  -- rsb.w rd, rn, rm, shift
    wide (register Rsb) (is 1 always ∷ []) (codes "rsbs.w") (reg 5 ∷ reg 6 ∷ shifted 7 2 8 ∷ []) ∷  -- rsbs.w rd, rn, rm, shift
    narrow (register Mov) (is 1 never ∷ []) (codes "mov") (reg 5 ∷ reg 7 ∷ []) ∷  -- mov rd, rm
    narrow (register Mov) (is 1 outside ∷ is 2 lsl ∷ is 8 0 ∷ []) (codes "movs") (reg 5 ∷ reg 7 ∷ []) ∷  -- movs rd, rm
    narrow (register Mov) (is 1 outside ∷ is 2 lsl ∷ []) (codes "lsls") (reg 5 ∷ reg 7 ∷ num 8 ∷ []) ∷  -- lsls rd, rm, #i
    narrow (register Mov) (is 1 outside ∷ is 2 lsr ∷ []) (codes "lsrs") (reg 5 ∷ reg 7 ∷ num 8 ∷ []) ∷  -- lsrs rd, rm, #i
    narrow (register Mov) (is 1 outside ∷ is 2 asr ∷ []) (codes "asrs") (reg 5 ∷ reg 7 ∷ num 8 ∷ []) ∷  -- asrs rd, rm, #i
    wide (register Mov) (is 1 never ∷ []) (codes "mov.w") (reg 5 ∷ shifted 7 2 8 ∷ []) ∷  -- mov.w rd, rm, shift
    wide (register Mov) (is 1 always ∷ []) (codes "movs.w") (reg 5 ∷ shifted 7 2 8 ∷ []) ∷  -- movs.w rd, rm, shift
    narrow (register Mvn) (is 1 outside ∷ []) (codes "mvns") (reg 5 ∷ reg 7 ∷ []) ∷  -- mvns rd, rm
    wide (register Mvn) (is 1 never ∷ []) (codes "mvn.w") (reg 5 ∷ shifted 7 2 8 ∷ []) ∷  -- mvn.w rd, rm, shift
    wide (register Mvn) (is 1 always ∷ []) (codes "mvns.w") (reg 5 ∷ shifted 7 2 8 ∷ []) ∷  -- mvns.w rd, rm, shift
    narrow (register Tst) (is 1 always ∷ []) (codes "tst") (reg 6 ∷ reg 7 ∷ []) ∷  -- tst rn, rm
    wide (register Tst) (is 1 always ∷ []) (codes "tst.w") (reg 6 ∷ shifted 7 2 8 ∷ []) ∷  -- tst.w rn, rm, shift
    wide (register Teq) (is 1 always ∷ []) (codes "teq") (reg 6 ∷ shifted 7 2 8 ∷ []) ∷  -- teq rn, rm, shift
    narrow (register Cmn) (is 1 always ∷ []) (codes "cmn") (reg 6 ∷ reg 7 ∷ []) ∷  -- cmn rn, rm
    wide (register Cmn) (is 1 always ∷ []) (codes "cmn.w") (reg 6 ∷ shifted 7 2 8 ∷ []) ∷  -- cmn.w rn, rm, shift
    narrow (register Cmp) (is 1 always ∷ []) (codes "cmp") (reg 6 ∷ reg 7 ∷ []) ∷  -- cmp rn, rm
    wide (register Cmp) (is 1 always ∷ []) (codes "cmp.w") (reg 6 ∷ shifted 7 2 8 ∷ []) ∷  -- cmp.w rn, rm, shift
    []

-- other operations
abbrev pub other_data : List TextRowValue
other_data =
    narrow shift_register (is 1 lsl ∷ is 2 outside ∷ []) (codes "lsls") (reg 5 ∷ reg 6 ∷ reg 7 ∷ []) ∷  -- lsls rd, rd, rm
    narrow shift_register (is 1 lsr ∷ is 2 outside ∷ []) (codes "lsrs") (reg 5 ∷ reg 6 ∷ reg 7 ∷ []) ∷  -- lsrs rd, rd, rm
    narrow shift_register (is 1 asr ∷ is 2 outside ∷ []) (codes "asrs") (reg 5 ∷ reg 6 ∷ reg 7 ∷ []) ∷  -- asrs rd, rd, rm
    narrow shift_register (is 1 ror ∷ is 2 outside ∷ []) (codes "rors") (reg 5 ∷ reg 6 ∷ reg 7 ∷ []) ∷  -- rors rd, rd, rm
    wide shift_register (is 1 lsl ∷ is 2 never ∷ []) (codes "lsl.w") (reg 5 ∷ reg 6 ∷ reg 7 ∷ []) ∷  -- lsl.w rd, rn, rm
    wide shift_register (is 1 lsl ∷ is 2 always ∷ []) (codes "lsls.w") (reg 5 ∷ reg 6 ∷ reg 7 ∷ []) ∷  -- lsls.w rd, rn, rm
    wide shift_register (is 1 lsr ∷ is 2 never ∷ []) (codes "lsr.w") (reg 5 ∷ reg 6 ∷ reg 7 ∷ []) ∷  -- lsr.w rd, rn, rm
    wide shift_register (is 1 lsr ∷ is 2 always ∷ []) (codes "lsrs.w") (reg 5 ∷ reg 6 ∷ reg 7 ∷ []) ∷  -- lsrs.w rd, rn, rm
    wide shift_register (is 1 asr ∷ is 2 never ∷ []) (codes "asr.w") (reg 5 ∷ reg 6 ∷ reg 7 ∷ []) ∷  -- asr.w rd, rn, rm
    wide shift_register (is 1 asr ∷ is 2 always ∷ []) (codes "asrs.w") (reg 5 ∷ reg 6 ∷ reg 7 ∷ []) ∷  -- asrs.w rd, rn, rm
    wide shift_register (is 1 ror ∷ is 2 never ∷ []) (codes "ror.w") (reg 5 ∷ reg 6 ∷ reg 7 ∷ []) ∷  -- ror.w rd, rn, rm
    wide shift_register (is 1 ror ∷ is 2 always ∷ []) (codes "rors.w") (reg 5 ∷ reg 6 ∷ reg 7 ∷ []) ∷  -- rors.w rd, rn, rm
    narrow add_wide (is 1 no ∷ []) (codes "add") (reg 5 ∷ reg 6 ∷ num 7 ∷ []) ∷  -- add rd, sp, #n
    narrow add_wide (is 1 yes ∷ []) (codes "sub") (reg 5 ∷ reg 6 ∷ num 7 ∷ []) ∷  -- sub rd, sp, #n
    wide add_wide (is 1 no ∷ []) (codes "addw") (reg 5 ∷ reg 6 ∷ num 7 ∷ []) ∷  -- addw rd, rn, #i
    wide add_wide (is 1 yes ∷ []) (codes "subw") (reg 5 ∷ reg 6 ∷ num 7 ∷ []) ∷  -- subw rd, rn, #i
    narrow adr [] (codes "adr") (reg 5 ∷ aligned 6 ∷ []) ∷  -- adr rd, target
    wide adr [] (codes "adr.w") (reg 5 ∷ aligned 6 ∷ []) ∷  -- adr.w rd, target
    wide mov_wide (is 1 no ∷ []) (codes "movw") (reg 5 ∷ num 6 ∷ []) ∷  -- movw rd, #i
    wide mov_wide (is 1 yes ∷ []) (codes "movt") (reg 5 ∷ num 6 ∷ []) ∷  -- movt rd, #i
    wide saturate (is 1 yes ∷ is 2 no ∷ []) (codes "ssat") (reg 5 ∷ num 7 ∷ left 6 8 ∷ []) ∷  -- ssat rd, #bits, rn, lsl #k
    wide saturate (is 1 yes ∷ is 2 yes ∷ []) (codes "ssat") (reg 5 ∷ num 7 ∷ right 6 8 ∷ []) ∷  -- ssat rd, #bits, rn, asr #k
    wide saturate (is 1 no ∷ is 2 no ∷ []) (codes "usat") (reg 5 ∷ num 7 ∷ left 6 8 ∷ []) ∷  -- usat rd, #bits, rn, lsl #k
    wide saturate (is 1 no ∷ is 2 yes ∷ []) (codes "usat") (reg 5 ∷ num 7 ∷ right 6 8 ∷ []) ∷  -- usat rd, #bits, rn, asr #k
    wide (bit_field Sbfx) [] (codes "sbfx") (reg 5 ∷ reg 6 ∷ num 7 ∷ num 8 ∷ []) ∷  -- sbfx rd, rn, #low, #width
    wide (bit_field Ubfx) [] (codes "ubfx") (reg 5 ∷ reg 6 ∷ num 7 ∷ num 8 ∷ []) ∷  -- ubfx rd, rn, #low, #width
    wide (bit_field Bfi) [] (codes "bfi") (reg 5 ∷ reg 6 ∷ num 7 ∷ num 8 ∷ []) ∷  -- bfi rd, rn, #low, #width
    wide (bit_field Bfc) [] (codes "bfc") (reg 5 ∷ num 7 ∷ num 8 ∷ []) ∷  -- bfc rd, #low, #width
    narrow (extend Sxth) [] (codes "sxth") (reg 5 ∷ reg 6 ∷ []) ∷  -- sxth rd, rm
    wide (extend Sxth) [] (codes "sxth.w") (reg 5 ∷ rotated 6 7 ∷ []) ∷  -- sxth.w rd, rm, ror #k
    narrow (extend Sxtb) [] (codes "sxtb") (reg 5 ∷ reg 6 ∷ []) ∷  -- sxtb rd, rm
    wide (extend Sxtb) [] (codes "sxtb.w") (reg 5 ∷ rotated 6 7 ∷ []) ∷  -- sxtb.w rd, rm, ror #k
    narrow (extend Uxth) [] (codes "uxth") (reg 5 ∷ reg 6 ∷ []) ∷  -- uxth rd, rm
    wide (extend Uxth) [] (codes "uxth.w") (reg 5 ∷ rotated 6 7 ∷ []) ∷  -- uxth.w rd, rm, ror #k
    narrow (extend Uxtb) [] (codes "uxtb") (reg 5 ∷ reg 6 ∷ []) ∷  -- uxtb rd, rm
    wide (extend Uxtb) [] (codes "uxtb.w") (reg 5 ∷ rotated 6 7 ∷ []) ∷  -- uxtb.w rd, rm, ror #k
    narrow (reverse Rev) [] (codes "rev") (reg 5 ∷ reg 6 ∷ []) ∷  -- rev rd, rm
    wide (reverse Rev) [] (codes "rev.w") (reg 5 ∷ reg 6 ∷ []) ∷  -- rev.w rd, rm
    narrow (reverse Rev16) [] (codes "rev16") (reg 5 ∷ reg 6 ∷ []) ∷  -- rev16 rd, rm
    wide (reverse Rev16) [] (codes "rev16.w") (reg 5 ∷ reg 6 ∷ []) ∷  -- rev16.w rd, rm
    wide (reverse Rbit) [] (codes "rbit") (reg 5 ∷ reg 6 ∷ []) ∷  -- rbit rd, rm
    narrow (reverse Revsh) [] (codes "revsh") (reg 5 ∷ reg 6 ∷ []) ∷  -- revsh rd, rm
    wide (reverse Revsh) [] (codes "revsh.w") (reg 5 ∷ reg 6 ∷ []) ∷  -- revsh.w rd, rm
    wide (reverse Clz) [] (codes "clz") (reg 5 ∷ reg 6 ∷ []) ∷  -- clz rd, rm
    narrow (multiply Mul) (is 1 outside ∷ []) (codes "muls") (reg 5 ∷ reg 6 ∷ reg 7 ∷ []) ∷  -- muls rd, rn, rd
    wide (multiply Mul) (is 1 never ∷ []) (codes "mul.w") (reg 5 ∷ reg 6 ∷ reg 7 ∷ []) ∷  -- mul.w rd, rn, rm
    wide (multiply Mla) (is 1 never ∷ []) (codes "mla") (reg 5 ∷ reg 6 ∷ reg 7 ∷ reg 8 ∷ []) ∷  -- mla rd, rn, rm, ra
    wide (multiply Mls) (is 1 never ∷ []) (codes "mls") (reg 5 ∷ reg 6 ∷ reg 7 ∷ reg 8 ∷ []) ∷  -- mls rd, rn, rm, ra
    wide (multiply_long Smull) [] (codes "smull") (reg 5 ∷ reg 6 ∷ reg 7 ∷ reg 8 ∷ []) ∷  -- smull rl, rh, rn, rm
    wide (multiply_long Umull) [] (codes "umull") (reg 5 ∷ reg 6 ∷ reg 7 ∷ reg 8 ∷ []) ∷  -- umull rl, rh, rn, rm
    wide (multiply_long Smlal) [] (codes "smlal") (reg 5 ∷ reg 6 ∷ reg 7 ∷ reg 8 ∷ []) ∷  -- smlal rl, rh, rn, rm
    wide (multiply_long Umlal) [] (codes "umlal") (reg 5 ∷ reg 6 ∷ reg 7 ∷ reg 8 ∷ []) ∷  -- umlal rl, rh, rn, rm
    wide divide (is 1 yes ∷ []) (codes "sdiv") (reg 5 ∷ reg 6 ∷ reg 7 ∷ []) ∷  -- sdiv rd, rn, rm
    wide divide (is 1 no ∷ []) (codes "udiv") (reg 5 ∷ reg 6 ∷ reg 7 ∷ []) ∷  -- udiv rd, rn, rm
    []
