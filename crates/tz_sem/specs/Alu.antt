-- Data processing: registers and flags after an operation on words.
use Rattle.std.specs.Prelude.{ℕ, ◌+◌, ◌*◌, ◌/◌, ◌%◌, ◌^◌, ◌==◌, nat_le, nat_lt, Bool, true, false, not, ◌&&◌, ◌||◌, if◌then◌else◌, unwrap_or, Ok, Err, ℤ}
use Rattle.tz_bits.specs.Shifts.{shifted, carry_after}
use Rattle.tz_bits.specs.Constants.{imm_of}
use Rattle.tz_table.specs.declared.units.Shift.{Shift}
use Rattle.tz_table.specs.declared.units.Shift.TheVariants.{Lsl, Asr, Rrx}
use Rattle.tz_table.specs.declared.instruction.DataOp.{DataOp}
use Rattle.tz_table.specs.declared.instruction.DataOp.TheVariants.{Mov, Add, Sub, Tst, Teq, Cmn, Cmp}
use Rattle.tz_table.specs.declared.instruction.Flags.{Flags}
use Rattle.tz_table.specs.declared.instruction.Flags.TheVariants.{Never, Always, OutsideIt}
use Rattle.tz_table.specs.declared.instruction.FieldOp.{FieldOp}
use Rattle.tz_table.specs.declared.instruction.ExtendOp.{ExtendOp}
use Rattle.tz_table.specs.declared.instruction.ReverseOp.{ReverseOp}
use Rattle.tz_table.specs.declared.instruction.MultiplyOp.{MultiplyOp}
use Rattle.tz_table.specs.declared.instruction.LongOp.{LongOp}
use Rattle.tz_table.specs.declared.instruction.Insn.{Insn}
use Rattle.tz_table.specs.declared.instruction.Insn.TheVariants.{DataImm, DataReg, ShiftReg, AddWide, Adr, MovWide, Saturate, BitField, Extend, Reverse, Multiply, MultiplyLong, Divide}
use Rattle.tz_model.specs.declared.report.Fault.TheVariants.{Undef, StackLimit, DivZero}
use Rattle.tz_model.specs.declared.report.Outcome.TheVariants.{Next, Jump}
use Rattle.tz_model.specs.Words.{wrap, word_of, even_of}
use Rattle.tz_regs.specs.declared.parts.Apsr.{Apsr}
use Rattle.tz_regs.specs.declared.parts.Registers.{Registers}
use Rattle.tz_regs.specs.Registers.{is_negative, with_n_and_z, pointer_limit_of}
use Rattle.tz_regs.specs.ItState.{in_it_block}
use Rattle.tz_regs.specs.RegisterBits.{ccr_div_0_trp}
use Rattle.tz_sem.specs.declared.computed.Computed.{Computed}
use Rattle.tz_sem.specs.Operations.{computed, multiplied, multiplied_long, divided, saturated, field_result, extended, reversed}
use Rattle.tz_sem.specs.Local.{Local, Finished, reg, with_registers, put, gives}

-- ---- operands

-- the places of a shift; RRX moves by one
abbrev pub places : Shift → ℕ → ℕ
places Rrx amount = 1
places kind amount = amount

-- a register after a shift, with the carry that it leaves (DDI0553, `Shift_C`)
abbrev pub shifted_value : Local → ℕ → Shift → ℕ → ℕ
shifted_value l rm kind amount = shifted (reg l rm) kind (places kind amount) l.registers.apsr.c

abbrev pub shifted_carry : Local → ℕ → Shift → ℕ → Bool
shifted_carry l rm kind amount = carry_after (reg l rm) kind (places kind amount) l.registers.apsr.c

-- a constant with its carry (DDI0553, `T32ExpandImm_C`); twelve bits of no code count as 0
abbrev pub constant_of : Local → ℕ → ℕ × Bool
constant_of l imm12 = unwrap_or (imm_of imm12 l.registers.apsr.c) (0, l.registers.apsr.c)

-- ---- results

-- an instruction sets the flags
abbrev pub sets_flags : Flags → Registers → Bool
sets_flags Never r = false
sets_flags Always r = true
sets_flags OutsideIt r = not (in_it_block r.it)

-- the flags of an operation
abbrev pub flags_by : Computed → Apsr → Apsr
flags_by x a = record a { n = is_negative x.value; z = x.value == 0; c = x.carry; v = x.overflow }

abbrev pub flagged : Flags → Computed → Local → Local
flagged flags x l =
    with_registers l (record l.registers { apsr = if sets_flags flags l.registers then flags_by x l.registers.apsr else l.registers.apsr })

-- a comparison gives no register a value
abbrev pub is_comparison : DataOp → Bool
is_comparison Tst = true
is_comparison Teq = true
is_comparison Cmn = true
is_comparison Cmp = true
is_comparison op = false

-- a sum with SP as its destination is compared with the limit
abbrev pub is_limited : DataOp → Bool
is_limited Add = true
is_limited Sub = true
is_limited op = false

-- a write of PC is a plain branch; SP may not get below its limit by a sum
abbrev pub delivered : DataOp → ℕ → ℕ → Local → Finished
delivered op rd value l =
    if is_comparison op then Ok (l, Next)
    else if rd == 15 then Ok (l, Jump (even_of value))
    else if rd == 13 && is_limited op && nat_lt value (pointer_limit_of l.registers.ipsr l.own) then Err (StackLimit l.side)
    else gives l rd value

abbrev pub concluded : DataOp → Flags → ℕ → Computed → Local → Finished
concluded op flags rd x l = delivered op rd x.value (flagged flags x l)

-- an operation on two words, of which the second left a carry
abbrev pub operated : DataOp → Flags → ℕ → ℕ → ℕ → Bool → Local → Finished
operated op flags rd x y carry l = concluded op flags rd (computed op x y carry l.registers.apsr.c l.registers.apsr.v) l

-- ---- the forms

abbrev pub finish_constant : DataOp → Flags → ℕ → ℕ → ℕ → Local → Finished
finish_constant op flags rd rn imm12 l = operated op flags rd (reg l rn) (constant_of l imm12).0 (constant_of l imm12).1 l

abbrev pub finish_register : DataOp → Flags → ℕ → ℕ → ℕ → Shift → ℕ → Local → Finished
finish_register op flags rd rn rm kind amount l =
    operated op flags rd (reg l rn) (shifted_value l rm kind amount) (shifted_carry l rm kind amount) l

-- a shift by the low byte of a register
abbrev pub finish_shift : Shift → Flags → ℕ → ℕ → ℕ → Local → Finished
finish_shift kind flags rd rn rm l =
    operated Mov flags rd 0 (shifted_value l rn kind (reg l rm % 256)) (shifted_carry l rn kind (reg l rm % 256)) l

abbrev pub finish_add_wide : Bool → ℕ → ℕ → ℕ → Local → Finished
finish_add_wide sub rd rn imm l = operated (if sub then Sub else Add) Never rd (reg l rn) imm false l

-- PC is aligned to a word
abbrev pub finish_adr : ℕ → ℤ → Local → Finished
finish_adr rd offset l = gives l rd (wrap (wrap (l.registers.pc + 4) / 4 * 4 + word_of offset))

-- MOVT keeps the low halfword
abbrev pub finish_move_wide : Bool → ℕ → ℕ → Local → Finished
finish_move_wide top rd imm l = gives l rd (if top then imm * 2 ^ 16 + reg l rd % 2 ^ 16 else imm)

-- Q tells that a value was saturated, and is never cleared here
abbrev pub saturation : ℕ → ℕ × Bool → Local → Finished
saturation rd result l =
    gives (with_registers l (record l.registers { apsr = record l.registers.apsr { q = l.registers.apsr.q || result.1 } })) rd result.0

-- signed to 1 to 32 bits, unsigned to 0 to 31; other widths have no code
abbrev pub is_width : Bool → ℕ → Bool
is_width true bits = not (bits == 0) && nat_le bits 32
is_width false bits = nat_lt bits 32

abbrev pub finish_saturate : Bool → ℕ → ℕ → ℕ → Bool → ℕ → Local → Finished
finish_saturate signed rd rn bits asr amount l =
    if is_width signed bits then saturation rd (saturated signed (shifted_value l rn (if asr then Asr else Lsl) amount) bits) l
    else Err Undef

-- a field that isn't in a word has no code
abbrev pub is_field : ℕ → ℕ → Bool
is_field low width = not (width == 0) && nat_le (low + width) 32

abbrev pub finish_bit_field : FieldOp → ℕ → ℕ → ℕ → ℕ → Local → Finished
finish_bit_field op rd rn low width l =
    if is_field low width then gives l rd (field_result op (reg l rd) (reg l rn) low width) else Err Undef

abbrev pub finish_extend : ExtendOp → ℕ → ℕ → ℕ → Local → Finished
finish_extend op rd rm rotation l = gives l rd (extended op (reg l rm) rotation)

abbrev pub finish_reverse : ReverseOp → ℕ → ℕ → Local → Finished
finish_reverse op rd rm l = gives l rd (reversed op (reg l rm))

-- N and Z tell a product
abbrev pub product : Flags → ℕ → ℕ → Local → Finished
product flags rd value l =
    gives (with_registers l (record l.registers { apsr = if sets_flags flags l.registers then with_n_and_z value l.registers.apsr else l.registers.apsr })) rd value

abbrev pub finish_multiply : MultiplyOp → Flags → ℕ → ℕ → ℕ → ℕ → Local → Finished
finish_multiply op flags rd rn rm ra l = product flags rd (multiplied op (reg l rn) (reg l rm) (reg l ra)) l

abbrev pub long_result : ℕ → ℕ → ℕ × ℕ → Local → Finished
long_result lo hi result l = gives (put l lo result.0) hi result.1

abbrev pub finish_multiply_long : LongOp → ℕ → ℕ → ℕ → ℕ → Local → Finished
finish_multiply_long op lo hi rn rm l = long_result lo hi (multiplied_long op (reg l rn) (reg l rm) (reg l lo) (reg l hi)) l

-- CCR.DIV_0_TRP
abbrev pub traps_division : ℕ → Bool
traps_division ccr = ccr / 2 ^ ccr_div_0_trp % 2 == 1

abbrev pub finish_divide : Bool → ℕ → ℕ → ℕ → Local → Finished
finish_divide signed rd rn rm l =
    if traps_division l.ccr && (reg l rm == 0) then Err DivZero else gives l rd (divided signed (reg l rn) (reg l rm))

-- what an instruction of this family leaves
abbrev pub finish_alu : Insn → Local → Finished
finish_alu (DataImm op flags rd rn imm12) l = finish_constant op flags rd rn imm12 l
finish_alu (DataReg op flags rd rn rm kind amount) l = finish_register op flags rd rn rm kind amount l
finish_alu (ShiftReg kind flags rd rn rm) l = finish_shift kind flags rd rn rm l
finish_alu (AddWide sub rd rn imm) l = finish_add_wide sub rd rn imm l
finish_alu (Adr rd offset) l = finish_adr rd offset l
finish_alu (MovWide top rd imm) l = finish_move_wide top rd imm l
finish_alu (Saturate signed rd rn bits asr amount) l = finish_saturate signed rd rn bits asr amount l
finish_alu (BitField op rd rn low width) l = finish_bit_field op rd rn low width l
finish_alu (Extend op rd rm rotation) l = finish_extend op rd rm rotation l
finish_alu (Reverse op rd rm) l = finish_reverse op rd rm l
finish_alu (Multiply op flags rd rn rm ra) l = finish_multiply op flags rd rn rm ra l
finish_alu (MultiplyLong op lo hi rn rm) l = finish_multiply_long op lo hi rn rm l
finish_alu (Divide signed rd rn rm) l = finish_divide signed rd rn rm l
finish_alu insn l = Err Undef
