-- The instructions of the rows of 16 bits have a text.
use Rattle.std.proofs.Common.{arith, refl}
use Rattle.tz_table.specs.Fields.{bits}
use Rattle.tz_table.specs.NarrowRows as rows
use Rattle.tz_table.specs.declared.units.Width.TheVariants.{Narrow}
use Rattle.tz_text.proofs.TextForms.{add_text, branch_exchange_text, branch_zero_text, call_exchange_text, change_state_text, excepts_from, left_text, load_many_narrow_text, narrow_branch_if_text, narrow_hint_text}
use Rattle.tz_text.proofs.TextGroups.{IsSpelled, in_branches, in_constants, in_loads, in_multiples, in_other_data, in_registers, in_stores, in_system}

pub lsl_imm : IsSpelled rows.lsl_imm
lsl_imm f s _ = left_text _ _ _

pub lsr_imm : IsSpelled rows.lsr_imm
lsr_imm f s _ = in_registers (rows.lsr_imm.insn f s) Narrow refl

pub asr_imm : IsSpelled rows.asr_imm
asr_imm f s _ = in_registers (rows.asr_imm.insn f s) Narrow refl

pub add_reg : IsSpelled rows.add_reg
add_reg f s _ = in_registers (rows.add_reg.insn f s) Narrow refl

pub sub_reg : IsSpelled rows.sub_reg
sub_reg f s _ = in_registers (rows.sub_reg.insn f s) Narrow refl

pub add_imm3 : IsSpelled rows.add_imm3
add_imm3 f s _ = in_constants (rows.add_imm3.insn f s) Narrow refl

pub sub_imm3 : IsSpelled rows.sub_imm3
sub_imm3 f s _ = in_constants (rows.sub_imm3.insn f s) Narrow refl

pub mov_imm8 : IsSpelled rows.mov_imm8
mov_imm8 f s _ = in_constants (rows.mov_imm8.insn f s) Narrow refl

pub cmp_imm8 : IsSpelled rows.cmp_imm8
cmp_imm8 f s _ = in_constants (rows.cmp_imm8.insn f s) Narrow refl

pub add_imm8 : IsSpelled rows.add_imm8
add_imm8 f s _ = in_constants (rows.add_imm8.insn f s) Narrow refl

pub sub_imm8 : IsSpelled rows.sub_imm8
sub_imm8 f s _ = in_constants (rows.sub_imm8.insn f s) Narrow refl

pub and_low : IsSpelled rows.and_low
and_low f s _ = in_registers (rows.and_low.insn f s) Narrow refl

pub eor_low : IsSpelled rows.eor_low
eor_low f s _ = in_registers (rows.eor_low.insn f s) Narrow refl

pub lsl_low : IsSpelled rows.lsl_low
lsl_low f s _ = in_other_data (rows.lsl_low.insn f s) Narrow refl

pub lsr_low : IsSpelled rows.lsr_low
lsr_low f s _ = in_other_data (rows.lsr_low.insn f s) Narrow refl

pub asr_low : IsSpelled rows.asr_low
asr_low f s _ = in_other_data (rows.asr_low.insn f s) Narrow refl

pub adc_low : IsSpelled rows.adc_low
adc_low f s _ = in_registers (rows.adc_low.insn f s) Narrow refl

pub sbc_low : IsSpelled rows.sbc_low
sbc_low f s _ = in_registers (rows.sbc_low.insn f s) Narrow refl

pub ror_low : IsSpelled rows.ror_low
ror_low f s _ = in_other_data (rows.ror_low.insn f s) Narrow refl

pub tst_low : IsSpelled rows.tst_low
tst_low f s _ = in_registers (rows.tst_low.insn f s) Narrow refl

pub rsb_low : IsSpelled rows.rsb_low
rsb_low f s _ = in_constants (rows.rsb_low.insn f s) Narrow refl

pub cmp_low : IsSpelled rows.cmp_low
cmp_low f s _ = in_registers (rows.cmp_low.insn f s) Narrow refl

pub cmn_low : IsSpelled rows.cmn_low
cmn_low f s _ = in_registers (rows.cmn_low.insn f s) Narrow refl

pub orr_low : IsSpelled rows.orr_low
orr_low f s _ = in_registers (rows.orr_low.insn f s) Narrow refl

pub mul_low : IsSpelled rows.mul_low
mul_low f s _ = in_other_data (rows.mul_low.insn f s) Narrow refl

pub bic_low : IsSpelled rows.bic_low
bic_low f s _ = in_registers (rows.bic_low.insn f s) Narrow refl

pub mvn_low : IsSpelled rows.mvn_low
mvn_low f s _ = in_registers (rows.mvn_low.insn f s) Narrow refl

pub add_high : IsSpelled rows.add_high
add_high f s _ = in_registers (rows.add_high.insn f s) Narrow refl

pub cmp_high : IsSpelled rows.cmp_high
cmp_high f s _ = in_registers (rows.cmp_high.insn f s) Narrow refl

pub mov_high : IsSpelled rows.mov_high
mov_high f s _ = in_registers (rows.mov_high.insn f s) Narrow refl

pub bx : IsSpelled rows.bx
bx f s _ = branch_exchange_text _ (bits f 2 1)

pub blx : IsSpelled rows.blx
blx f s _ = call_exchange_text _ (bits f 2 1)

pub ldr_literal : IsSpelled rows.ldr_literal
ldr_literal f s _ = in_loads (rows.ldr_literal.insn f s) Narrow refl

pub str_index : IsSpelled rows.str_index
str_index f s _ = in_stores (rows.str_index.insn f s) Narrow refl

pub strh_index : IsSpelled rows.strh_index
strh_index f s _ = in_stores (rows.strh_index.insn f s) Narrow refl

pub strb_index : IsSpelled rows.strb_index
strb_index f s _ = in_stores (rows.strb_index.insn f s) Narrow refl

pub ldrsb_index : IsSpelled rows.ldrsb_index
ldrsb_index f s _ = in_loads (rows.ldrsb_index.insn f s) Narrow refl

pub ldr_index : IsSpelled rows.ldr_index
ldr_index f s _ = in_loads (rows.ldr_index.insn f s) Narrow refl

pub ldrh_index : IsSpelled rows.ldrh_index
ldrh_index f s _ = in_loads (rows.ldrh_index.insn f s) Narrow refl

pub ldrb_index : IsSpelled rows.ldrb_index
ldrb_index f s _ = in_loads (rows.ldrb_index.insn f s) Narrow refl

pub ldrsh_index : IsSpelled rows.ldrsh_index
ldrsh_index f s _ = in_loads (rows.ldrsh_index.insn f s) Narrow refl

pub str_offset : IsSpelled rows.str_offset
str_offset f s _ = in_stores (rows.str_offset.insn f s) Narrow refl

pub ldr_offset : IsSpelled rows.ldr_offset
ldr_offset f s _ = in_loads (rows.ldr_offset.insn f s) Narrow refl

pub strb_offset : IsSpelled rows.strb_offset
strb_offset f s _ = in_stores (rows.strb_offset.insn f s) Narrow refl

pub ldrb_offset : IsSpelled rows.ldrb_offset
ldrb_offset f s _ = in_loads (rows.ldrb_offset.insn f s) Narrow refl

pub strh_offset : IsSpelled rows.strh_offset
strh_offset f s _ = in_stores (rows.strh_offset.insn f s) Narrow refl

pub ldrh_offset : IsSpelled rows.ldrh_offset
ldrh_offset f s _ = in_loads (rows.ldrh_offset.insn f s) Narrow refl

pub str_sp : IsSpelled rows.str_sp
str_sp f s _ = in_stores (rows.str_sp.insn f s) Narrow refl

pub ldr_sp : IsSpelled rows.ldr_sp
ldr_sp f s _ = in_loads (rows.ldr_sp.insn f s) Narrow refl

pub adr : IsSpelled rows.adr
adr f s _ = in_other_data (rows.adr.insn f s) Narrow refl

pub add_sp_imm8 : IsSpelled rows.add_sp_imm8
add_sp_imm8 f s _ = in_other_data (rows.add_sp_imm8.insn f s) Narrow refl

pub add_sp_imm7 : IsSpelled rows.add_sp_imm7
add_sp_imm7 f s _ = add_text (bits f 7 1) _ _ _

pub cbz : IsSpelled rows.cbz
cbz f s _ = branch_zero_text (bits f 11 1) _ _

pub sxth : IsSpelled rows.sxth
sxth f s _ = in_other_data (rows.sxth.insn f s) Narrow refl

pub sxtb : IsSpelled rows.sxtb
sxtb f s _ = in_other_data (rows.sxtb.insn f s) Narrow refl

pub uxth : IsSpelled rows.uxth
uxth f s _ = in_other_data (rows.uxth.insn f s) Narrow refl

pub uxtb : IsSpelled rows.uxtb
uxtb f s _ = in_other_data (rows.uxtb.insn f s) Narrow refl

pub push : IsSpelled rows.push
push f s _ = in_multiples (rows.push.insn f s) Narrow refl

pub pop : IsSpelled rows.pop
pop f s _ = in_multiples (rows.pop.insn f s) Narrow refl

pub cps : IsSpelled rows.cps
cps f s _ = change_state_text (bits f 4 1) _ _

pub rev : IsSpelled rows.rev
rev f s _ = in_other_data (rows.rev.insn f s) Narrow refl

pub rev16 : IsSpelled rows.rev16
rev16 f s _ = in_other_data (rows.rev16.insn f s) Narrow refl

pub revsh : IsSpelled rows.revsh
revsh f s _ = in_other_data (rows.revsh.insn f s) Narrow refl

pub bkpt : IsSpelled rows.bkpt
bkpt f s _ = in_system (rows.bkpt.insn f s) Narrow refl

pub if_then : IsSpelled rows.if_then
if_then f s _ = in_system (rows.if_then.insn f s) Narrow refl

pub hint : IsSpelled rows.hint
hint f s _ = narrow_hint_text _

pub stm : IsSpelled rows.stm
stm f s _ = in_multiples (rows.stm.insn f s) Narrow refl

pub ldm : IsSpelled rows.ldm
ldm f s _ = load_many_narrow_text _ _ _

pub bcond : IsSpelled rows.bcond
bcond f s h = narrow_branch_if_text _ _ (omega arith) (excepts_from rows.bcond f s h)

pub udf : IsSpelled rows.udf
udf f s _ = in_system (rows.udf.insn f s) Narrow refl

pub svc : IsSpelled rows.svc
svc f s _ = in_system (rows.svc.insn f s) Narrow refl

pub branch : IsSpelled rows.branch
branch f s _ = in_branches (rows.branch.insn f s) Narrow refl
