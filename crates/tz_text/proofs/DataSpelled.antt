-- The instructions of the rows of 32 bits that process data have a text.
use Rattle.std.proofs.Common.{refl, true, false}
use Rattle.tz_table.specs.Fields.{bits}
use Rattle.tz_table.specs.DataRows as rows
use Rattle.tz_table.specs.declared.instruction.DataOp.TheVariants as ops
use Rattle.tz_table.specs.declared.units.Width.TheVariants.{Wide}
use Rattle.tz_text.proofs.TextForms.{constant_text, move_text, register_text, saturate_text}
use Rattle.tz_text.proofs.TextGroups.{IsSpelled, in_constants, in_other_data, in_registers}

pub and_reg_w : IsSpelled rows.and_reg_w
and_reg_w f s _ = register_text ops.And (bits f 4 1) _ _ _ _ _ refl refl

pub tst_reg_w : IsSpelled rows.tst_reg_w
tst_reg_w f s _ = in_registers (rows.tst_reg_w.insn f s) Wide refl

pub bic_reg_w : IsSpelled rows.bic_reg_w
bic_reg_w f s _ = register_text ops.Bic (bits f 4 1) _ _ _ _ _ refl refl

pub orr_reg_w : IsSpelled rows.orr_reg_w
orr_reg_w f s _ = register_text ops.Orr (bits f 4 1) _ _ _ _ _ refl refl

pub mov_reg_w : IsSpelled rows.mov_reg_w
mov_reg_w f s _ = register_text ops.Mov (bits f 4 1) _ _ _ _ _ refl refl

pub orn_reg_w : IsSpelled rows.orn_reg_w
orn_reg_w f s _ = register_text ops.Orn (bits f 4 1) _ _ _ _ _ refl refl

pub mvn_reg_w : IsSpelled rows.mvn_reg_w
mvn_reg_w f s _ = register_text ops.Mvn (bits f 4 1) _ _ _ _ _ refl refl

pub eor_reg_w : IsSpelled rows.eor_reg_w
eor_reg_w f s _ = register_text ops.Eor (bits f 4 1) _ _ _ _ _ refl refl

pub teq_reg_w : IsSpelled rows.teq_reg_w
teq_reg_w f s _ = in_registers (rows.teq_reg_w.insn f s) Wide refl

pub add_reg_w : IsSpelled rows.add_reg_w
add_reg_w f s _ = register_text ops.Add (bits f 4 1) _ _ _ _ _ refl refl

pub cmn_reg_w : IsSpelled rows.cmn_reg_w
cmn_reg_w f s _ = in_registers (rows.cmn_reg_w.insn f s) Wide refl

pub adc_reg_w : IsSpelled rows.adc_reg_w
adc_reg_w f s _ = register_text ops.Adc (bits f 4 1) _ _ _ _ _ refl refl

pub sbc_reg_w : IsSpelled rows.sbc_reg_w
sbc_reg_w f s _ = register_text ops.Sbc (bits f 4 1) _ _ _ _ _ refl refl

pub sub_reg_w : IsSpelled rows.sub_reg_w
sub_reg_w f s _ = register_text ops.Sub (bits f 4 1) _ _ _ _ _ refl refl

pub cmp_reg_w : IsSpelled rows.cmp_reg_w
cmp_reg_w f s _ = in_registers (rows.cmp_reg_w.insn f s) Wide refl

pub rsb_reg_w : IsSpelled rows.rsb_reg_w
rsb_reg_w f s _ = register_text ops.Rsb (bits f 4 1) _ _ _ _ _ refl refl

pub and_imm_w : IsSpelled rows.and_imm_w
and_imm_w f s _ = constant_text ops.And (bits f 4 1) _ _ _ refl refl

pub tst_imm_w : IsSpelled rows.tst_imm_w
tst_imm_w f s _ = in_constants (rows.tst_imm_w.insn f s) Wide refl

pub bic_imm_w : IsSpelled rows.bic_imm_w
bic_imm_w f s _ = constant_text ops.Bic (bits f 4 1) _ _ _ refl refl

pub orr_imm_w : IsSpelled rows.orr_imm_w
orr_imm_w f s _ = constant_text ops.Orr (bits f 4 1) _ _ _ refl refl

pub mov_imm_w : IsSpelled rows.mov_imm_w
mov_imm_w f s _ = constant_text ops.Mov (bits f 4 1) _ _ _ refl refl

pub orn_imm_w : IsSpelled rows.orn_imm_w
orn_imm_w f s _ = constant_text ops.Orn (bits f 4 1) _ _ _ refl refl

pub mvn_imm_w : IsSpelled rows.mvn_imm_w
mvn_imm_w f s _ = constant_text ops.Mvn (bits f 4 1) _ _ _ refl refl

pub eor_imm_w : IsSpelled rows.eor_imm_w
eor_imm_w f s _ = constant_text ops.Eor (bits f 4 1) _ _ _ refl refl

pub teq_imm_w : IsSpelled rows.teq_imm_w
teq_imm_w f s _ = in_constants (rows.teq_imm_w.insn f s) Wide refl

pub add_imm_w : IsSpelled rows.add_imm_w
add_imm_w f s _ = constant_text ops.Add (bits f 4 1) _ _ _ refl refl

pub cmn_imm_w : IsSpelled rows.cmn_imm_w
cmn_imm_w f s _ = in_constants (rows.cmn_imm_w.insn f s) Wide refl

pub adc_imm_w : IsSpelled rows.adc_imm_w
adc_imm_w f s _ = constant_text ops.Adc (bits f 4 1) _ _ _ refl refl

pub sbc_imm_w : IsSpelled rows.sbc_imm_w
sbc_imm_w f s _ = constant_text ops.Sbc (bits f 4 1) _ _ _ refl refl

pub sub_imm_w : IsSpelled rows.sub_imm_w
sub_imm_w f s _ = constant_text ops.Sub (bits f 4 1) _ _ _ refl refl

pub cmp_imm_w : IsSpelled rows.cmp_imm_w
cmp_imm_w f s _ = in_constants (rows.cmp_imm_w.insn f s) Wide refl

pub rsb_imm_w : IsSpelled rows.rsb_imm_w
rsb_imm_w f s _ = constant_text ops.Rsb (bits f 4 1) _ _ _ refl refl

pub addw : IsSpelled rows.addw
addw f s _ = in_other_data (rows.addw.insn f s) Wide refl

pub subw : IsSpelled rows.subw
subw f s _ = in_other_data (rows.subw.insn f s) Wide refl

pub adr_after : IsSpelled rows.adr_after
adr_after f s _ = in_other_data (rows.adr_after.insn f s) Wide refl

pub adr_before : IsSpelled rows.adr_before
adr_before f s _ = in_other_data (rows.adr_before.insn f s) Wide refl

pub movw : IsSpelled rows.movw
movw f s _ = move_text (bits f 7 1) _ _

pub ssat : IsSpelled rows.ssat
ssat f s _ = saturate_text true (bits f 5 1) _ _ _ _

pub usat : IsSpelled rows.usat
usat f s _ = saturate_text false (bits f 5 1) _ _ _ _

pub sbfx : IsSpelled rows.sbfx
sbfx f s _ = in_other_data (rows.sbfx.insn f s) Wide refl

pub ubfx : IsSpelled rows.ubfx
ubfx f s _ = in_other_data (rows.ubfx.insn f s) Wide refl

pub bfi : IsSpelled rows.bfi
bfi f s _ = in_other_data (rows.bfi.insn f s) Wide refl

pub bfc : IsSpelled rows.bfc
bfc f s _ = in_other_data (rows.bfc.insn f s) Wide refl
