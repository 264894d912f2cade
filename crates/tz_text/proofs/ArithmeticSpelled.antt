-- The instructions of the rows of 32 bits that shift, extend, reverse, multiply and divide have a text.
use Rattle.std.proofs.Common.{refl}
use Rattle.tz_table.specs.Fields.{bits}
use Rattle.tz_table.specs.ArithmeticRows as rows
use Rattle.tz_table.specs.declared.units.Width.TheVariants.{Wide}
use Rattle.tz_text.proofs.TextForms.{lazy_state_text, shift_text}
use Rattle.tz_text.proofs.TextGroups.{IsSpelled, in_other_data, in_system}

pub shift_reg_w : IsSpelled rows.shift_reg_w
shift_reg_w f s _ = shift_text (bits f 5 2) (bits f 4 1) _ _ _

pub sxth_w : IsSpelled rows.sxth_w
sxth_w f s _ = in_other_data (rows.sxth_w.insn f s) Wide refl

pub uxth_w : IsSpelled rows.uxth_w
uxth_w f s _ = in_other_data (rows.uxth_w.insn f s) Wide refl

pub sxtb_w : IsSpelled rows.sxtb_w
sxtb_w f s _ = in_other_data (rows.sxtb_w.insn f s) Wide refl

pub uxtb_w : IsSpelled rows.uxtb_w
uxtb_w f s _ = in_other_data (rows.uxtb_w.insn f s) Wide refl

pub rev_w : IsSpelled rows.rev_w
rev_w f s _ = in_other_data (rows.rev_w.insn f s) Wide refl

pub rev16_w : IsSpelled rows.rev16_w
rev16_w f s _ = in_other_data (rows.rev16_w.insn f s) Wide refl

pub rbit : IsSpelled rows.rbit
rbit f s _ = in_other_data (rows.rbit.insn f s) Wide refl

pub revsh_w : IsSpelled rows.revsh_w
revsh_w f s _ = in_other_data (rows.revsh_w.insn f s) Wide refl

pub clz : IsSpelled rows.clz
clz f s _ = in_other_data (rows.clz.insn f s) Wide refl

pub mla : IsSpelled rows.mla
mla f s _ = in_other_data (rows.mla.insn f s) Wide refl

pub mul_w : IsSpelled rows.mul_w
mul_w f s _ = in_other_data (rows.mul_w.insn f s) Wide refl

pub mls : IsSpelled rows.mls
mls f s _ = in_other_data (rows.mls.insn f s) Wide refl

pub smull : IsSpelled rows.smull
smull f s _ = in_other_data (rows.smull.insn f s) Wide refl

pub umull : IsSpelled rows.umull
umull f s _ = in_other_data (rows.umull.insn f s) Wide refl

pub smlal : IsSpelled rows.smlal
smlal f s _ = in_other_data (rows.smlal.insn f s) Wide refl

pub umlal : IsSpelled rows.umlal
umlal f s _ = in_other_data (rows.umlal.insn f s) Wide refl

pub sdiv : IsSpelled rows.sdiv
sdiv f s _ = in_other_data (rows.sdiv.insn f s) Wide refl

pub udiv : IsSpelled rows.udiv
udiv f s _ = in_other_data (rows.udiv.insn f s) Wide refl

pub sg : IsSpelled rows.sg
sg f s _ = in_system (rows.sg.insn f s) Wide refl

pub vlstm : IsSpelled rows.vlstm
vlstm f s _ = lazy_state_text (bits f 4 1) _
