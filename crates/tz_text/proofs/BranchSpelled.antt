-- The instructions of the rows of 32 bits that branch or work on the system have a text.
use Rattle.std.proofs.Common.{ℕ, ◌<◌, arith, refl}
use Rattle.tz_table.specs.Fields.{bits}
use Rattle.tz_table.specs.BranchRows as rows
use Rattle.tz_table.specs.declared.units.Width.TheVariants.{Wide}
use Rattle.tz_text.proofs.TextForms.{excepts_from, wide_branch_if_text, wide_hint_text}
use Rattle.tz_text.proofs.TextGroups.{IsSpelled, in_branches, in_system}

-- a condition has four bits
condition_below : (f : ℕ) → bits f 6 4 < 16
condition_below f = omega arith

pub bcond_w : IsSpelled rows.bcond_w
bcond_w f s h = wide_branch_if_text (bits f 6 4) _ (condition_below f) (excepts_from rows.bcond_w f s h)

pub branch_w : IsSpelled rows.branch_w
branch_w f s _ = in_branches (rows.branch_w.insn f s) Wide refl

pub bl : IsSpelled rows.bl
bl f s _ = in_branches (rows.bl.insn f s) Wide refl

pub msr : IsSpelled rows.msr
msr f s _ = in_system (rows.msr.insn f s) Wide refl

pub mrs : IsSpelled rows.mrs
mrs f s _ = in_system (rows.mrs.insn f s) Wide refl

pub hint_w : IsSpelled rows.hint_w
hint_w f s _ = wide_hint_text _

pub clrex : IsSpelled rows.clrex
clrex f s _ = in_system (rows.clrex.insn f s) Wide refl

pub dsb : IsSpelled rows.dsb
dsb f s _ = in_system (rows.dsb.insn f s) Wide refl

pub dmb : IsSpelled rows.dmb
dmb f s _ = in_system (rows.dmb.insn f s) Wide refl

pub isb : IsSpelled rows.isb
isb f s _ = in_system (rows.isb.insn f s) Wide refl

pub udf_w : IsSpelled rows.udf_w
udf_w f s _ = in_system (rows.udf_w.insn f s) Wide refl
