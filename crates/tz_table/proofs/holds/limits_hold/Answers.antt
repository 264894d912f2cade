use Rattle.std.proofs.Common.{◌∙◌, sym, arith}
use Rattle.tz_table.proofs.Numbers.{table_limits, table_past}
use Rattle.tz_table.proofs.holds.limits_hold.Goals as goal

pub returns-in-0-to-7 : goal.returns-in-0-to-7
returns-in-0-to-7 c = c.from_lsl_imm.ensures ∙ table_limits c.args.row.now c.number_of-number.result c.args.first c.args.second c.number_of-number.ensures.before c.number_of-number.ensures.here

pub returns-in-8-to-15 : goal.returns-in-8-to-15
returns-in-8-to-15 c = c.from_cmp_imm8.ensures ∙ table_limits c.args.row.now c.number_of-number.result c.args.first c.args.second c.number_of-number.ensures.before c.number_of-number.ensures.here

pub returns-in-16-to-23 : goal.returns-in-16-to-23
returns-in-16-to-23 c = c.from_adc_low.ensures ∙ table_limits c.args.row.now c.number_of-number.result c.args.first c.args.second c.number_of-number.ensures.before c.number_of-number.ensures.here

pub returns-in-24-to-31 : goal.returns-in-24-to-31
returns-in-24-to-31 c = c.from_mul_low.ensures ∙ table_limits c.args.row.now c.number_of-number.result c.args.first c.args.second c.number_of-number.ensures.before c.number_of-number.ensures.here

pub returns-in-32-to-39 : goal.returns-in-32-to-39
returns-in-32-to-39 c = c.from_ldr_literal.ensures ∙ table_limits c.args.row.now c.number_of-number.result c.args.first c.args.second c.number_of-number.ensures.before c.number_of-number.ensures.here

pub returns-in-40-to-47 : goal.returns-in-40-to-47
returns-in-40-to-47 c = c.from_ldrsh_index.ensures ∙ table_limits c.args.row.now c.number_of-number.result c.args.first c.args.second c.number_of-number.ensures.before c.number_of-number.ensures.here

pub returns-in-48-to-55 : goal.returns-in-48-to-55
returns-in-48-to-55 c = c.from_ldr_sp.ensures ∙ table_limits c.args.row.now c.number_of-number.result c.args.first c.args.second c.number_of-number.ensures.before c.number_of-number.ensures.here

pub returns-in-56-to-63 : goal.returns-in-56-to-63
returns-in-56-to-63 c = c.from_uxtb.ensures ∙ table_limits c.args.row.now c.number_of-number.result c.args.first c.args.second c.number_of-number.ensures.before c.number_of-number.ensures.here

pub returns-in-64-to-71 : goal.returns-in-64-to-71
returns-in-64-to-71 c = c.from_if_then.ensures ∙ table_limits c.args.row.now c.number_of-number.result c.args.first c.args.second c.number_of-number.ensures.before c.number_of-number.ensures.here

pub returns-in-72-to-79 : goal.returns-in-72-to-79
returns-in-72-to-79 c = c.from_ldm_w.ensures ∙ table_limits c.args.row.now c.number_of-number.result c.args.first c.args.second c.number_of-number.ensures.before c.number_of-number.ensures.here

pub returns-in-80-to-87 : goal.returns-in-80-to-87
returns-in-80-to-87 c = c.from_tt.ensures ∙ table_limits c.args.row.now c.number_of-number.result c.args.first c.args.second c.number_of-number.ensures.before c.number_of-number.ensures.here

pub returns-in-88-to-95 : goal.returns-in-88-to-95
returns-in-88-to-95 c = c.from_stlexh.ensures ∙ table_limits c.args.row.now c.number_of-number.result c.args.first c.args.second c.number_of-number.ensures.before c.number_of-number.ensures.here

pub returns-in-96-to-103 : goal.returns-in-96-to-103
returns-in-96-to-103 c = c.from_ldaexh.ensures ∙ table_limits c.args.row.now c.number_of-number.result c.args.first c.args.second c.number_of-number.ensures.before c.number_of-number.ensures.here

pub returns-in-104-to-111 : goal.returns-in-104-to-111
returns-in-104-to-111 c = c.from_orn_reg_w.ensures ∙ table_limits c.args.row.now c.number_of-number.result c.args.first c.args.second c.number_of-number.ensures.before c.number_of-number.ensures.here

pub returns-in-112-to-119 : goal.returns-in-112-to-119
returns-in-112-to-119 c = c.from_sub_reg_w.ensures ∙ table_limits c.args.row.now c.number_of-number.result c.args.first c.args.second c.number_of-number.ensures.before c.number_of-number.ensures.here

pub returns-in-120-to-127 : goal.returns-in-120-to-127
returns-in-120-to-127 c = c.from_orn_imm_w.ensures ∙ table_limits c.args.row.now c.number_of-number.result c.args.first c.args.second c.number_of-number.ensures.before c.number_of-number.ensures.here

pub returns-in-128-to-135 : goal.returns-in-128-to-135
returns-in-128-to-135 c = c.from_sub_imm_w.ensures ∙ table_limits c.args.row.now c.number_of-number.result c.args.first c.args.second c.number_of-number.ensures.before c.number_of-number.ensures.here

pub returns-in-136-to-143 : goal.returns-in-136-to-143
returns-in-136-to-143 c = c.from_ssat.ensures ∙ table_limits c.args.row.now c.number_of-number.result c.args.first c.args.second c.number_of-number.ensures.before c.number_of-number.ensures.here

pub returns-in-144-to-151 : goal.returns-in-144-to-151
returns-in-144-to-151 c = c.from_bl.ensures ∙ table_limits c.args.row.now c.number_of-number.result c.args.first c.args.second c.number_of-number.ensures.before c.number_of-number.ensures.here

pub returns-in-152-to-159 : goal.returns-in-152-to-159
returns-in-152-to-159 c = c.from_udf_w.ensures ∙ table_limits c.args.row.now c.number_of-number.result c.args.first c.args.second c.number_of-number.ensures.before c.number_of-number.ensures.here

pub returns-in-160-to-167 : goal.returns-in-160-to-167
returns-in-160-to-167 c = c.from_strt.ensures ∙ table_limits c.args.row.now c.number_of-number.result c.args.first c.args.second c.number_of-number.ensures.before c.number_of-number.ensures.here

pub returns-in-168-to-175 : goal.returns-in-168-to-175
returns-in-168-to-175 c = c.from_shift_reg_w.ensures ∙ table_limits c.args.row.now c.number_of-number.result c.args.first c.args.second c.number_of-number.ensures.before c.number_of-number.ensures.here

pub returns-in-176-to-183 : goal.returns-in-176-to-183
returns-in-176-to-183 c = c.from_revsh_w.ensures ∙ table_limits c.args.row.now c.number_of-number.result c.args.first c.args.second c.number_of-number.ensures.before c.number_of-number.ensures.here

pub returns-in-184-to-188 : goal.returns-in-184-to-188
returns-in-184-to-188 c = c.from_umlal.ensures ∙ table_limits c.args.row.now c.number_of-number.result c.args.first c.args.second c.number_of-number.ensures.before c.number_of-number.ensures.here

pub returns-in_default : goal.returns-in_default
returns-in_default c =
    sym (table_past c.number_of-number.result c.args.first c.args.second (omega arith))
    ∙ table_limits c.args.row.now c.number_of-number.result c.args.first c.args.second c.number_of-number.ensures.before c.number_of-number.ensures.here
