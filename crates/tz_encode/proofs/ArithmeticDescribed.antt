-- The last rows: shifts by registers, extensions, multiplications, divisions, SG and VLSTM are described by their slots.
use Rattle.std.proofs.Common.{refl}
use Rattle.tz_table.specs.ArithmeticRows.{shift_reg_w, sxth_w, uxth_w, sxtb_w, uxtb_w, mla, mul_w, mls, smull, umull, smlal, umlal, sdiv, udiv, sg, vlstm}
use Rattle.tz_table.specs.Table.{rows}
use Rattle.tz_encode.proofs.ArithmeticReads.{shift_reg_w_reads, sxth_w_reads, uxth_w_reads, sxtb_w_reads, uxtb_w_reads, mla_reads, mul_w_reads, mls_reads, smull_reads, umull_reads, smlal_reads, umlal_reads, sdiv_reads, udiv_reads, sg_reads, vlstm_reads}
use Rattle.tz_encode.proofs.Described.{regular}
use Rattle.tz_encode.proofs.Groups.{GroupDescribed, ◌⨾◌}
use Rattle.tz_encode.proofs.Reading.{shape}
use Rattle.tz_encode.proofs.ReverseReads.{rev_w_described, rev16_w_described, rbit_described, revsh_w_described, clz_described}

pub arithmetic_described : GroupDescribed 168 21
unfolding rows
arithmetic_described =
    regular shift_reg_w 32 (shape 168) shift_reg_w_reads refl refl ⨾
    regular sxth_w 41 (shape 169) sxth_w_reads refl refl ⨾
    regular uxth_w 43 (shape 170) uxth_w_reads refl refl ⨾
    regular sxtb_w 42 (shape 171) sxtb_w_reads refl refl ⨾
    regular uxtb_w 44 (shape 172) uxtb_w_reads refl refl ⨾
    rev_w_described ⨾
    rev16_w_described ⨾
    rbit_described ⨾
    revsh_w_described ⨾
    clz_described ⨾
    regular mla 51 (shape 178) mla_reads refl refl ⨾
    regular mul_w 50 (shape 179) mul_w_reads refl refl ⨾
    regular mls 52 (shape 180) mls_reads refl refl ⨾
    regular smull 53 (shape 181) smull_reads refl refl ⨾
    regular umull 54 (shape 182) umull_reads refl refl ⨾
    regular smlal 55 (shape 183) smlal_reads refl refl ⨾
    regular umlal 56 (shape 184) umlal_reads refl refl ⨾
    regular sdiv 57 (shape 185) sdiv_reads refl refl ⨾
    regular udiv 57 (shape 186) udiv_reads refl refl ⨾
    regular sg 86 (shape 187) sg_reads refl refl ⨾
    regular vlstm 87 (shape 188) vlstm_reads refl refl ⨾
    tt
