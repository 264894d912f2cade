-- The wide rows of loads and stores of one register are described by their slots.
use Rattle.std.proofs.Common.{refl}
use Rattle.tz_table.specs.LoadRows.{ldr_imm12, str_imm12, pld_imm12, ldr_negative, str_negative, pld_negative, ldrt, strt, ldr_back, str_back, ldr_index_w, str_index_w, pld_index, ldr_literal_w, pld_literal}
use Rattle.tz_table.specs.Table.{rows}
use Rattle.tz_encode.proofs.Described.{regular}
use Rattle.tz_encode.proofs.Groups.{GroupDescribed, ◌⨾◌}
use Rattle.tz_encode.proofs.LoadReads.{ldr_imm12_reads, str_imm12_reads, ldr_negative_reads, str_negative_reads, ldrt_reads, strt_reads, ldr_back_reads, str_back_reads, ldr_index_w_reads, str_index_w_reads, ldr_literal_w_reads, pld_literal_reads}
use Rattle.tz_encode.proofs.Reading.{shape}
use Rattle.tz_encode.proofs.ReverseReads.{pld_imm12_reads, pld_negative_reads, pld_index_reads}

pub load_described : GroupDescribed 153 15
unfolding rows
load_described =
    regular ldr_imm12 58 (shape 153) ldr_imm12_reads refl refl ⨾
    regular str_imm12 59 (shape 154) str_imm12_reads refl refl ⨾
    regular pld_imm12 64 (shape 155) pld_imm12_reads refl refl ⨾
    regular ldr_negative 58 (shape 156) ldr_negative_reads refl refl ⨾
    regular str_negative 59 (shape 157) str_negative_reads refl refl ⨾
    regular pld_negative 64 (shape 158) pld_negative_reads refl refl ⨾
    regular ldrt 58 (shape 159) ldrt_reads refl refl ⨾
    regular strt 59 (shape 160) strt_reads refl refl ⨾
    regular ldr_back 58 (shape 161) ldr_back_reads refl refl ⨾
    regular str_back 59 (shape 162) str_back_reads refl refl ⨾
    regular ldr_index_w 58 (shape 163) ldr_index_w_reads refl refl ⨾
    regular str_index_w 59 (shape 164) str_index_w_reads refl refl ⨾
    regular pld_index 64 (shape 165) pld_index_reads refl refl ⨾
    regular ldr_literal_w 58 (shape 166) ldr_literal_w_reads refl refl ⨾
    regular pld_literal 64 (shape 167) pld_literal_reads refl refl ⨾
    tt
