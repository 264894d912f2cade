-- The wide rows of branches, special registers, hints and barriers are described by their slots.
use Rattle.std.proofs.Common.{refl}
use Rattle.tz_table.specs.BranchRows.{bcond_w, branch_w, bl, msr, mrs, hint_w, clrex, dsb, dmb, isb, udf_w}
use Rattle.tz_table.specs.Table.{rows}
use Rattle.tz_encode.proofs.BranchReads.{bcond_w_reads, branch_w_reads, bl_reads, msr_reads, mrs_reads, hint_w_reads, clrex_reads, dsb_reads, dmb_reads, isb_reads, udf_w_reads}
use Rattle.tz_encode.proofs.Described.{regular}
use Rattle.tz_encode.proofs.Groups.{GroupDescribed, ◌⨾◌}
use Rattle.tz_encode.proofs.Reading.{shape}

pub branch_described : GroupDescribed 142 11
unfolding rows
branch_described =
    regular bcond_w 70 (shape 142) bcond_w_reads refl refl ⨾
    regular branch_w 69 (shape 143) branch_w_reads refl refl ⨾
    regular bl 71 (shape 144) bl_reads refl refl ⨾
    regular msr 84 (shape 145) msr_reads refl refl ⨾
    regular mrs 83 (shape 146) mrs_reads refl refl ⨾
    regular hint_w 77 (shape 147) hint_w_reads refl refl ⨾
    regular clrex 78 (shape 148) clrex_reads refl refl ⨾
    regular dsb 79 (shape 149) dsb_reads refl refl ⨾
    regular dmb 80 (shape 150) dmb_reads refl refl ⨾
    regular isb 81 (shape 151) isb_reads refl refl ⨾
    regular udf_w 90 (shape 152) udf_w_reads refl refl ⨾
    tt
