-- The wide rows of several registers, of pairs and exclusives, TT and the table branches are described by their slots.
use Rattle.std.proofs.Common.{refl}
use Rattle.tz_table.specs.MultipleRows.{ldm_w, stm_w, ldmdb, stmdb, ldrd, strd, ldrd_literal, strex, tt as test_target, ldrex, strexb, strexh, stlb, stlh, stl, stlexb, stlexh, stlex, ldrexb, ldrexh, ldab, ldah, lda, ldaexb, ldaexh, ldaex, tbb}
use Rattle.tz_table.specs.Table.{rows}
use Rattle.tz_encode.proofs.Described.{regular}
use Rattle.tz_encode.proofs.ExclusiveReads.{strex_reads, tt_reads, ldrex_reads, strexb_reads, strexh_reads, stlb_reads, stlh_reads, stl_reads, stlexb_reads, stlexh_reads, stlex_reads, ldrexb_reads, ldrexh_reads, ldab_reads, ldah_reads, lda_reads, ldaexb_reads, ldaexh_reads, ldaex_reads, tbb_reads}
use Rattle.tz_encode.proofs.Groups.{GroupDescribed, ◌⨾◌}
use Rattle.tz_encode.proofs.MultipleReads.{ldm_w_reads, stm_w_reads, ldmdb_reads, stmdb_reads, ldrd_reads, strd_reads, ldrd_literal_reads}
use Rattle.tz_encode.proofs.Reading.{shape}

pub multiple_described : GroupDescribed 72 27
unfolding rows
multiple_described =
    regular ldm_w 62 (shape 72) ldm_w_reads refl refl ⨾
    regular stm_w 63 (shape 73) stm_w_reads refl refl ⨾
    regular ldmdb 62 (shape 74) ldmdb_reads refl refl ⨾
    regular stmdb 63 (shape 75) stmdb_reads refl refl ⨾
    regular ldrd 60 (shape 76) ldrd_reads refl refl ⨾
    regular strd 61 (shape 77) strd_reads refl refl ⨾
    regular ldrd_literal 60 (shape 78) ldrd_literal_reads refl refl ⨾
    regular strex 66 (shape 79) strex_reads refl refl ⨾
    regular test_target 85 (shape 80) tt_reads refl refl ⨾
    regular ldrex 65 (shape 81) ldrex_reads refl refl ⨾
    regular strexb 66 (shape 82) strexb_reads refl refl ⨾
    regular strexh 66 (shape 83) strexh_reads refl refl ⨾
    regular stlb 68 (shape 84) stlb_reads refl refl ⨾
    regular stlh 68 (shape 85) stlh_reads refl refl ⨾
    regular stl 68 (shape 86) stl_reads refl refl ⨾
    regular stlexb 66 (shape 87) stlexb_reads refl refl ⨾
    regular stlexh 66 (shape 88) stlexh_reads refl refl ⨾
    regular stlex 66 (shape 89) stlex_reads refl refl ⨾
    regular ldrexb 65 (shape 90) ldrexb_reads refl refl ⨾
    regular ldrexh 65 (shape 91) ldrexh_reads refl refl ⨾
    regular ldab 67 (shape 92) ldab_reads refl refl ⨾
    regular ldah 67 (shape 93) ldah_reads refl refl ⨾
    regular lda 67 (shape 94) lda_reads refl refl ⨾
    regular ldaexb 65 (shape 95) ldaexb_reads refl refl ⨾
    regular ldaexh 65 (shape 96) ldaexh_reads refl refl ⨾
    regular ldaex 65 (shape 97) ldaex_reads refl refl ⨾
    regular tbb 73 (shape 98) tbb_reads refl refl ⨾
    tt
