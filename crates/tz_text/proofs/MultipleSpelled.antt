-- The instructions of the rows of several registers, of exclusive accesses, and of acquire and release have a text.
use Rattle.std.proofs.Common.{refl, true, false}
use Rattle.tz_table.specs.Fields.{bits}
use Rattle.tz_table.specs.MultipleRows as rows
use Rattle.tz_table.specs.declared.units.Width.TheVariants.{Wide}
use Rattle.tz_text.proofs.TextForms.{load_many_text, load_pair_text, store_many_text, store_pair_text, table_branch_text, test_target_text}
use Rattle.tz_text.proofs.TextGroups.{IsSpelled, in_exclusives, in_pairs}

pub ldm_w : IsSpelled rows.ldm_w
ldm_w f s _ = load_many_text _ _ false (bits f 5 1)

pub stm_w : IsSpelled rows.stm_w
stm_w f s _ = store_many_text _ _ false (bits f 5 1)

pub ldmdb : IsSpelled rows.ldmdb
ldmdb f s _ = load_many_text _ _ true (bits f 5 1)

pub stmdb : IsSpelled rows.stmdb
stmdb f s _ = store_many_text _ _ true (bits f 5 1)

pub ldrd : IsSpelled rows.ldrd
ldrd f s _ = load_pair_text (bits f 8 1) (bits f 5 1) _ _ _ _

pub strd : IsSpelled rows.strd
strd f s _ = store_pair_text (bits f 8 1) (bits f 5 1) _ _ _ _

pub ldrd_literal : IsSpelled rows.ldrd_literal
ldrd_literal f s _ = in_pairs (rows.ldrd_literal.insn f s) Wide refl

pub strex : IsSpelled rows.strex
strex f s _ = in_exclusives (rows.strex.insn f s) Wide refl

pub tt : IsSpelled rows.tt
tt f s _ = test_target_text (bits s 7 1) (bits s 6 1) _ _

pub ldrex : IsSpelled rows.ldrex
ldrex f s _ = in_exclusives (rows.ldrex.insn f s) Wide refl

pub strexb : IsSpelled rows.strexb
strexb f s _ = in_exclusives (rows.strexb.insn f s) Wide refl

pub strexh : IsSpelled rows.strexh
strexh f s _ = in_exclusives (rows.strexh.insn f s) Wide refl

pub stlb : IsSpelled rows.stlb
stlb f s _ = in_exclusives (rows.stlb.insn f s) Wide refl

pub stlh : IsSpelled rows.stlh
stlh f s _ = in_exclusives (rows.stlh.insn f s) Wide refl

pub stl : IsSpelled rows.stl
stl f s _ = in_exclusives (rows.stl.insn f s) Wide refl

pub stlexb : IsSpelled rows.stlexb
stlexb f s _ = in_exclusives (rows.stlexb.insn f s) Wide refl

pub stlexh : IsSpelled rows.stlexh
stlexh f s _ = in_exclusives (rows.stlexh.insn f s) Wide refl

pub stlex : IsSpelled rows.stlex
stlex f s _ = in_exclusives (rows.stlex.insn f s) Wide refl

pub ldrexb : IsSpelled rows.ldrexb
ldrexb f s _ = in_exclusives (rows.ldrexb.insn f s) Wide refl

pub ldrexh : IsSpelled rows.ldrexh
ldrexh f s _ = in_exclusives (rows.ldrexh.insn f s) Wide refl

pub ldab : IsSpelled rows.ldab
ldab f s _ = in_exclusives (rows.ldab.insn f s) Wide refl

pub ldah : IsSpelled rows.ldah
ldah f s _ = in_exclusives (rows.ldah.insn f s) Wide refl

pub lda : IsSpelled rows.lda
lda f s _ = in_exclusives (rows.lda.insn f s) Wide refl

pub ldaexb : IsSpelled rows.ldaexb
ldaexb f s _ = in_exclusives (rows.ldaexb.insn f s) Wide refl

pub ldaexh : IsSpelled rows.ldaexh
ldaexh f s _ = in_exclusives (rows.ldaexh.insn f s) Wide refl

pub ldaex : IsSpelled rows.ldaex
ldaex f s _ = in_exclusives (rows.ldaex.insn f s) Wide refl

pub tbb : IsSpelled rows.tbb
tbb f s _ = table_branch_text (bits s 4 1) _ _
