-- The rows of 32 bits of exclusive accesses, acquire and release, tests of targets and table branches.
use Rattle.std.proofs.Common.{[], ◌∷◌, refl, ◌∙◌}
use Rattle.std.specs.Prelude.{pos, nat_abs}
use Rattle.tz_table.specs.Fields.{bits}
use Rattle.tz_table.specs.Limits.{plain, not_pc}
use Rattle.tz_table.specs.MultipleRows.{strex, tt as target, ldrex, strexb, strexh, stlb, stlh, stl, stlexb, stlexh, stlex, ldrexb, ldrexh, ldab, ldah, lda, ldaexb, ldaexh, ldaex, tbb}
use Rattle.tz_encode.proofs.Reading.{Reads, shape, read_all, read_alone}
use Rattle.tz_encode.proofs.Slots.{fill}
use Rattle.tz_encode.proofs.FieldWords.{bool_word, at_1, at_2}
use Rattle.tz_encode.proofs.Regrouping.{two, redundant, store_exclusive, pc_store_exclusive}
use Rattle.tz_encode.proofs.Choosing.{other, other_passes}

pub strex_reads : Reads strex 66 (shape 79)
strex_reads =
    read_all strex 66 (shape 79) (λ f s. refl) (λ f s. redundant _ _ (pc_store_exclusive (bits s 8 4) (bits s 12 4) (bits f 0 4)) ∙ store_exclusive (bits s 8 4) (bits s 12 4) (bits f 0 4))
    (fill (shape 79) (pos 66 ∷ []) (λ a _ b _ c _ d _ rd _. ((pos (other (nat_abs rd)), other_passes plain (nat_abs rd) refl refl), λ rt _. ((pos (other (nat_abs rd)), other_passes not_pc (nat_abs rd) refl refl), λ rn _ x _. tt))))

pub tt_reads : Reads target 85 (shape 80)
tt_reads = read_alone target 85 (shape 80) (λ f s. at_1 (bool_word s 7) ∙ at_2 (bool_word s 6)) (λ f s. two _ _) refl

pub ldrex_reads : Reads ldrex 65 (shape 81)
ldrex_reads = read_alone ldrex 65 (shape 81) (λ f s. refl) (λ f s. two _ _) refl

pub strexb_reads : Reads strexb 66 (shape 82)
strexb_reads =
    read_all strexb 66 (shape 82) (λ f s. refl) (λ f s. store_exclusive (bits s 0 4) (bits s 12 4) (bits f 0 4))
    (fill (shape 82) (pos 66 ∷ []) (λ a _ b _ c _ d _ rd _. ((pos (other (nat_abs rd)), other_passes plain (nat_abs rd) refl refl), λ rt _. ((pos (other (nat_abs rd)), other_passes not_pc (nat_abs rd) refl refl), λ rn _ x _. tt))))

pub strexh_reads : Reads strexh 66 (shape 83)
strexh_reads =
    read_all strexh 66 (shape 83) (λ f s. refl) (λ f s. store_exclusive (bits s 0 4) (bits s 12 4) (bits f 0 4))
    (fill (shape 83) (pos 66 ∷ []) (λ a _ b _ c _ d _ rd _. ((pos (other (nat_abs rd)), other_passes plain (nat_abs rd) refl refl), λ rt _. ((pos (other (nat_abs rd)), other_passes not_pc (nat_abs rd) refl refl), λ rn _ x _. tt))))

pub stlb_reads : Reads stlb 68 (shape 84)
stlb_reads = read_alone stlb 68 (shape 84) (λ f s. refl) (λ f s. two _ _) refl

pub stlh_reads : Reads stlh 68 (shape 85)
stlh_reads = read_alone stlh 68 (shape 85) (λ f s. refl) (λ f s. two _ _) refl

pub stl_reads : Reads stl 68 (shape 86)
stl_reads = read_alone stl 68 (shape 86) (λ f s. refl) (λ f s. two _ _) refl

pub stlexb_reads : Reads stlexb 66 (shape 87)
stlexb_reads =
    read_all stlexb 66 (shape 87) (λ f s. refl) (λ f s. store_exclusive (bits s 0 4) (bits s 12 4) (bits f 0 4))
    (fill (shape 87) (pos 66 ∷ []) (λ a _ b _ c _ d _ rd _. ((pos (other (nat_abs rd)), other_passes plain (nat_abs rd) refl refl), λ rt _. ((pos (other (nat_abs rd)), other_passes not_pc (nat_abs rd) refl refl), λ rn _ x _. tt))))

pub stlexh_reads : Reads stlexh 66 (shape 88)
stlexh_reads =
    read_all stlexh 66 (shape 88) (λ f s. refl) (λ f s. store_exclusive (bits s 0 4) (bits s 12 4) (bits f 0 4))
    (fill (shape 88) (pos 66 ∷ []) (λ a _ b _ c _ d _ rd _. ((pos (other (nat_abs rd)), other_passes plain (nat_abs rd) refl refl), λ rt _. ((pos (other (nat_abs rd)), other_passes not_pc (nat_abs rd) refl refl), λ rn _ x _. tt))))

pub stlex_reads : Reads stlex 66 (shape 89)
stlex_reads =
    read_all stlex 66 (shape 89) (λ f s. refl) (λ f s. store_exclusive (bits s 0 4) (bits s 12 4) (bits f 0 4))
    (fill (shape 89) (pos 66 ∷ []) (λ a _ b _ c _ d _ rd _. ((pos (other (nat_abs rd)), other_passes plain (nat_abs rd) refl refl), λ rt _. ((pos (other (nat_abs rd)), other_passes not_pc (nat_abs rd) refl refl), λ rn _ x _. tt))))

pub ldrexb_reads : Reads ldrexb 65 (shape 90)
ldrexb_reads = read_alone ldrexb 65 (shape 90) (λ f s. refl) (λ f s. two _ _) refl

pub ldrexh_reads : Reads ldrexh 65 (shape 91)
ldrexh_reads = read_alone ldrexh 65 (shape 91) (λ f s. refl) (λ f s. two _ _) refl

pub ldab_reads : Reads ldab 67 (shape 92)
ldab_reads = read_alone ldab 67 (shape 92) (λ f s. refl) (λ f s. two _ _) refl

pub ldah_reads : Reads ldah 67 (shape 93)
ldah_reads = read_alone ldah 67 (shape 93) (λ f s. refl) (λ f s. two _ _) refl

pub lda_reads : Reads lda 67 (shape 94)
lda_reads = read_alone lda 67 (shape 94) (λ f s. refl) (λ f s. two _ _) refl

pub ldaexb_reads : Reads ldaexb 65 (shape 95)
ldaexb_reads = read_alone ldaexb 65 (shape 95) (λ f s. refl) (λ f s. two _ _) refl

pub ldaexh_reads : Reads ldaexh 65 (shape 96)
ldaexh_reads = read_alone ldaexh 65 (shape 96) (λ f s. refl) (λ f s. two _ _) refl

pub ldaex_reads : Reads ldaex 65 (shape 97)
ldaex_reads = read_alone ldaex 65 (shape 97) (λ f s. refl) (λ f s. two _ _) refl

pub tbb_reads : Reads tbb 73 (shape 98)
tbb_reads = read_alone tbb 73 (shape 98) (λ f s. at_1 (bool_word s 4)) (λ f s. two _ _) refl
