use Rattle.std.proofs.Common.{◌∙◌, ap, arith, length, List, ℕ, Result, Ok}
use Rattle.std.proofs.lemmas.Bool.{leb-true}
use Rattle.tz_model.specs.Board.{most_bytes}
use Rattle.tz_model.specs.Image.{ImageValue, SegmentValue}
use Rattle.tz_elf.specs.ElfImage.{elf_bytes}
use Rattle.tz_elf.specs.Images.{Refusal, pairs_in, pairs_of}
use Rattle.tz_elf.proofs.ReadBackElf.{pairs_of-elf_bytes}
use Rattle.tz_elf.proofs.Written.{written-all, written-more}
use Rattle.tz_elf.proofs.WrittenElf.{all_bytes-item, all_bytes-none}
use Rattle.tz_elf.proofs.elf_writer.write_image.Goals as goal

abbrev segments_in : ImageValue → List SegmentValue
segments_in image = image.segments

abbrev bytes_of : SegmentValue → List ℕ
bytes_of s = s.bytes

abbrev pairs_found : List SegmentValue → Result (List (ℕ × ℕ)) Refusal
pairs_found segments = Ok (pairs_in segments)

pub loop-segment-preserved : goal.loop-segment-preserved
loop-segment-preserved c =
    let bytes = c.as_slice-bytes.ensures.value ∙ ap bytes_of c.segment.view_is in
    written-more _ c.loop-segment.file.items c.extend_from_slice.new.self.items _ _ _ c.loop-segment.invariant c.in_ok-extend_from_slice.ensures.items
    (all_bytes-item c.as_slice-segments.result.now c.loop-segment.segment-index c.segment-item.result _ c.loop-segment-test.true c.segment-item.is bytes)

pub returns-clause-bytes : goal.returns-clause-bytes
returns-clause-bytes c =
    let segments = c.as_slice-segments.result.now in
    written-all _ c.loop-segment.file.items _ c.loop-segment.invariant (all_bytes-none segments c.loop-segment.segment-index c.loop-segment-test.false)
    ∙ ap elf_bytes (c.as_slice-segments.ensures.value ∙ ap segments_in c.image.view_is)

pub returns-clause-reads_back : goal.returns-clause-reads_back
returns-clause-reads_back c =
    let segments = c.image.inside.segments.items in
    let slice = c.as_slice-segments.result.now in
    let few = c.requires in
    let same = ap segments_in c.image.view_is in
    let count = ap length same in
    let small = leb-true _ most_bytes c.image.invariant.small in
    let file = written-all _ c.loop-segment.file.items _ c.loop-segment.invariant (all_bytes-none slice c.loop-segment.segment-index c.loop-segment-test.false) ∙ ap elf_bytes c.as_slice-segments.ensures.value in
    ap pairs_of file ∙ pairs_of-elf_bytes segments (omega (arith, few, count)) small c.image.invariant.addressed ∙ ap pairs_found same
