use Rattle.std.proofs.Common.{◌∙◌, ap, List, ℕ, Result, Ok}
use Rattle.std.proofs.lemmas.List.{take_all}
use Rattle.tz_elf.specs.Images.{Refusal, pairs_in, pairs_of}
use Rattle.tz_elf.proofs.ReadBack.{pairs_of-plain_text}
use Rattle.tz_model.specs.Image.{ImageValue, SegmentValue}
use Rattle.tz_elf.specs.PlainImage.{plain_text}
use Rattle.tz_elf.proofs.Written.{HoldBytes, HoldBytes-more, addressed-item, plain_text-item, plain_text-none, written-all, written-more}
use Rattle.tz_elf.proofs.plain_writer.write_plain.Goals as goal

pub write_segment-requires : goal.write_segment-requires
write_segment-requires c =
    addressed-item c.as_slice-segments.result.now c.loop-segment.segment-index c.segment-item.result (rw c.as_slice-segments.ensures.value c.image.invariant.addressed)
    c.loop-segment-test.true c.segment-item.is

pub loop-segment-preserved : goal.loop-segment-preserved
loop-segment-preserved c = record {
  text = written-more _ c.loop-segment.text.items c.write_segment.new.text.items _ _ _ c.loop-segment.invariant.text c.in_ok-write_segment.ensures.text
      (plain_text-item c.as_slice-segments.result.now c.loop-segment.segment-index c.segment-item.result c.loop-segment-test.true c.segment-item.is);
  bytes = HoldBytes-more c.as_slice-segments.result.now c.loop-segment.segment-index c.segment-item.result c.loop-segment-test.true c.segment-item.is
      c.loop-segment.invariant.bytes c.in_ok-write_segment.ensures.bytes;
}

abbrev segments_in : ImageValue → List SegmentValue
segments_in image = image.segments

abbrev pairs_found : List SegmentValue → Result (List (ℕ × ℕ)) Refusal
pairs_found segments = Ok (pairs_in segments)

pub returns : goal.returns
returns c =
    let segments = c.as_slice-segments.result.now in
    let text = written-all _ c.loop-segment.text.items _ c.loop-segment.invariant.text (plain_text-none segments c.loop-segment.segment-index c.loop-segment-test.false) in
    let same = c.as_slice-segments.ensures.value ∙ ap segments_in c.image.view_is in
    let bytes : HoldBytes segments = rw (take_all c.loop-segment.segment-index segments c.loop-segment-test.false) at c.loop-segment.invariant.bytes in
    let read = pairs_of-plain_text segments (rw c.as_slice-segments.ensures.value c.image.invariant.addressed) bytes in
    record {
      text = text ∙ ap plain_text same;
      reads_back = ap pairs_of text ∙ read ∙ ap pairs_found same;
    }
