use Rattle.std.proofs.lemmas.Grind.{common_steps}
use Rattle.std.proofs.Common.{◌∙◌, ℕ, arith, ap, length, refl}
use Rattle.tz_model.specs.Image.{SegmentValue}
use Rattle.tz_elf.proofs.Counting.{lengths-bytes_in}
use Rattle.tz_elf.proofs.Written.{written-all, written-more}
use Rattle.tz_elf.proofs.WrittenElf.{entries_bytes-item, entries_bytes-none, lengths-item}
use Rattle.tz_elf.proofs.elf_writer.write_entries.Goals as goal

abbrev base_of : SegmentValue → ℕ
base_of s = s.base

abbrev size_of : SegmentValue → ℕ
size_of s = length s.bytes

pub loop-segment-init : goal.loop-segment-init
loop-segment-init c =
    let size = lengths-bytes_in c.args.segments.now in
    let small = c.requires.small in
    record { file = refl; room = omega (arith, size, small) }

pub loop-segment-preserved : goal.loop-segment-preserved
loop-segment-preserved c =
    let size = ap length c.as_slice-bytes.ensures.value ∙ ap size_of c.segment.view_is in
    let left = lengths-item c.args.segments.now c.loop-segment.segment-index c.segment-item.result c.loop-segment-test.true c.segment-item.is in
    let room = c.loop-segment.invariant.room in
    record {
      file = written-more _ c.loop-segment.file.items c.write_entry.new.file.items _ _ _ c.loop-segment.invariant.file c.in_ok-write_entry.ensures
          (entries_bytes-item c.args.segments.now c.loop-segment.segment-index c.loop-segment.offset c.segment.inside.base (length c.as_slice-bytes.result.now) c.segment-item.result
          c.loop-segment-test.true c.segment-item.is (ap base_of c.segment.view_is) size);
      room = omega (arith, size, left, room);
    }

pub returns : goal.returns
returns c =
    written-all _ c.loop-segment.file.items _ c.loop-segment.invariant.file (entries_bytes-none c.args.segments.now c.loop-segment.segment-index c.loop-segment.offset c.loop-segment-test.false)

-- The first call that the prover tries finds nothing here, after long: the one that does is named.
pub overflow_add-offset-in-loop-segment : goal.overflow_add-offset-in-loop-segment
overflow_add-offset-in-loop-segment c = grind (arith, common_steps)

pub overflow_cast-size : goal.overflow_cast-size
overflow_cast-size c = grind (arith, common_steps)
