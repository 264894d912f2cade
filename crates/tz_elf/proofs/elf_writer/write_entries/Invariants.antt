use Rattle.std.proofs.Common.{◌≡◌, ◌+◌, ◌*◌, ◌≤◌, ◌++◌, drop, length}
use Rattle.tz_elf.specs.ElfImage.{entries_bytes}
use Rattle.tz_elf.proofs.Counting.{lengths}
use Rattle.tz_elf.proofs.elf_writer.write_entries.Given as goal

abbrev pub invariant-loop-segment : goal.invariant-loop-segment
invariant-loop-segment l = record {
  file : l.file.items ++ entries_bytes l.offset (drop l.segment-index l.segments) ≡ l.fn.file.items ++ entries_bytes (52 + 32 * length l.segments) l.segments;
  room : l.offset + lengths (drop l.segment-index l.segments) ≤ 52 + 32 * length l.segments + 4194304;
}
