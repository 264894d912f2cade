use Rattle.std.proofs.Common.{◌≡◌, ◌++◌, drop}
use Rattle.tz_elf.specs.ElfImage.{all_bytes, elf_bytes}
use Rattle.tz_elf.proofs.elf_writer.write_image.Given as goal

abbrev pub invariant-loop-segment : goal.invariant-loop-segment
invariant-loop-segment l = l.file.items ++ all_bytes (drop l.segment-index l.segments) ≡ elf_bytes l.segments
