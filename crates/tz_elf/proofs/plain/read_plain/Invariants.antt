use Rattle.std.proofs.Common.{◌≡◌, ◌+◌, ◌≤◌, length}
use Rattle.tz_elf.specs.Placement.{placed_in}
use Rattle.tz_elf.specs.Taken.{Keeps}
use Rattle.tz_syntax.specs.Lines.{lines_of}
use Rattle.tz_elf.specs.PlainImage.{plain_segments, segments_from}
use Rattle.tz_elf.proofs.plain.read_plain.Given as goal

abbrev pub invariant-loop-rest : goal.invariant-loop-rest
invariant-loop-rest l = record {
  segments : plain_segments (placed_in l.regions l.usable) l.file ≡ segments_from (placed_in l.regions l.usable) l.number l.placed.segments.items (lines_of l.rest);
  kept : Keeps l.placed;
  number : l.number + length l.rest ≤ length l.file + 1;
  count : length l.placed.segments.items + length l.rest ≤ length l.file;
}

abbrev pub decreases-loop-rest : goal.decreases-loop-rest
decreases-loop-rest l = length l.rest
