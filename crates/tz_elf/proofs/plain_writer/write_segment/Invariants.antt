use Rattle.std.proofs.Common.{length, ◌-◌, ◌≡◌, ◌+◌, ◌/◌, ◌≤◌, ◌++◌, drop}
use Rattle.tz_elf.specs.PlainImage.{lines_text, segment_text}
use Rattle.tz_elf.proofs.plain_writer.write_segment.Given as goal

abbrev pub invariant-loop-at : goal.invariant-loop-at
invariant-loop-at l = record {
  within : l.at ≤ length l.bytes;
  text : l.text.items ++ lines_text ((length l.bytes - l.at + 63) / 64) (l.base + l.at) (drop l.at l.bytes) ≡ l.fn.text.items ++ segment_text l.segment;
}

abbrev pub decreases-loop-at : goal.decreases-loop-at
decreases-loop-at l = length l.bytes - l.at
