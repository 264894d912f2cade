use Rattle.std.proofs.Common.{◌≡◌, ◌++◌, drop, take}
use Rattle.tz_elf.specs.PlainImage.{plain_text}
use Rattle.tz_elf.proofs.Written.{HoldBytes}
use Rattle.tz_elf.proofs.plain_writer.write_plain.Given as goal

abbrev pub invariant-loop-segment : goal.invariant-loop-segment
invariant-loop-segment l = record {
  text : l.text.items ++ plain_text (drop l.segment-index l.segments) ≡ plain_text l.segments;
  bytes : HoldBytes (take l.segment-index l.segments);
}
