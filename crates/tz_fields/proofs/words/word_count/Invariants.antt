use Rattle.std.proofs.Common.{◌≡◌, take}
use Rattle.tz_fields.specs.StateWords.{memory_count}
use Rattle.tz_fields.proofs.words.word_count.Given as goal

abbrev pub invariant-loop-region : goal.invariant-loop-region
invariant-loop-region l = l.memory ≡ memory_count (take l.region-index l.region-items)
