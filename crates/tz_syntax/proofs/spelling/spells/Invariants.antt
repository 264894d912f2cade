use Rattle.std.proofs.Common.{◌≡◌, length}
use Rattle.tz_syntax.specs.Spelling.{spells}
use Rattle.tz_syntax.proofs.spelling.spells.Given as goal

abbrev pub invariant-loop-byte : goal.invariant-loop-byte
invariant-loop-byte l = spells l.bytes l.letters ≡ spells l.word l.name

abbrev pub decreases-loop-byte : goal.decreases-loop-byte
decreases-loop-byte l = length l.bytes
