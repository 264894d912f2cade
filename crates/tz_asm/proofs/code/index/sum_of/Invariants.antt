use Rattle.std.proofs.Common.{◌≡◌, ◌<◌, ◌+◌, ◌%◌, drop}
use Rattle.tz_asm.specs.Index.{letter_sum}
use Rattle.tz_asm.proofs.code.index.sum_of.Given as goal

abbrev pub invariant-loop-byte : goal.invariant-loop-byte
invariant-loop-byte l = record {
  sum : (l.sum + letter_sum (drop l.byte-index l.word)) % 64 ≡ letter_sum l.word % 64;
  below : l.sum < 64;
}
