use Rattle.std.proofs.Common.{◌≡◌, ◌≤◌, ◌+◌, ◌*◌, drop}
use Rattle.tz_asm.specs.Bits.{mask_from}
use Rattle.tz_asm.proofs.code.bits.mask_of.Given as goal

abbrev pub invariant-loop-letter : goal.invariant-loop-letter
invariant-loop-letter l = record {
  mask : l.mask + mask_from l.condition l.weight (drop l.letter-index l.letters) ≡ mask_from l.condition 8 l.letters;
  below : l.mask + 2 * l.weight ≤ 16;
}
