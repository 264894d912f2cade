use Rattle.std.proofs.Common.{◌≡◌, ◌*◌, ◌-◌, ◌^◌}
use Rattle.tz_asm.specs.Bits.{least_from}
use Rattle.tz_asm.proofs.code.bits.turned.Given as goal

abbrev pub invariant-loop-turn : goal.invariant-loop-turn
invariant-loop-turn l = record {
  bits : least_from l.constant (128 * l.turn) (128 * (32 - l.turn)) ≡ least_from l.constant 1024 3072;
  scale : l.scale ≡ 2 ^ (32 - l.turn);
}
