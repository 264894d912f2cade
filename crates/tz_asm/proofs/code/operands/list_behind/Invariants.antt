use Rattle.std.proofs.Common.{◌≡◌, ◌<◌, ◌≤◌, ◌^◌, ◌-◌, Some, drop, length}
use Rattle.std.specs.Prelude.{IfSome}
use Rattle.tz_asm.specs.Front.{views}
use Rattle.tz_asm.specs.CodedOperands.{list_behind}
use Rattle.tz_asm.proofs.code.operands.list_behind.Given as goal

abbrev pub invariant-loop-register : goal.invariant-loop-register
invariant-loop-register l = record {
  read : list_behind l.list (views (drop l.place l.tokens)) ≡ list_behind (Some 0) (views l.tokens);
  below : IfSome l.list (λ list. list < 2 ^ 16);
  within : l.place ≤ length l.tokens;
}

abbrev pub decreases-loop-register : goal.decreases-loop-register
decreases-loop-register l = length l.tokens - l.place
