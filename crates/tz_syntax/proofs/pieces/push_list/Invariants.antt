use Rattle.std.proofs.Common.{◌≡◌, ◌≤◌, ◌+◌, ◌-◌, ◌*◌, ◌++◌}
use Rattle.arrayvec.specs.ArrayString.{array_string_len}
use Rattle.tz_syntax.specs.Pieces.{listed_from}
use Rattle.tz_syntax.proofs.pieces.push_list.Given as goal

abbrev pub invariant-loop-register : goal.invariant-loop-register
invariant-loop-register g l = record {
  bytes : l.line.bytes ++ listed_from l.list l.register (16 - l.register) ≡ l.initial.line.bytes ++ listed_from l.list 0 16;
  len : array_string_len l.line ≤ array_string_len l.initial.line + 5 * l.register;
}
