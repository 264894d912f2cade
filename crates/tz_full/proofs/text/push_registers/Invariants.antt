use Rattle.std.proofs.Common.{◌≡◌, ◌≤◌, ◌+◌, ◌*◌, ◌++◌, drop}
use Rattle.arrayvec.specs.ArrayString.{array_string_len}
use Rattle.tz_full.specs.Words.{registers_text}
use Rattle.tz_full.proofs.text.push_registers.Given as goal

abbrev pub invariant-loop-value : goal.invariant-loop-value
invariant-loop-value l = record {
  number : l.number ≡ l.first + l.value-index;
  bytes : l.text.bytes ++ registers_text l.number (drop l.value-index l.values) ≡ l.fn.text.bytes ++ registers_text l.first l.values;
  len : array_string_len l.text ≤ array_string_len l.fn.text + 13 * l.value-index;
}
