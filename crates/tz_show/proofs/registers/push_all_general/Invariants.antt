use Rattle.std.proofs.Common.{◌≡◌, ◌≤◌, ◌+◌, ◌*◌, ◌++◌}
use Rattle.arrayvec.specs.ArrayString.{array_string_len}
use Rattle.tz_show.specs.Registers.{general_text}
use Rattle.tz_show.specs.Rows.{texts_below}
use Rattle.tz_show.proofs.registers.push_all_general.Given as goal

abbrev pub invariant-loop-k : goal.invariant-loop-k
invariant-loop-k l = record {
  bytes : l.text.bytes ≡ l.fn.text.bytes ++ texts_below (general_text l.general) l.k;
  len : array_string_len l.text ≤ array_string_len l.fn.text + 25 * l.k;
}
