use Rattle.std.proofs.Common.{◌≡◌, ◌≤◌, ◌+◌, ◌*◌, ◌++◌}
use Rattle.arrayvec.specs.ArrayString.{array_string_len}
use Rattle.tz_show.specs.Dump.{byte_text}
use Rattle.tz_show.specs.Rows.{texts_below}
use Rattle.tz_show.proofs.memory.push_bytes.Given as goal

abbrev pub invariant-loop-k : goal.invariant-loop-k
invariant-loop-k l = record {
  bytes : l.text.bytes ≡ l.fn.text.bytes ++ texts_below (byte_text l.bus.state l.range l.from) l.k;
  len : array_string_len l.text ≤ array_string_len l.fn.text + 4 * l.k;
}
