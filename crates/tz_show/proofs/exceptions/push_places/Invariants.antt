use Rattle.std.proofs.Common.{◌≡◌, ◌≤◌, ◌+◌, ◌*◌, ◌++◌}
use Rattle.arrayvec.specs.ArrayString.{array_string_len}
use Rattle.tz_show.specs.Exceptions.{exception_text}
use Rattle.tz_show.specs.Rows.{texts_below}
use Rattle.tz_show.proofs.exceptions.push_places.Given as goal

abbrev pub invariant-loop-index : goal.invariant-loop-index
invariant-loop-index l = record {
  bytes : l.text.bytes ≡ l.fn.text.bytes ++ texts_below (exception_text l.exceptions) l.index;
  len : array_string_len l.text ≤ array_string_len l.fn.text + 122 * l.index;
}
