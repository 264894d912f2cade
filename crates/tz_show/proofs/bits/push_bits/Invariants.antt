use Rattle.std.proofs.Common.{◌≡◌, ◌≤◌, ◌+◌, ◌++◌, drop, map}
use Rattle.arrayvec.specs.ArrayString.{array_string_len}
use Rattle.tz_show.specs.Bits.{bit_view, names_most}
use Rattle.tz_show.specs.Rows.{bits_text}
use Rattle.tz_show.proofs.bits.push_bits.Given as goal

abbrev pub invariant-loop-bit : goal.invariant-loop-bit
invariant-loop-bit l = record {
  bytes : l.text.bytes ++ bits_text l.value (map bit_view (drop l.bit-index l.bits)) ≡ l.fn.text.bytes ++ bits_text l.value (map bit_view l.bits);
  len : array_string_len l.text + names_most (map bit_view (drop l.bit-index l.bits)) ≤ array_string_len l.fn.text + names_most (map bit_view l.bits);
}
