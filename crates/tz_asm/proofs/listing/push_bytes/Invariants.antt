use Rattle.std.proofs.Common.{◌≡◌, ◌+◌, ◌*◌, ◌++◌, take}
use Rattle.std.specs.Prelude.{flat_map}
use Rattle.arrayvec.specs.ArrayString.{array_string_len}
use Rattle.tz_syntax.specs.Digits.{hex_byte}
use Rattle.tz_asm.proofs.listing.push_bytes.Given as goal

abbrev pub invariant-loop-byte : goal.invariant-loop-byte
invariant-loop-byte l = record {
  bytes : l.text.bytes ≡ l.fn.text.bytes ++ flat_map hex_byte (take l.byte-index l.bytes);
  len : array_string_len l.text ≡ array_string_len l.fn.text + 2 * l.byte-index;
}
