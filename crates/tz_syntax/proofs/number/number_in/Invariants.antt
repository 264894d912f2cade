use Rattle.std.proofs.Common.{◌≡◌, ◌<◌, drop}
use Rattle.tz_syntax.specs.Tokens.{digits_from, in_32_bits}
use Rattle.tz_syntax.proofs.number.number_in.Given as goal

abbrev pub invariant-loop-byte : goal.invariant-loop-byte
invariant-loop-byte l = record {
  read : in_32_bits (digits_from l.base 0 l.digits) ≡ in_32_bits (digits_from l.base l.number (drop l.byte-index l.digits));
  small : l.number < 4294967296;
}
