use Rattle.std.proofs.Common.{◌≡◌, ◌<◌, ◌^◌, drop}
use Rattle.tz_words.specs.Ranges.{hex_behind}
use Rattle.tz_words.proofs.ranges.hex_number.Given as goal

-- the digits that are left complete the number
abbrev pub invariant-loop-digit : goal.invariant-loop-digit
invariant-loop-digit l = record {
  rest : hex_behind l.number (drop l.digit-index l.digits) ≡ hex_behind 0 l.digits;
  small : l.number < 16 ^ l.digit-index;
}
