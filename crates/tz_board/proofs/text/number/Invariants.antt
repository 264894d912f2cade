use Rattle.std.proofs.Common.{◌≡◌, ◌<◌, ◌^◌, drop}
use Rattle.tz_board.specs.Scripts.{digits_from}
use Rattle.tz_board.proofs.text.number.Given as goal

abbrev pub invariant-loop-b : goal.invariant-loop-b
invariant-loop-b l = record {
  read : digits_from 0 l.part ≡ digits_from l.number (drop l.b-index l.part);
  small : l.number < 10 ^ l.b-index;
}
