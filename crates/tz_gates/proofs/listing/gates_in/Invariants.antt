use Rattle.std.proofs.Common.{◌≡◌, ◌≤◌, ◌%◌, ◌-◌}
use Rattle.tz_gates.specs.Scanned.{Scanned}
use Rattle.tz_gates.proofs.listing.gates_in.Given as goal

abbrev pub invariant-spans : goal.invariant-spans
invariant-spans l = record {
  scanned : Scanned l.machine l.from l.scan.gates.items l.scan.half;
  block : l.from % 32 ≡ 0;
  low : l.from ≤ 0xE0000000;
}

abbrev pub decreases-spans : goal.decreases-spans
decreases-spans l = 0xE0000000 - l.from
