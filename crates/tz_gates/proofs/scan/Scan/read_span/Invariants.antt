use Rattle.std.proofs.Common.{◌≡◌, ◌≤◌, ◌%◌, ◌-◌}
use Rattle.tz_gates.specs.Scanned.{Scanned}
use Rattle.tz_gates.proofs.scan.Scan.read_span.Given as goal

abbrev pub invariant-span : goal.invariant-span
invariant-span l = record {
  scanned : Scanned l.machine l.block l.self.gates.items l.self.half;
  whole : l.block % 32 ≡ 0;
  within : l.block ≤ l.end;
}

abbrev pub decreases-span : goal.decreases-span
decreases-span l = l.end - l.block
