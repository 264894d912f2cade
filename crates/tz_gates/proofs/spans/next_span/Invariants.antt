use Rattle.std.proofs.Common.{take}
use Rattle.tz_gates.specs.Scanned.{IsNextOf}
use Rattle.tz_gates.proofs.spans.next_span.Given as goal

abbrev pub invariant-loop-region : goal.invariant-loop-region
invariant-loop-region l = IsNextOf (take l.region-index l.regions) l.from l.next
