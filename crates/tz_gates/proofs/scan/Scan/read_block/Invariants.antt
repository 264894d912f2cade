use Rattle.std.proofs.Common.{◌+◌, ◌*◌}
use Rattle.tz_gates.specs.Scanned.{Scanned}
use Rattle.tz_gates.proofs.scan.Scan.read_block.Given as goal

abbrev pub invariant-loop-index : goal.invariant-loop-index
invariant-loop-index l = Scanned l.machine (l.block + 2 * l.index) l.self.gates.items l.self.half
