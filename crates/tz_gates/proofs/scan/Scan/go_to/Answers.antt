use Rattle.std.proofs.Common.{arith}
use Rattle.tz_gates.proofs.Scanning.{scanned_gap}
use Rattle.tz_gates.proofs.scan.Scan.go_to.Goals as goal

pub returns-then-first-from : goal.returns-then-first-from
returns-then-first-from c =
    scanned_gap c.args.machine.now c.args.from c.args.first c.args.self.now.gates.items c.args.self.now.half c.requires.from_even c.requires.first_even c.if-first-from.true (omega arith)
    c.requires.gap c.requires.scanned
