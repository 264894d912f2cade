use Rattle.tz_gates.proofs.Scanning.{scanned_block}
use Rattle.tz_gates.proofs.scan.Scan.pass_block.Goals as goal

pub returns : goal.returns
returns c =
    scanned_block c.args.machine.now c.args.block c.args.self.now.gates.items c.args.self.now.half c.know_regions.ensures c.requires.whole c.requires.low c.requires.entry c.requires.scanned
