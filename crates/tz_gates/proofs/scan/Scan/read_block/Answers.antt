use Rattle.std.proofs.Common.{◌+◌, ◌*◌, ◌∙◌, arith}
use Rattle.tz_gates.proofs.Scanning.{entry_in_block}
use Rattle.tz_gates.proofs.scan.Scan.read_block.Goals as goal

pub read_half-requires-clause-entry : goal.read_half-requires-clause-entry
read_half-requires-clause-entry c =
    entry_in_block c.args.machine.now c.args.block (c.args.block + 2 * c.loop-index.index) c.know_regions.ensures c.requires.whole (omega arith) (omega arith) ∙ c.requires.entry
