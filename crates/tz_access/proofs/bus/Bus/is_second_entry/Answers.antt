use Rattle.std.proofs.Common.{arith}
use Rattle.std.proofs.lemmas.Grind.{common_steps}
use Rattle.tz_state.specs.Fetch.{is_entry}
use Rattle.tz_state.specs.State.{map_in}
use Rattle.tz_access.specs.Checks.{IsByBlocks}
use Rattle.tz_access.proofs.Blocks.{entry_by_blocks}
use Rattle.tz_access.proofs.bus.Bus.is_second_entry.Goals as goal

pub returns-then-is_one_block : goal.returns-then-is_one_block
returns-then-is_one_block c =
    let blocks : IsByBlocks (is_entry (map_in c.args.self.now.state)) = entry_by_blocks _ c.know_regions.ensures in
    grind (arith, common_steps)

pub returns-else-is_one_block : goal.returns-else-is_one_block
returns-else-is_one_block c = grind (arith, common_steps)
