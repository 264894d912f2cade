use Rattle.std.proofs.Common.{arith}
use Rattle.std.proofs.lemmas.Grind.{common_steps}
use Rattle.tz_state.specs.Fetch.{is_runnable, lets_run}
use Rattle.tz_access.specs.Checks.{IsByBlocks}
use Rattle.tz_access.proofs.Blocks.{runs_by_blocks, second_in_block}
use Rattle.tz_access.proofs.bus.Bus.is_second_runnable.Goals as goal

pub returns-then-is_one_block : goal.returns-then-is_one_block
unfolding is_runnable
returns-then-is_one_block c =
    let blocks : IsByBlocks (lets_run c.args.self.now.state c.args.side c.args.privileged c.args.negative) = runs_by_blocks c.args.self.now.state c.args.side c.args.privileged c.args.negative in
    grind (arith, second_in_block)

pub returns-else-is_one_block : goal.returns-else-is_one_block
unfolding is_runnable
returns-else-is_one_block c = grind (arith, common_steps)
