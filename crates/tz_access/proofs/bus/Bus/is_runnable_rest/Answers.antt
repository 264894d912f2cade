use Rattle.std.proofs.Common.{arith}
use Rattle.std.proofs.lemmas.Grind.{common_steps}
use Rattle.tz_state.specs.Fetch.{is_runnable, lets_run}
use Rattle.tz_access.specs.Checks.{IsByBlocks}
use Rattle.tz_access.proofs.Blocks.{runs_by_blocks}
use Rattle.tz_access.proofs.bus.Bus.is_runnable_rest.Goals as goal

pub returns-then-is_one_block : goal.returns-then-is_one_block
unfolding is_runnable
returns-then-is_one_block c =
    let f = c.args.fetcher.now in
    let blocks : IsByBlocks (lets_run c.args.self.now.state f.side f.privileged f.negative) = runs_by_blocks c.args.self.now.state f.side f.privileged f.negative in
    grind (arith, common_steps)
