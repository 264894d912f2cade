use Rattle.tz_access.proofs.Blocks.{takes_by_blocks}
use Rattle.tz_access.proofs.bus.Bus.is_accessible.Goals as goal

pub returns-in-Read-clause-blocks : goal.returns-in-Read-clause-blocks
returns-in-Read-clause-blocks c = takes_by_blocks c.args.self.now.state.board.regions c.args.kind c.know_regions.ensures

pub returns-in-Write-clause-blocks : goal.returns-in-Write-clause-blocks
returns-in-Write-clause-blocks c = takes_by_blocks c.args.self.now.state.board.regions c.args.kind c.know_regions.ensures

pub returns-in-Fetch-clause-blocks : goal.returns-in-Fetch-clause-blocks
returns-in-Fetch-clause-blocks c = takes_by_blocks c.args.self.now.state.board.regions c.args.kind c.know_regions.ensures
