use Rattle.tz_access.proofs.Blocks.{own_by_blocks}
use Rattle.tz_access.proofs.bus.Bus.know_own.Goals as goal

pub returns : goal.returns
returns c = own_by_blocks _ c.args.side c.know_regions.ensures
