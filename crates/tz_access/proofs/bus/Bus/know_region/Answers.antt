use Rattle.tz_access.proofs.OpenBytes.{region_whole}
use Rattle.tz_access.proofs.bus.Bus.know_region.Goals as goal

pub returns : goal.returns
returns c = region_whole c.args.self.now.state.board.regions c.args.index c.know_regions.ensures c.requires
