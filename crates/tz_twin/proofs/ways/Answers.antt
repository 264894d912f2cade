use Rattle.tz_twin.proofs.WaysOut.{tells_way}
use Rattle.tz_twin.proofs.ways.Goals as goal

pub returns : goal.returns
returns c = λ s events. tells_way s events
