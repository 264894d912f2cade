use Rattle.tz_asm.proofs.Untested.{has_pairs}
use Rattle.tz_asm.proofs.reread.image_has_its_pairs.Goals as goal

pub returns : goal.returns
returns c = has_pairs
