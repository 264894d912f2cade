use Rattle.std.proofs.Common.{arith}
use Rattle.std.proofs.lemmas.Grind.{elements}
use Rattle.tz_encode.proofs.shapes.get.Goals as goal

-- The first call that the prover tries finds nothing here, after long: the one that does is named.
pub returns : goal.returns
returns c = grind (arith, elements)
