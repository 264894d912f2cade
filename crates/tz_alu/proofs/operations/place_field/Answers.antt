use Rattle.std.proofs.Common.{arith}
use Rattle.tz_alu.proofs.Places.{places}
use Rattle.tz_alu.proofs.operations.place_field.Goals as goal

-- The first call that the prover tries finds nothing here, after long: the one that does is named.
pub returns : goal.returns
returns c = grind (arith, places)
