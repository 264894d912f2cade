use Rattle.std.proofs.Common.{arith}
use Rattle.std.proofs.lemmas.Grind.{common_steps}
use Rattle.tz_encode.proofs.writing.+placed.Goals as goal

-- The first call that the prover tries finds nothing at these goals, after long: the one that does is named.
pub digit_in_place-requires : goal.digit_in_place-requires
digit_in_place-requires t c = grind (arith, common_steps)

pub placed-requires : goal.placed-requires
placed-requires t c = grind (arith, common_steps)

pub returns-in-len1-up : goal.returns-in-len1-up
returns-in-len1-up t c = grind (arith, common_steps)
