use Rattle.std.proofs.Common.{arith}
use Rattle.std.proofs.lemmas.Grind.{common_steps}
use Rattle.tz_encode.proofs.writing.+are_holding.Goals as goal

-- The first call that the prover tries finds nothing at these goals, after long: the one that does is named.
pub digit-requires : goal.digit-requires
digit-requires t c = grind (arith, common_steps)

pub are_holding-requires : goal.are_holding-requires
are_holding-requires t c = grind (arith, common_steps)

pub returns-then-held-rest : goal.returns-then-held-rest
returns-then-held-rest t c = grind (arith, common_steps)

pub returns-else-held-rest : goal.returns-else-held-rest
returns-else-held-rest t c = grind (arith, common_steps)
