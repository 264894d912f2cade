use Rattle.std.proofs.Common.{arith}
use Rattle.std.proofs.lemmas.Grind.{common_steps}
use Rattle.tz_syntax.proofs.spelling.spells.Goals as goal

-- The first call that the prover tries finds nothing here, after long: the one that does is named.
pub returns-then-is_empty : goal.returns-then-is_empty
returns-then-is_empty c = grind (arith, common_steps)
