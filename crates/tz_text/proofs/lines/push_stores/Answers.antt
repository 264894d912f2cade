use Rattle.std.proofs.Common.{arith}
use Rattle.std.proofs.lemmas.Grind.{common_steps}
use Rattle.tz_text.specs.Line.{stores_text}
use Rattle.tz_text.proofs.lines.push_stores.Goals as goal

-- The first call that the prover tries finds nothing at these goals, after long: the one that does is named.
pub loop-store-preserved : goal.loop-store-preserved
unfolding stores_text
loop-store-preserved c = grind (arith, common_steps)

pub returns-clause-bytes : goal.returns-clause-bytes
unfolding stores_text
returns-clause-bytes c = grind (arith, common_steps)
