use Rattle.std.proofs.Common.{arith}
use Rattle.std.proofs.lemmas.Grind.{common_steps}
use Rattle.tz_text.specs.Line.{changes_text}
use Rattle.tz_text.proofs.lines.push_changes.Goals as goal

-- The first call that the prover tries finds nothing at these goals, after long: the one that does is named.
pub loop-change-preserved : goal.loop-change-preserved
unfolding changes_text
loop-change-preserved c = grind (arith, common_steps)

pub returns-clause-bytes : goal.returns-clause-bytes
unfolding changes_text
returns-clause-bytes c = grind (arith, common_steps)
