use Rattle.std.proofs.Common.{arith}
use Rattle.std.proofs.lemmas.Grind.{common_steps}
use Rattle.tz_text.proofs.disassembly.rest.Rest.fill.Goals as goal

-- The first call that the prover tries finds nothing at these goals, after long: the one that does is named.
pub reading-preserved-in-Some : goal.reading-preserved-in-Some
reading-preserved-in-Some c = grind (arith, common_steps)

pub enter-requires-clause-here : goal.enter-requires-clause-here
enter-requires-clause-here c = grind (arith, common_steps)
