use Rattle.std.proofs.Common.{arith}
use Rattle.std.proofs.lemmas.Grind.{common_steps}
use Rattle.tz_elf.proofs.elf.add_load.Goals as goal

-- The first call that the prover tries finds nothing here, after long: the one that does is named.
pub returns-in-Ok-push-clause-paired : goal.returns-in-Ok-push-clause-paired
returns-in-Ok-push-clause-paired c = grind (arith, common_steps)

pub returns-in-Ok-push-clause-grows : goal.returns-in-Ok-push-clause-grows
returns-in-Ok-push-clause-grows c = grind (arith, common_steps)

pub push-requires-2-clause-some : goal.push-requires-2-clause-some
push-requires-2-clause-some c = grind (arith, common_steps)
