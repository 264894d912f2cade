use Rattle.std.proofs.Common.{arith}
use Rattle.std.proofs.lemmas.Grind.{common_steps}
use Rattle.tz_syntax.proofs.pieces.push_listed.Goals as goal

-- The first call that the prover tries finds nothing here, after long: the one that does is named.
pub returns-after-list-register-ne0-clause-bytes : goal.returns-after-list-register-ne0-clause-bytes
returns-after-list-register-ne0-clause-bytes g c = grind (arith, common_steps)

pub returns-after-list-register-ne0-clause-len : goal.returns-after-list-register-ne0-clause-len
returns-after-list-register-ne0-clause-len g c = grind (arith, common_steps)
