use Rattle.std.proofs.Common.{arith}
use Rattle.std.proofs.lemmas.Grind.{common_steps}
use Rattle.tz_syntax.specs.Digits.{hex_byte}
use Rattle.tz_syntax.proofs.digits.push_hex_byte.Goals as goal

-- The first call that the prover tries finds nothing at these goals, after long: the one that does is named.
pub push-requires : goal.push-requires
unfolding hex_byte
push-requires g c = grind (arith, common_steps)

pub push-requires-2 : goal.push-requires-2
unfolding hex_byte
push-requires-2 g c = grind (arith, common_steps)

pub returns-clause-bytes : goal.returns-clause-bytes
unfolding hex_byte
returns-clause-bytes g c = grind (arith, common_steps)

pub returns-clause-len : goal.returns-clause-len
unfolding hex_byte
returns-clause-len g c = grind (arith, common_steps)
