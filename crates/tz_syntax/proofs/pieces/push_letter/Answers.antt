use Rattle.std.proofs.Common.{arith}
use Rattle.std.proofs.lemmas.Grind.{common_steps}
use Rattle.tz_syntax.proofs.pieces.push_letter.Goals as goal

-- The first call that the prover tries finds nothing at these goals, after long: the one that does is named.
pub returns-then-mask-bit-eq0-clause-bytes : goal.returns-then-mask-bit-eq0-clause-bytes
returns-then-mask-bit-eq0-clause-bytes g c = grind (arith, common_steps)

pub returns-then-mask-bit-eq0-clause-len : goal.returns-then-mask-bit-eq0-clause-len
returns-then-mask-bit-eq0-clause-len g c = grind (arith, common_steps)

pub returns-then-mask-bit-clause-bytes : goal.returns-then-mask-bit-clause-bytes
returns-then-mask-bit-clause-bytes g c = grind (arith, common_steps)

pub returns-then-mask-bit-clause-len : goal.returns-then-mask-bit-clause-len
returns-then-mask-bit-clause-len g c = grind (arith, common_steps)

pub returns-else-mask-bit-clause-bytes : goal.returns-else-mask-bit-clause-bytes
returns-else-mask-bit-clause-bytes g c = grind (arith, common_steps)

pub returns-else-mask-bit-clause-len : goal.returns-else-mask-bit-clause-len
returns-else-mask-bit-clause-len g c = grind (arith, common_steps)
