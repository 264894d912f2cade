use Rattle.std.proofs.Common.{arith}
use Rattle.std.proofs.lemmas.Grind.{common_steps}
use Rattle.tz_syntax.specs.Digits.{hex_word}
use Rattle.tz_syntax.proofs.digits.push_hex_word.Goals as goal

-- The first call that the prover tries finds nothing here, after long: the one that does is named.
pub returns-clause-bytes : goal.returns-clause-bytes
unfolding hex_word
returns-clause-bytes g c = grind (arith, common_steps)
