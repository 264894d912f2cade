use Rattle.std.proofs.Common.{arith}
use Rattle.std.proofs.lemmas.Grind.{common_steps, elements}
use Rattle.tz_alu.proofs.products.signed_product.Goals as goal

-- The first call that the prover tries finds nothing here, after long: those that do are named.
pub returns : goal.returns
returns c = first_of (grind (arith, common_steps), grind (arith, elements))
