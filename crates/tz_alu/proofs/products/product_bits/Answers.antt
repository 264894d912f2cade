use Rattle.std.proofs.Common.{arith}
use Rattle.std.proofs.lemmas.Grind.{common_steps, elements}
use Rattle.tz_alu.proofs.products.product_bits.Goals as goal

-- The first call that the prover tries finds nothing here, after long: those that do are named.
pub returns-in-Smull : goal.returns-in-Smull
returns-in-Smull c = first_of (grind (arith, common_steps), grind (arith, elements))

pub returns-in-Umull : goal.returns-in-Umull
returns-in-Umull c = first_of (grind (arith, common_steps), grind (arith, elements))

pub returns-in-Smlal : goal.returns-in-Smlal
returns-in-Smlal c = first_of (grind (arith, common_steps), grind (arith, elements))

pub returns-in-Umlal : goal.returns-in-Umlal
returns-in-Umlal c = first_of (grind (arith, common_steps), grind (arith, elements))
