use Rattle.std.proofs.Common.{arith}
use Rattle.tz_excret.proofs.Tries.{tries_laws}
use Rattle.tz_excret.proofs.choices.+make_choices.Goals as goal

-- The first calls that the prover tries find nothing here, after long: the one that does is named.
pub returns-in-Again-clause-does : goal.returns-in-Again-clause-does
returns-in-Again-clause-does g c = grind (arith, tries_laws)

pub returns-in-Taken-clause-does : goal.returns-in-Taken-clause-does
returns-in-Taken-clause-does g c = grind (arith, tries_laws)

pub returns-in-Lockup-clause-does : goal.returns-in-Lockup-clause-does
returns-in-Lockup-clause-does g c = grind (arith, tries_laws)
