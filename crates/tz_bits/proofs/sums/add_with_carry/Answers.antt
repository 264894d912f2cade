use Rattle.std.proofs.Common.{arith, rules, tests}
use Rattle.std.proofs.lemmas.Grind.{common_steps, elements}
use Rattle.tz_bits.proofs.sums.add_with_carry.Goals as goal

-- What the tactics try, by name: a body that is refused is then told without a search for what to offer.
pub returns-clause-sum : goal.returns-clause-sum
returns-clause-sum c = first_of (assumption, search (tests, rules), grind (arith, common_steps), grind (arith, elements))

pub returns-clause-carry : goal.returns-clause-carry
returns-clause-carry c = first_of (assumption, search (tests, rules), grind (arith, common_steps), grind (arith, elements))

pub returns-clause-overflow : goal.returns-clause-overflow
returns-clause-overflow c = first_of (assumption, search (tests, rules), grind (arith, common_steps), grind (arith, elements))
