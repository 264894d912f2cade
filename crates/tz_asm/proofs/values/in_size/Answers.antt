use Rattle.std.proofs.Common.{arith, rules, tests}
use Rattle.std.proofs.lemmas.Grind.{common_steps, elements}
use Rattle.tz_asm.specs.Values.{in_size}
use Rattle.tz_asm.proofs.values.in_size.Goals as goal

-- What the tactics try, by name: a body that is refused is then told without a search for what to offer.
pub returns-then-value-modulus : goal.returns-then-value-modulus
unfolding in_size
returns-then-value-modulus c = first_of (assumption, search (tests, rules), grind (arith, common_steps), grind (arith, elements))

pub returns-else-value-modulus : goal.returns-else-value-modulus
unfolding in_size
returns-else-value-modulus c = first_of (assumption, search (tests, rules), grind (arith, common_steps), grind (arith, elements))

pub returns-then-value-modulus-2 : goal.returns-then-value-modulus-2
unfolding in_size
returns-then-value-modulus-2 c = first_of (assumption, search (tests, rules), grind (arith, common_steps), grind (arith, elements))

pub returns-else-value-modulus-2 : goal.returns-else-value-modulus-2
unfolding in_size
returns-else-value-modulus-2 c = first_of (assumption, search (tests, rules), grind (arith, common_steps), grind (arith, elements))
