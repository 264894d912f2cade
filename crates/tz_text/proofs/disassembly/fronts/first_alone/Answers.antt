use Rattle.std.proofs.Common.{arith, rules, tests}
use Rattle.std.proofs.lemmas.Grind.{common_steps, elements}
use Rattle.tz_text.proofs.disassembly.fronts.first_alone.Goals as goal

-- What the tactics try, by name: a body that is refused is then told without a search for what to offer.
pub returns-in-Byte : goal.returns-in-Byte
returns-in-Byte c = first_of (assumption, search (tests, rules), grind (arith, common_steps), grind (arith, elements))

pub returns-in-Half : goal.returns-in-Half
returns-in-Half c = first_of (assumption, search (tests, rules), grind (arith, common_steps), grind (arith, elements))

pub returns-in-Whole : goal.returns-in-Whole
returns-in-Whole c = first_of (assumption, search (tests, rules), grind (arith, common_steps), grind (arith, elements))
