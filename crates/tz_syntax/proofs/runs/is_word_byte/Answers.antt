use Rattle.std.proofs.Common.{arith, rules, tests}
use Rattle.std.proofs.lemmas.Grind.{common_steps, elements}
use Rattle.tz_syntax.proofs.runs.is_word_byte.Goals as goal

-- What the tactics try, by name: a body that is refused is then told without a search for what to offer.
pub returns-then-byte-eq95 : goal.returns-then-byte-eq95
returns-then-byte-eq95 c = first_of (assumption, search (tests, rules), grind (arith, common_steps), grind (arith, elements))

pub returns-else-byte-eq95 : goal.returns-else-byte-eq95
returns-else-byte-eq95 c = first_of (assumption, search (tests, rules), grind (arith, common_steps), grind (arith, elements))
