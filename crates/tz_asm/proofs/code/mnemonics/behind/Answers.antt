use Rattle.std.proofs.Common.{arith, rules, tests}
use Rattle.std.proofs.lemmas.Grind.{common_steps, elements}
use Rattle.tz_asm.proofs.code.mnemonics.behind.Goals as goal

-- What the tactics try, by name: a body that is refused is then told without a search for what to offer.
pub returns-in-empty : goal.returns-in-empty
returns-in-empty c = first_of (assumption, search (tests, rules), grind (arith, common_steps), grind (arith, elements))

pub returns-then-to_ascii_lowercase-letter : goal.returns-then-to_ascii_lowercase-letter
returns-then-to_ascii_lowercase-letter c = first_of (assumption, search (tests, rules), grind (arith, common_steps), grind (arith, elements))

pub loop-letters-preserved : goal.loop-letters-preserved
loop-letters-preserved c = first_of (assumption, search (tests, rules), grind (arith, common_steps), grind (arith, elements))

pub returns : goal.returns
returns c = first_of (assumption, search (tests, rules), grind (arith, common_steps), grind (arith, elements))
