use Rattle.tz_bits.proofs.Masks.{extended_high}
use Rattle.tz_bits.proofs.fields.sign_extend.Goals as goal
use Rattle.std.proofs.Common.{arith, rules, tests}
use Rattle.std.proofs.lemmas.Grind.{common_steps, elements}
use Rattle.tz_bits.proofs.Masks.{extensions}

pub returns-else-low-bits : goal.returns-else-low-bits
returns-else-low-bits c = extended_high c.args.value c.args.bits c.bit_field-low.result c.requires.0 c.requires.1 c.bit_field-low.ensures c.if-low-bits.false

-- What the tactics try, by name: a body that is refused is then told without a search for what to offer.
pub returns-then-low-bits : goal.returns-then-low-bits
returns-then-low-bits c = first_of (assumption, search (tests, rules), grind (arith, extensions), grind (arith, common_steps), grind (arith, elements))
