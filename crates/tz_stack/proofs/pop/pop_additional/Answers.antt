use Rattle.std.proofs.Common.{arith}
use Rattle.std.proofs.lemmas.Grind.{common_steps}
use Rattle.tz_stack.proofs.pop.pop_additional.Goals as goal

-- The calls that close each, by name: a body that is refused is then told without a search for what to offer.
pub returns-in_err-signature-clause-read : goal.returns-in_err-signature-clause-read
returns-in_err-signature-clause-read g c = first_of (assumption, grind (arith, common_steps))

pub returns-then-signature-clause-read : goal.returns-then-signature-clause-read
returns-then-signature-clause-read g c = first_of (assumption, grind (arith, common_steps))

pub returns-clause-read : goal.returns-clause-read
returns-clause-read g c = first_of (assumption, grind (arith, common_steps))
