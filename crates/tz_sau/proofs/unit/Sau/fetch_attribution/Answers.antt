use Rattle.std.proofs.Common.{arith, rules, tests}
use Rattle.std.proofs.lemmas.Grind.{common_steps, elements}
use Rattle.tz_state.specs.Attribution.{fetch_attribution}
use Rattle.tz_sau.proofs.unit.Sau.fetch_attribution.Goals as goal

-- What the tactics try, by name: a body that is refused is then told without a search for what to offer.
pub returns-then-addr-ge-SECURE_CODE_FIRST : goal.returns-then-addr-ge-SECURE_CODE_FIRST
unfolding fetch_attribution
returns-then-addr-ge-SECURE_CODE_FIRST c = first_of (assumption, search (tests, rules), grind (arith, common_steps), grind (arith, elements))

pub returns-then-addr-ge-PRIVATE_FIRST : goal.returns-then-addr-ge-PRIVATE_FIRST
unfolding fetch_attribution
returns-then-addr-ge-PRIVATE_FIRST c = first_of (assumption, search (tests, rules), grind (arith, common_steps), grind (arith, elements))

pub returns-else-addr-ge-PRIVATE_FIRST : goal.returns-else-addr-ge-PRIVATE_FIRST
unfolding fetch_attribution
returns-else-addr-ge-PRIVATE_FIRST c = first_of (assumption, search (tests, rules), grind (arith, common_steps), grind (arith, elements))
