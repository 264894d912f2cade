use Rattle.std.proofs.Common.{arith, rules, tests}
use Rattle.std.proofs.lemmas.Grind.{common_steps, elements}
use Rattle.tz_state.specs.Fetch.{own_fetch}
use Rattle.tz_state.specs.Fetch.{half_verdict}
use Rattle.tz_access.proofs.bus.Bus.own_fetch.Goals as goal

-- What the tactics try, by name: a body that is refused is then told without a search for what to offer.
pub returns-then-not-is_runnable_rest : goal.returns-then-not-is_runnable_rest
unfolding own_fetch half_verdict
returns-then-not-is_runnable_rest c = first_of (assumption, search (tests, rules), grind (arith, common_steps), grind (arith, elements))

pub returns-in-Err : goal.returns-in-Err
unfolding own_fetch half_verdict
returns-in-Err c = first_of (assumption, search (tests, rules), grind (arith, common_steps), grind (arith, elements))

pub returns-then-first-lt59392 : goal.returns-then-first-lt59392
unfolding own_fetch half_verdict
returns-then-first-lt59392 c = first_of (assumption, search (tests, rules), grind (arith, common_steps), grind (arith, elements))

pub returns-then-not-is_second_own : goal.returns-then-not-is_second_own
unfolding own_fetch half_verdict
returns-then-not-is_second_own c = first_of (assumption, search (tests, rules), grind (arith, common_steps), grind (arith, elements))

pub returns-then-not-is_second_runnable : goal.returns-then-not-is_second_runnable
unfolding own_fetch half_verdict
returns-then-not-is_second_runnable c = first_of (assumption, search (tests, rules), grind (arith, common_steps), grind (arith, elements))

pub returns-in-None : goal.returns-in-None
unfolding own_fetch half_verdict
returns-in-None c = first_of (assumption, search (tests, rules), grind (arith, common_steps), grind (arith, elements))

pub returns-in-Some : goal.returns-in-Some
unfolding own_fetch half_verdict
returns-in-Some c = first_of (assumption, search (tests, rules), grind (arith, common_steps), grind (arith, elements))
