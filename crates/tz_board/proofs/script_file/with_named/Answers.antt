use Rattle.std.proofs.Common.{arith, rules, tests}
use Rattle.std.proofs.lemmas.Grind.{common_steps, elements}
use Rattle.tz_board.specs.Scripts.{with_event}
use Rattle.tz_board.proofs.script_file.with_named.Goals as goal

-- What the tactics try, by name: a body that is refused is then told without a search for what to offer.
pub returns-then-step-last_step-clause-ok : goal.returns-then-step-last_step-clause-ok
unfolding with_event
returns-then-step-last_step-clause-ok c = first_of (assumption, search (tests, rules), grind (arith, common_steps), grind (arith, elements))

pub returns-then-step-last_step-clause-err : goal.returns-then-step-last_step-clause-err
unfolding with_event
returns-then-step-last_step-clause-err c = first_of (assumption, search (tests, rules), grind (arith, common_steps), grind (arith, elements))
