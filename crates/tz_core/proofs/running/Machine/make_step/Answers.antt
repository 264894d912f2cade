use Rattle.std.proofs.Common.{arith, rules, tests}
use Rattle.std.proofs.lemmas.Grind.{common_steps}
use Rattle.tz_sem.specs.Step.{ended}
use Rattle.tz_core.proofs.running.Machine.make_step.Goals as goal

-- The call that closes it, by name: a body that is refused is then told without a search for what to offer.
pub returns-clause-does : goal.returns-clause-does
unfolding ended
returns-clause-does c = first_of (assumption, search (tests, rules))

-- The first call that the prover tries finds nothing here, after long: the one that does is named.
pub returns-then-self-clause-does : goal.returns-then-self-clause-does
unfolding ended
returns-then-self-clause-does c = grind (arith, common_steps)

pub returns-then-takes_first_uncounted-clause-does : goal.returns-then-takes_first_uncounted-clause-does
unfolding ended
returns-then-takes_first_uncounted-clause-does c = grind (arith, common_steps)
