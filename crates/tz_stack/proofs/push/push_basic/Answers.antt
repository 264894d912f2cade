use Rattle.std.proofs.Common.{arith}
use Rattle.std.proofs.lemmas.Grind.{common_steps}
use Rattle.tz_frames.specs.Stack.{pushed_basic}
use Rattle.tz_stack.proofs.push.push_basic.Goals as goal

-- The calls that close each, by name: a body that is refused is then told without a search for what to offer.
pub returns-then-base-limit-clause-pushed : goal.returns-then-base-limit-clause-pushed
unfolding pushed_basic
returns-then-base-limit-clause-pushed g c = first_of (assumption, grind (arith, common_steps))

pub returns-in-Ok-clause-pushed : goal.returns-in-Ok-clause-pushed
unfolding pushed_basic
returns-in-Ok-clause-pushed g c = first_of (assumption, grind (arith, common_steps))

pub returns-in-Err-clause-pushed : goal.returns-in-Err-clause-pushed
unfolding pushed_basic
returns-in-Err-clause-pushed g c = first_of (assumption, grind (arith, common_steps))
