use Rattle.std.proofs.Common.{arith, rules, tests}
use Rattle.std.proofs.lemmas.Grind.{common_steps, elements}
use Rattle.tz_asm.specs.Layouts.{go_to}
use Rattle.tz_asm.proofs.layout.Layout.go_to.Goals as goal

-- What the tactics try, by name: a body that is refused is then told without a search for what to offer.
pub returns-in_default-clause-ok : goal.returns-in_default-clause-ok
unfolding go_to
returns-in_default-clause-ok c = first_of (assumption, search (tests, rules), grind (arith, common_steps), grind (arith, elements))

pub returns-in_default-clause-within : goal.returns-in_default-clause-within
unfolding go_to
returns-in_default-clause-within c = first_of (assumption, search (tests, rules), grind (arith, common_steps), grind (arith, elements))

pub returns-in_default-clause-err : goal.returns-in_default-clause-err
unfolding go_to
returns-in_default-clause-err c = first_of (assumption, search (tests, rules), grind (arith, common_steps), grind (arith, elements))

pub returns-then-place-self-clause-ok : goal.returns-then-place-self-clause-ok
unfolding go_to
returns-then-place-self-clause-ok c = first_of (assumption, search (tests, rules), grind (arith, common_steps), grind (arith, elements))

pub returns-then-place-self-clause-within : goal.returns-then-place-self-clause-within
unfolding go_to
returns-then-place-self-clause-within c = first_of (assumption, search (tests, rules), grind (arith, common_steps), grind (arith, elements))

pub returns-then-place-self-clause-err : goal.returns-then-place-self-clause-err
unfolding go_to
returns-then-place-self-clause-err c = first_of (assumption, search (tests, rules), grind (arith, common_steps), grind (arith, elements))

pub returns-then-place-self-2-clause-ok : goal.returns-then-place-self-2-clause-ok
unfolding go_to
returns-then-place-self-2-clause-ok c = first_of (assumption, search (tests, rules), grind (arith, common_steps), grind (arith, elements))

pub returns-then-place-self-2-clause-within : goal.returns-then-place-self-2-clause-within
unfolding go_to
returns-then-place-self-2-clause-within c = first_of (assumption, search (tests, rules), grind (arith, common_steps), grind (arith, elements))

pub returns-then-place-self-2-clause-err : goal.returns-then-place-self-2-clause-err
unfolding go_to
returns-then-place-self-2-clause-err c = first_of (assumption, search (tests, rules), grind (arith, common_steps), grind (arith, elements))
