use Rattle.std.proofs.Common.{◌∙◌, sym}
use Rattle.tz_asm.specs.Places.{places_in}
use Rattle.tz_asm.proofs.Labels.{defined-new, places_in-put}
use Rattle.tz_asm.proofs.places.define.Goals as goal
use Rattle.std.proofs.Common.{arith, rules, tests}
use Rattle.std.proofs.lemmas.Grind.{common_steps, elements}
use Rattle.tz_asm.specs.Places.{defined}

pub returns-in-Ok-None-clause-ok : goal.returns-in-Ok-None-clause-ok
returns-in-Ok-None-clause-ok c =
    rw c.in-Some.is
    (defined-new c.args.line c.in-Some.name.now c.args.value (places_in c.args.places.now) (places_in c.insert.new.self) (sym c.in-Ok-None.field-0-is ∙ c.in-Ok-None.ensures.old)
    (places_in-put c.args.places.now c.insert.new.self c.in-Some.name c.args.value c.in-Ok-None.ensures.updates))

-- What the tactics try, by name: a body that is refused is then told without a search for what to offer.
pub returns-in_default-clause-ok : goal.returns-in_default-clause-ok
unfolding defined
returns-in_default-clause-ok c = first_of (assumption, search (tests, rules), grind (arith, common_steps), grind (arith, elements))

pub returns-in_default-clause-err : goal.returns-in_default-clause-err
unfolding defined
returns-in_default-clause-err c = first_of (assumption, search (tests, rules), grind (arith, common_steps), grind (arith, elements))

pub returns-in-Ok-None-clause-err : goal.returns-in-Ok-None-clause-err
unfolding defined
returns-in-Ok-None-clause-err c = first_of (assumption, search (tests, rules), grind (arith, common_steps), grind (arith, elements))

pub returns-in-Ok-Some-clause-ok : goal.returns-in-Ok-Some-clause-ok
unfolding defined
returns-in-Ok-Some-clause-ok c = first_of (assumption, search (tests, rules), grind (arith, common_steps), grind (arith, elements))

pub returns-in-Ok-Some-clause-err : goal.returns-in-Ok-Some-clause-err
unfolding defined
returns-in-Ok-Some-clause-err c = first_of (assumption, search (tests, rules), grind (arith, common_steps), grind (arith, elements))

pub returns-in-Err-clause-ok : goal.returns-in-Err-clause-ok
unfolding defined
returns-in-Err-clause-ok c = first_of (assumption, search (tests, rules), grind (arith, common_steps), grind (arith, elements))

pub returns-in-Err-clause-err : goal.returns-in-Err-clause-err
unfolding defined
returns-in-Err-clause-err c = first_of (assumption, search (tests, rules), grind (arith, common_steps), grind (arith, elements))
