use Rattle.std.proofs.Common.{◌≤◌, arith}
use Rattle.tz_elf.proofs.Regions.{in_some-within}
use Rattle.tz_elf.proofs.placement.end_at.Goals as goal
use Rattle.std.proofs.Common.{rules, tests}
use Rattle.std.proofs.lemmas.Grind.{common_steps, elements}

pub returns-then-address-end-clause-within : goal.returns-then-address-end-clause-within
returns-then-address-end-clause-within c =
    λ a low high.
    let above : c.from-base.result ≤ a = omega arith in
    in_some-within c.args.regions.now c.loop-region.region-index a c.from-base.result c.from.result _ c.loop-region-test.true c.from-base.ensures c.from.ensures above high

-- What the tactics try, by name: a body that is refused is then told without a search for what to offer.
pub returns-then-address-end-clause-none : goal.returns-then-address-end-clause-none
returns-then-address-end-clause-none c = first_of (assumption, search (tests, rules), grind (arith, common_steps), grind (arith, elements))

pub returns-then-address-end-clause-past : goal.returns-then-address-end-clause-past
returns-then-address-end-clause-past c = first_of (assumption, search (tests, rules), grind (arith, common_steps), grind (arith, elements))

pub loop-region-preserved : goal.loop-region-preserved
loop-region-preserved c = first_of (assumption, search (tests, rules), grind (arith, common_steps), grind (arith, elements))

pub returns-clause-none : goal.returns-clause-none
returns-clause-none c = first_of (assumption, search (tests, rules), grind (arith, common_steps), grind (arith, elements))

pub returns-clause-past : goal.returns-clause-past
returns-clause-past c = first_of (assumption, search (tests, rules), grind (arith, common_steps), grind (arith, elements))

pub returns-clause-within : goal.returns-clause-within
returns-clause-within c = first_of (assumption, search (tests, rules), grind (arith, common_steps), grind (arith, elements))
