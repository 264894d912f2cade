use Rattle.std.proofs.Common.{sym}
use Rattle.tz_mem.proofs.Places.{every_none}
use Rattle.tz_mem.proofs.numbers.write_by_bytes.Goals as goal
use Rattle.std.proofs.Common.{arith, rules, tests}
use Rattle.std.proofs.lemmas.Grind.{common_steps, elements}

pub returns-then-not-all_mapped-clause-refused : goal.returns-then-not-all_mapped-clause-refused
returns-then-not-all_mapped-clause-refused c = every_none _ _ _ (sym c.if-not-all_mapped.ensures)

-- What the tactics try, by name: a body that is refused is then told without a search for what to offer.
pub returns-then-not-all_mapped-clause-written : goal.returns-then-not-all_mapped-clause-written
returns-then-not-all_mapped-clause-written c = first_of (assumption, search (tests, rules), grind (arith, common_steps), grind (arith, elements))

pub returns-then-not-all_mapped-clause-takes : goal.returns-then-not-all_mapped-clause-takes
returns-then-not-all_mapped-clause-takes c = first_of (assumption, search (tests, rules), grind (arith, common_steps), grind (arith, elements))

pub returns-then-not-all_mapped-clause-cause : goal.returns-then-not-all_mapped-clause-cause
returns-then-not-all_mapped-clause-cause c = first_of (assumption, search (tests, rules), grind (arith, common_steps), grind (arith, elements))

pub returns-then-not-all_mapped-clause-kept : goal.returns-then-not-all_mapped-clause-kept
returns-then-not-all_mapped-clause-kept c = first_of (assumption, search (tests, rules), grind (arith, common_steps), grind (arith, elements))

pub returns-then-not-all_writable-clause-takes : goal.returns-then-not-all_writable-clause-takes
returns-then-not-all_writable-clause-takes c = first_of (assumption, search (tests, rules), grind (arith, common_steps), grind (arith, elements))

pub returns-then-not-all_writable-clause-cause : goal.returns-then-not-all_writable-clause-cause
returns-then-not-all_writable-clause-cause c = first_of (assumption, search (tests, rules), grind (arith, common_steps), grind (arith, elements))

pub returns-then-not-all_writable-clause-kept : goal.returns-then-not-all_writable-clause-kept
returns-then-not-all_writable-clause-kept c = first_of (assumption, search (tests, rules), grind (arith, common_steps), grind (arith, elements))
