use Rattle.std.proofs.Common.{arith, rules, tests}
use Rattle.std.proofs.lemmas.Grind.{common_steps, elements}
use Rattle.tz_bits.proofs.names.field_name.Goals as goal

-- What the tactics try, by name: a body that is refused is then told without a search for what to offer.
pub returns-in-DataImm : goal.returns-in-DataImm
returns-in-DataImm c = first_of (assumption, search (tests, rules), grind (arith, common_steps), grind (arith, elements))

pub returns-in-DataReg : goal.returns-in-DataReg
returns-in-DataReg c = first_of (assumption, search (tests, rules), grind (arith, common_steps), grind (arith, elements))

pub returns-in-ShiftReg : goal.returns-in-ShiftReg
returns-in-ShiftReg c = first_of (assumption, search (tests, rules), grind (arith, common_steps), grind (arith, elements))

pub returns-in-AddWide : goal.returns-in-AddWide
returns-in-AddWide c = first_of (assumption, search (tests, rules), grind (arith, common_steps), grind (arith, elements))

pub returns-in-Adr : goal.returns-in-Adr
returns-in-Adr c = first_of (assumption, search (tests, rules), grind (arith, common_steps), grind (arith, elements))

pub returns-in-MovWide : goal.returns-in-MovWide
returns-in-MovWide c = first_of (assumption, search (tests, rules), grind (arith, common_steps), grind (arith, elements))

pub returns-in-Saturate : goal.returns-in-Saturate
returns-in-Saturate c = first_of (assumption, search (tests, rules), grind (arith, common_steps), grind (arith, elements))

pub returns-in_default : goal.returns-in_default
returns-in_default c = first_of (assumption, search (tests, rules), grind (arith, common_steps), grind (arith, elements))
