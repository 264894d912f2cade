use Rattle.std.proofs.Common.{arith}
use Rattle.tz_decode.proofs.MultipleLaws.{multiples}
use Rattle.tz_decode.proofs.multiples.multiples.Goals as goal

-- The call that closes each goal, by name: what is tried before it finds nothing, after long.
pub returns-in-1 : goal.returns-in-1
returns-in-1 c = grind (arith, multiples)

pub returns-in-2 : goal.returns-in-2
returns-in-2 c = grind (arith, multiples)

pub returns-in_default : goal.returns-in_default
returns-in_default c = grind (arith, multiples)

pub returns-then-field-eq1 : goal.returns-then-field-eq1
returns-then-field-eq1 c = grind (arith, multiples)

pub returns-else-field-eq1 : goal.returns-else-field-eq1
returns-else-field-eq1 c = grind (arith, multiples)

pub returns-then-field-eq0-3 : goal.returns-then-field-eq0-3
returns-then-field-eq0-3 c = grind (arith, multiples)

pub returns-else-field-eq0-3 : goal.returns-else-field-eq0-3
returns-else-field-eq0-3 c = grind (arith, multiples)

pub returns-then-field-eq0-4 : goal.returns-then-field-eq0-4
returns-then-field-eq0-4 c = grind (arith, multiples)

pub returns-else-field-eq0-4 : goal.returns-else-field-eq0-4
returns-else-field-eq0-4 c = grind (arith, multiples)
