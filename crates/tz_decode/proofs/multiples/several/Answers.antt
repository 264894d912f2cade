use Rattle.std.proofs.Common.{arith}
use Rattle.tz_decode.proofs.MultipleLaws.{several, several_sp, several_pc}
use Rattle.tz_decode.proofs.multiples.several.Goals as goal

-- The call that closes each goal, by name: what is tried before it finds nothing, after long.
pub returns-then-field-ne0 : goal.returns-then-field-ne0
returns-then-field-ne0 c = let law = several_sp c.args.down c.args.first c.args.second c.requires in grind (arith, law)

pub returns-then-field-eq1 : goal.returns-then-field-eq1
returns-then-field-eq1 c = grind (arith, several)

pub returns-then-field-ne0-2 : goal.returns-then-field-ne0-2
returns-then-field-ne0-2 c = let law = several_pc c.args.down c.args.first c.args.second c.requires in grind (arith, law)

pub returns-else-field-ne0-2 : goal.returns-else-field-ne0-2
returns-else-field-ne0-2 c = grind (arith, several)
