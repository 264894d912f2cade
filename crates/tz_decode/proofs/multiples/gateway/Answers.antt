use Rattle.std.proofs.Common.{arith}
use Rattle.tz_decode.proofs.MultipleLaws.{gateway}
use Rattle.tz_decode.proofs.multiples.gateway.Goals as goal

-- The call that closes each goal, by name: what is tried before it finds nothing, after long.
pub returns-then-long_field-ne59775 : goal.returns-then-long_field-ne59775
returns-then-long_field-ne59775 c = grind (arith, gateway)

pub returns-then-long_field-ne59775-2 : goal.returns-then-long_field-ne59775-2
returns-then-long_field-ne59775-2 c = grind (arith, gateway)

pub returns-else-long_field-ne59775-2 : goal.returns-else-long_field-ne59775-2
returns-else-long_field-ne59775-2 c = grind (arith, gateway)
