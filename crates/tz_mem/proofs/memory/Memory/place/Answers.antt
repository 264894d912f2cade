use Rattle.std.proofs.Common.{arith}
use Rattle.std.proofs.lemmas.Grind.{common_steps}
use Rattle.tz_mem.proofs.memory.Memory.place.Goals as goal

-- The call that closes each goal, by name: what is tried before it finds nothing, after long.
pub returns-then-not-put_byte : goal.returns-then-not-put_byte
returns-then-not-put_byte c = grind (arith, common_steps)

pub returns : goal.returns
returns c = grind (arith, common_steps)
