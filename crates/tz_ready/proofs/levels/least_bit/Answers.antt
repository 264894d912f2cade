use Rattle.std.proofs.Common.{arith}
use Rattle.std.proofs.lemmas.Grind.{common_steps, widths}
use Rattle.tz_ready.proofs.Bits.{no_bit, is_least}
use Rattle.tz_ready.proofs.levels.least_bit.Goals as goal

pub returns-then-rest-eq0 : goal.returns-then-rest-eq0
returns-then-rest-eq0 c = no_bit c.args.word c.args.from c.requires c.if-rest-eq0.true

pub returns-else-rest-eq0 : goal.returns-else-rest-eq0
returns-else-rest-eq0 c = is_least c.args.word c.args.from c.requires (omega arith) (grind (arith, common_steps, widths))
