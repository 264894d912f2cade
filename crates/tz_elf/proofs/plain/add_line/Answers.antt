use Rattle.std.proofs.Common.{arith}
use Rattle.std.proofs.lemmas.Grind.{common_steps}
use Rattle.tz_elf.proofs.Accepted.{segment_of-bytes}
use Rattle.tz_elf.proofs.plain.add_line.Goals as goal

pub push-requires-clause-some : goal.push-requires-clause-some
push-requires-clause-some c = segment_of-bytes c.args.line.now c.in-Ok-Some.segment (rw c.in-Ok-Some.field-0-is at c.in-Ok-Some.ensures)

-- The first call that the prover tries finds nothing here, after long: the one that does is named.
pub returns-in-Ok-clause-grows : goal.returns-in-Ok-clause-grows
returns-in-Ok-clause-grows c = grind (arith, common_steps)
