-- No slot is from 272 on.
use Rattle.std.proofs.Common.{arith}
use Rattle.tz_tests.proofs.tests.ready.copy_of.Goals as goal

pub copy_from-requires-clause-none_here : goal.copy_from-requires-clause-none_here
copy_from-requires-clause-none_here c = λ i past within. absurd (omega arith)

pub copy_from-requires-clause-none_there : goal.copy_from-requires-clause-none_there
copy_from-requires-clause-none_there c = λ i past within. absurd (omega arith)
