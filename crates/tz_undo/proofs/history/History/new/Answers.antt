-- No note stands at the start.
use Rattle.std.proofs.Common.{[]}
use Rattle.tz_undo.specs.History.{befores}
use Rattle.tz_undo.proofs.history.History.new.Goals as goal

pub returns-in-Ok-clause-made : goal.returns-in-Ok-clause-made
unfolding befores
returns-in-Ok-clause-made c = λ i. record { now = c.args.machine; kept = c.in-Ok.ensures i; before = [] }
