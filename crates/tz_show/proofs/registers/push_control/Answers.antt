use Rattle.tz_show.specs.Registers.{control_row}
use Rattle.tz_show.proofs.registers.push_control.Goals as goal

pub returns-clause-bytes : goal.returns-clause-bytes
unfolding control_row
returns-clause-bytes c = rw c.control.ensures at c.push_row.ensures.bytes
