use Rattle.std.proofs.Common.{◌≡◌, take}
use Rattle.tz_testing.proofs.port_double.TablePort.new.Given as goal

abbrev pub invariant-loop-entry : goal.invariant-loop-entry
invariant-loop-entry l = l.entries.items ≡ take l.entry-index l.table
