use Rattle.std.proofs.Common.{◌≡◌, drop}
use Rattle.tz_testing.specs.TablePorts.{last_at}
use Rattle.tz_testing.proofs.port_double.last_at.Given as goal

abbrev pub invariant-loop-entry : goal.invariant-loop-entry
invariant-loop-entry l = last_at l.addr (drop l.entry-index l.entries) l.found ≡ last_at l.addr l.entries 0
