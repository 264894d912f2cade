use Rattle.std.proofs.Common.{ap}
use Rattle.std.proofs.lemmas.Int.{to_z-of_z}
use Rattle.tz_sem.specs.Exec.{ported}
use Rattle.tz_system.proofs.execute.Goals as goal

-- What the callee of each arm says, at the instruction that the arm has. A priority comes back from its word as it was.

pub returns-in-Hint : goal.returns-in-Hint
returns-in-Hint c = rw c.in-Hint.is (ap (ported c.args.bus.now.state) c.hint.ensures)

pub returns-in-ReadSpecial : goal.returns-in-ReadSpecial
returns-in-ReadSpecial c = rw c.in-ReadSpecial.is (ap (ported c.args.bus.now.state) c.read.ensures)

pub returns-in-SecureGateway : goal.returns-in-SecureGateway
returns-in-SecureGateway c = rw c.in-SecureGateway.is (ap (ported c.args.bus.now.state) c.pass-in-SecureGateway.ensures)

pub returns-in-LazyState : goal.returns-in-LazyState
returns-in-LazyState c = rw c.in-LazyState.is (ap (ported c.args.bus.now.state) c.lazy_state.ensures)

pub returns-in-ChangeState : goal.returns-in-ChangeState
returns-in-ChangeState c = rw c.in-ChangeState.is (rw c.change_state.ensures (simp (to_z-of_z, c.ranges.priority)))

pub returns-in-TestTarget : goal.returns-in-TestTarget
returns-in-TestTarget c = rw c.in-TestTarget.is (ap (ported c.args.bus.now.state) (simp (c.asked-probe.ensures, to_z-of_z, c.ranges.priority) at c.test.ensures))
