-- Integrity and the ways out are laws of the step relation.
use Rattle.std.proofs.Common.{subst}
use Rattle.tz_sem.specs.Step.{Stepped}
use Rattle.tz_twin.specs.Integrity.{LeavesSecure, EntersSecure}
use Rattle.tz_twin.specs.Ways.{TellsWay}
use Rattle.tz_twin.proofs.Unharmed.{leaves_secure, enters_secure}
use Rattle.tz_twin.proofs.WaysOut.{tells_way}
use Rattle.tz_core.proofs.running.Machine.step_over.Goals as goal

pub returns-clause-leaves_secure : goal.returns-clause-leaves_secure
returns-clause-leaves_secure c =
    subst (λ (r : Stepped). LeavesSecure c.args.self.now r) c.report_step.ensures.step
    (λ is untouched. leaves_secure c.args.self.now c.args.due.now is untouched)

pub returns-clause-enters_secure : goal.returns-clause-enters_secure
returns-clause-enters_secure c =
    subst (λ (r : Stepped). EntersSecure c.args.self.now c.args.due.now r) c.report_step.ensures.step
    (λ is secure unlocked. enters_secure c.args.self.now c.args.due.now is secure unlocked)

pub returns-clause-tells_way : goal.returns-clause-tells_way
returns-clause-tells_way c = subst (λ (r : Stepped). TellsWay r) c.report_step.ensures.step (tells_way c.args.self.now c.args.due.now)

pub returns-clause-steps : goal.returns-clause-steps
returns-clause-steps c = c.report_step.ensures.step
