use Rattle.std.proofs.Common.{◌∙◌, arith}
use Rattle.std.proofs.lemmas.Grind.{common_steps}
use Rattle.tz_excret.proofs.Leaves.{leaves_told}
use Rattle.tz_excret.proofs.leaving.leave.Goals as goal

pub returns-clause-does : goal.returns-clause-does
returns-clause-does g c =
    leaves_told g.P.Frames.answer c.args.profile c.args.core.now c.args.exceptions.now (g.P.Frames.held c.args.port.now) c.args.value _ _ _ _ _
    c.returning_by-returning.ensures c.exc_return_fault-noted.ensures c.slot_returning-slot.ensures c.return_core.ensures c.free.ensures
    ∙ grind (arith, common_steps)
