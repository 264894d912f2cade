use Rattle.std.proofs.Common.{◌≡◌, ◌∙◌, false, subst, sym}
use Rattle.tz_state.specs.Slots.{ExceptionsValue}
use Rattle.tz_state.specs.Difference.{exceptions_differ}
use Rattle.tz_state.proofs.Difference.{exceptions_itself}
use Rattle.tz_iso.proofs.Beginning.{differ_timers}
use Rattle.tz_iso.proofs.compared.exceptions_differ.Goals as goal

pub returns-else-marks : goal.returns-else-marks
returns-else-marks c =
    c.if-marks.false
    ∙ sym (subst (λ (x : ExceptionsValue). exceptions_differ c.args.e.now x ≡ false) (c.requires c.if-marks.false) (exceptions_itself c.args.e.now))
    ∙ differ_timers c.args.e.now c.args.e.now c.args.f.now
