use Rattle.std.proofs.Common.{◌≡◌, ◌∙◌, false, subst, sym}
use Rattle.tz_state.specs.Attribution.{SauState}
use Rattle.tz_state.specs.Difference.{sau_differs}
use Rattle.tz_state.proofs.Difference.{sau_itself}
use Rattle.tz_iso.proofs.compared.sau_differs.Goals as goal

pub returns-else-marks : goal.returns-else-marks
returns-else-marks c =
    c.if-marks.false
    ∙ sym (subst (λ (x : SauState). sau_differs c.args.b.now.state.sau x ≡ false) (c.requires c.if-marks.false) (sau_itself c.args.b.now.state.sau))
