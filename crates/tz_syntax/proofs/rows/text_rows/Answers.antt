use Rattle.std.proofs.Common.{refl}
use Rattle.tz_syntax.specs.Text.{texts}
use Rattle.tz_syntax.proofs.rows.text_rows.Goals as goal

pub returns : goal.returns
unfolding texts
returns c = refl
