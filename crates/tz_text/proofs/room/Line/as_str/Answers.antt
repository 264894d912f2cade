use Rattle.std.proofs.Common.{length, take, ap, arith, length-take-le}
use Rattle.std.proofs.lemmas.Str.{IsUtf8-from_is_utf8}
use Rattle.tz_text.proofs.room.Line.as_str.Goals as goal

pub returns-in-Ok-clause-fits : goal.returns-in-Ok-clause-fits
returns-in-Ok-clause-fits c =
    let same = ap length c.in-Ok.ensures.cases.0 in
    omega (arith, same, length-take-le c.self.inside.len c.self.inside.cells (omega arith))

-- what a line has is text
pub returns-in-Err-clause-value : goal.returns-in-Err-clause-value
returns-in-Err-clause-value c = absurd (c.in-Err.ensures.cases.0 (IsUtf8-from_is_utf8 (take c.self.inside.len c.self.inside.cells) c.self.invariant.1))
