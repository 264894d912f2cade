use Rattle.std.proofs.Common.{arith}
use Rattle.tz_text.proofs.Numbers.{upper_pos}
use Rattle.tz_text.proofs.PieceTexts.{no_text}
use Rattle.tz_text.proofs.kept.Entry.empty.Goals as goal

pub invariant_of-result : goal.invariant_of-result
invariant_of-result c = record {
  within = omega arith;
  text = no_text;
  tells = λ code l e. absurd (omega (arith, upper_pos code.second));
}
