use Rattle.tz_text.proofs.Spelling.{spelled}
use Rattle.tz_text.proofs.spelled.decoded_is_spelled.Goals as goal

pub returns : goal.returns
returns c = λ first second pc insn width means. spelled first second pc insn width means
