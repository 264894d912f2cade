use Rattle.tz_text.proofs.Maximal.{maximal}
use Rattle.tz_text.proofs.disassembly.runs_are_maximal.Goals as goal

pub returns : goal.returns
returns c = λ segments image. maximal segments image
