use Rattle.tz_snap.proofs.BothLaws.{read_only}
use Rattle.tz_snap.proofs.laws.only_files_are_read.Goals as goal

pub returns : goal.returns
returns c = λ b bytes x. read_only b bytes x (c.words_are_counted.ensures.words bytes)
