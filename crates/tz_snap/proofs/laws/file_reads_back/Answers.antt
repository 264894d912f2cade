use Rattle.tz_snap.proofs.BothLaws.{reads_back, told_apart}
use Rattle.tz_snap.proofs.laws.file_reads_back.Goals as goal

pub returns-clause-back : goal.returns-clause-back
returns-clause-back c = reads_back

pub returns-clause-apart : goal.returns-clause-apart
returns-clause-apart c = told_apart
