use Rattle.tz_snap.proofs.WordLaws.{words_back, words_only}
use Rattle.tz_snap.proofs.laws.words_read_back.Goals as goal

pub returns-clause-back : goal.returns-clause-back
returns-clause-back c = words_back

pub returns-clause-only : goal.returns-clause-only
returns-clause-only c = λ b ws s board small count read. words_only b ws board small count s read
