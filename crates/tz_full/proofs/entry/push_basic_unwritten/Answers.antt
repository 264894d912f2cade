use Rattle.tz_tell.proofs.Texts.{follows}
use Rattle.tz_full.specs.EntryFrames.{basic_unwritten}
use Rattle.tz_full.proofs.entry.push_basic_unwritten.Goals as goal

pub returns-clause-bytes : goal.returns-clause-bytes
unfolding basic_unwritten
returns-clause-bytes c =
    follows c.args.text.now.bytes c.push_basic_why.new.text.bytes c.push_str-2.new.self.bytes _ _ (follows c.args.text.now.bytes c.push_str.new.self.bytes c.push_basic_why.new.text.bytes _ _ c.push_str.ensures.bytes c.push_basic_why.ensures.bytes) c.push_str-2.ensures.bytes
