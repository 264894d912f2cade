use Rattle.tz_tell.proofs.Texts.{follows}
use Rattle.tz_full.specs.CrossingLine.{way_text}
use Rattle.tz_full.proofs.crossing.push_way.Goals as goal

pub returns-clause-bytes : goal.returns-clause-bytes
unfolding way_text
returns-clause-bytes c =
    follows c.args.text.now.bytes c.push_handed.new.text.bytes c.push_str-4.new.self.bytes _ _ (follows c.args.text.now.bytes c.push_str-3.new.self.bytes c.push_handed.new.text.bytes _ _ (follows c.args.text.now.bytes c.push_str-2.new.self.bytes c.push_str-3.new.self.bytes _ _ (follows c.args.text.now.bytes c.push_str.new.self.bytes c.push_str-2.new.self.bytes _ _ c.push_str.ensures.bytes (rw c.kind_word.ensures.word at c.push_str-2.ensures.bytes)) c.push_str-3.ensures.bytes) c.push_handed.ensures.bytes) c.push_str-4.ensures.bytes
