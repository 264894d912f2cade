use Rattle.tz_tell.proofs.Texts.{follows}
use Rattle.tz_full.specs.RefusalLines.{unread_word}
use Rattle.tz_full.proofs.refusals.push_unread_word.Goals as goal

pub returns-clause-bytes : goal.returns-clause-bytes
unfolding unread_word
returns-clause-bytes c =
    follows c.args.text.now.bytes c.push_str.new.self.bytes c.push_word_fault.new.text.bytes _ _ c.push_str.ensures.bytes c.push_word_fault.ensures.bytes
