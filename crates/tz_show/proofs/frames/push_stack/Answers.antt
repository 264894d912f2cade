use Rattle.tz_show.specs.Frames.{stack_text}
use Rattle.tz_tell.proofs.Texts.{follows}
use Rattle.tz_show.proofs.frames.push_stack.Goals as goal

pub returns-clause-bytes : goal.returns-clause-bytes
unfolding stack_text
returns-clause-bytes c =
    follows c.args.text.now.bytes c.push_str.new.self.bytes c.push_stack_words.new.text.bytes _ _ c.push_str.ensures.bytes (rw c.pointer.ensures at c.push_stack_words.ensures.bytes)
