use Rattle.tz_show.specs.Registers.{priority_text}
use Rattle.tz_tell.proofs.Texts.{follows}
use Rattle.tz_show.proofs.registers.push_priority.Goals as goal

pub returns-clause-bytes : goal.returns-clause-bytes
unfolding priority_text
returns-clause-bytes c =
    follows c.args.text.now.bytes c.push_execution.new.text.bytes c.push_str-2.new.self.bytes _ _ (follows c.args.text.now.bytes c.push_str.new.self.bytes c.push_execution.new.text.bytes _ _ c.push_str.ensures.bytes c.push_execution.ensures.bytes) c.push_str-2.ensures.bytes
