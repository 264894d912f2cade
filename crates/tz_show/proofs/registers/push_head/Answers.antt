use Rattle.tz_show.specs.Registers.{head_text}
use Rattle.tz_tell.proofs.Texts.{follows}
use Rattle.tz_show.proofs.registers.push_head.Goals as goal

pub returns-clause-bytes : goal.returns-clause-bytes
unfolding head_text
returns-clause-bytes c =
    follows c.args.text.now.bytes c.push_running.new.text.bytes c.push_priority.new.text.bytes _ _ (follows c.args.text.now.bytes c.push_str-2.new.self.bytes c.push_running.new.text.bytes _ _ (follows c.args.text.now.bytes c.push_decimal.new.text.bytes c.push_str-2.new.self.bytes _ _ (follows c.args.text.now.bytes c.push_str.new.self.bytes c.push_decimal.new.text.bytes _ _ c.push_str.ensures.bytes c.push_decimal.ensures.bytes) c.push_str-2.ensures.bytes) c.push_running.ensures.bytes) c.push_priority.ensures.bytes
