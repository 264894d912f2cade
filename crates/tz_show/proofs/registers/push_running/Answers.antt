use Rattle.tz_show.specs.Registers.{running_text}
use Rattle.tz_tell.proofs.Texts.{follows}
use Rattle.tz_show.proofs.registers.push_running.Goals as goal

pub returns-clause-bytes : goal.returns-clause-bytes
unfolding running_text
returns-clause-bytes c =
    follows c.args.text.now.bytes c.push_where-2.new.text.bytes c.push_str-2.new.self.bytes _ _ (follows c.args.text.now.bytes c.push_sleep.new.text.bytes c.push_where-2.new.text.bytes _ _ (follows c.args.text.now.bytes c.push_where.new.text.bytes c.push_sleep.new.text.bytes _ _ (follows c.args.text.now.bytes c.push_privilege.new.text.bytes c.push_where.new.text.bytes _ _ (follows c.args.text.now.bytes c.push_mode.new.text.bytes c.push_privilege.new.text.bytes _ _ (follows c.args.text.now.bytes c.push_side.new.text.bytes c.push_mode.new.text.bytes _ _ (follows c.args.text.now.bytes c.push_str.new.self.bytes c.push_side.new.text.bytes _ _ c.push_str.ensures.bytes c.push_side.ensures.bytes) c.push_mode.ensures.bytes) c.push_privilege.ensures.bytes) c.push_where.ensures.bytes) c.push_sleep.ensures.bytes) c.push_where-2.ensures.bytes) c.push_str-2.ensures.bytes
