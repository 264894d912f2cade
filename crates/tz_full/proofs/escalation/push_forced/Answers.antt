use Rattle.tz_tell.proofs.Texts.{follows}
use Rattle.tz_full.specs.Escalation.{forced_line}
use Rattle.tz_full.proofs.escalation.push_forced.Goals as goal

pub returns-clause-bytes : goal.returns-clause-bytes
unfolding forced_line
returns-clause-bytes c =
    follows c.args.text.now.bytes c.push_why.new.text.bytes c.push_str-4.new.self.bytes _ _ (follows c.args.text.now.bytes c.push_str-3.new.self.bytes c.push_why.new.text.bytes _ _ (follows c.args.text.now.bytes c.push_slot.new.text.bytes c.push_str-3.new.self.bytes _ _ (follows c.args.text.now.bytes c.push_str-2.new.self.bytes c.push_slot.new.text.bytes _ _ (follows c.args.text.now.bytes c.push_side.new.text.bytes c.push_str-2.new.self.bytes _ _ (follows c.args.text.now.bytes c.push_str.new.self.bytes c.push_side.new.text.bytes _ _ c.push_str.ensures.bytes c.push_side.ensures.bytes) c.push_str-2.ensures.bytes) c.push_slot.ensures.bytes) c.push_str-3.ensures.bytes) c.push_why.ensures.bytes) c.push_str-4.ensures.bytes
