use Rattle.tz_tell.proofs.Texts.{follows}
use Rattle.tz_full.specs.Escalation.{lockup_line}
use Rattle.tz_full.proofs.escalation.push_lockup.Goals as goal

pub returns-clause-bytes : goal.returns-clause-bytes
unfolding lockup_line
returns-clause-bytes c =
    follows c.args.text.now.bytes c.push_priority.new.text.bytes c.push_str-4.new.self.bytes _ _ (follows c.args.text.now.bytes c.push_str-3.new.self.bytes c.push_priority.new.text.bytes _ _ (follows c.args.text.now.bytes c.push_str-2.new.self.bytes c.push_str-3.new.self.bytes _ _ (follows c.args.text.now.bytes c.push_slot.new.text.bytes c.push_str-2.new.self.bytes _ _ (follows c.args.text.now.bytes c.push_str.new.self.bytes c.push_slot.new.text.bytes _ _ c.push_str.ensures.bytes c.push_slot.ensures.bytes) (rw c.nor_text.ensures.text at c.push_str-2.ensures.bytes)) c.push_str-3.ensures.bytes) c.push_priority.ensures.bytes) c.push_str-4.ensures.bytes
