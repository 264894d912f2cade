use Rattle.tz_tell.proofs.Texts.{follows}
use Rattle.tz_full.specs.TakenLines.{takes_line}
use Rattle.tz_full.proofs.taken.push_takes_line.Goals as goal

pub returns-clause-bytes : goal.returns-clause-bytes
unfolding takes_line
returns-clause-bytes c =
    follows c.args.text.now.bytes c.push_str-4.new.self.bytes c.push_str-5.new.self.bytes _ _ (follows c.args.text.now.bytes c.push_str-3.new.self.bytes c.push_str-4.new.self.bytes _ _ (follows c.args.text.now.bytes c.push_place_priority.new.text.bytes c.push_str-3.new.self.bytes _ _ (follows c.args.text.now.bytes c.push_slot.new.text.bytes c.push_place_priority.new.text.bytes _ _ (follows c.args.text.now.bytes c.push_str-2.new.self.bytes c.push_slot.new.text.bytes _ _ (follows c.args.text.now.bytes c.push_decimal.new.text.bytes c.push_str-2.new.self.bytes _ _ (follows c.args.text.now.bytes c.push_str.new.self.bytes c.push_decimal.new.text.bytes _ _ c.push_str.ensures.bytes (rw c.from.ensures at c.push_decimal.ensures.bytes)) c.push_str-2.ensures.bytes) (rw c.slot_handled.ensures at c.push_slot.ensures.bytes)) c.push_place_priority.ensures.bytes) c.push_str-3.ensures.bytes) (rw c.flag_digit.ensures.digit at c.push_str-4.ensures.bytes)) c.push_str-5.ensures.bytes
