use Rattle.tz_tell.proofs.Texts.{follows}
use Rattle.tz_full.specs.WayLines.{call_frame_text}
use Rattle.tz_full.proofs.ways.push_call_frame.Goals as goal

pub returns-clause-bytes : goal.returns-clause-bytes
unfolding call_frame_text
returns-clause-bytes c =
    follows c.args.text.now.bytes c.push_str-3.new.self.bytes c.push_number.new.text.bytes _ _ (follows c.args.text.now.bytes c.push_held.new.text.bytes c.push_str-3.new.self.bytes _ _ (follows c.args.text.now.bytes c.push_str-2.new.self.bytes c.push_held.new.text.bytes _ _ (follows c.args.text.now.bytes c.push_hex_word.new.text.bytes c.push_str-2.new.self.bytes _ _ (follows c.args.text.now.bytes c.push_str.new.self.bytes c.push_hex_word.new.text.bytes _ _ c.push_str.ensures.bytes c.push_hex_word.ensures.bytes) c.push_str-2.ensures.bytes) c.push_held.ensures.bytes) c.push_str-3.ensures.bytes) c.push_number.ensures.bytes
