use Rattle.tz_tell.proofs.Texts.{follows}
use Rattle.tz_full.specs.RefusalLines.{exc_return_line}
use Rattle.tz_full.proofs.refusals.push_exc_return.Goals as goal

pub returns-clause-bytes : goal.returns-clause-bytes
unfolding exc_return_line
returns-clause-bytes c =
    follows c.args.text.now.bytes c.push_str-5.new.self.bytes c.push_str-6.new.self.bytes _ _ (follows c.args.text.now.bytes c.push_str-4.new.self.bytes c.push_str-5.new.self.bytes _ _ (follows c.args.text.now.bytes c.push_mode.new.text.bytes c.push_str-4.new.self.bytes _ _ (follows c.args.text.now.bytes c.push_str-3.new.self.bytes c.push_mode.new.text.bytes _ _ (follows c.args.text.now.bytes c.push_bits.new.text.bytes c.push_str-3.new.self.bytes _ _ (follows c.args.text.now.bytes c.push_str-2.new.self.bytes c.push_bits.new.text.bytes _ _ (follows c.args.text.now.bytes c.push_hex_word.new.text.bytes c.push_str-2.new.self.bytes _ _ (follows c.args.text.now.bytes c.push_str.new.self.bytes c.push_hex_word.new.text.bytes _ _ c.push_str.ensures.bytes c.push_hex_word.ensures.bytes) c.push_str-2.ensures.bytes) c.push_bits.ensures.bytes) c.push_str-3.ensures.bytes) c.push_mode.ensures.bytes) c.push_str-4.ensures.bytes) (rw c.flag_digit.ensures.digit at c.push_str-5.ensures.bytes)) c.push_str-6.ensures.bytes
