use Rattle.tz_tell.proofs.Texts.{follows}
use Rattle.tz_full.specs.EntryFrames.{additional_uncounted}
use Rattle.tz_full.proofs.entry.push_additional_uncounted.Goals as goal

pub returns-clause-bytes : goal.returns-clause-bytes
unfolding additional_uncounted
returns-clause-bytes c =
    follows c.args.text.now.bytes c.push_hex_word.new.text.bytes c.push_str-3.new.self.bytes _ _ (follows c.args.text.now.bytes c.push_str-2.new.self.bytes c.push_hex_word.new.text.bytes _ _ (follows c.args.text.now.bytes c.push_stack.new.text.bytes c.push_str-2.new.self.bytes _ _ (follows c.args.text.now.bytes c.push_str.new.self.bytes c.push_stack.new.text.bytes _ _ c.push_str.ensures.bytes c.push_stack.ensures.bytes) c.push_str-2.ensures.bytes) c.push_hex_word.ensures.bytes) c.push_str-3.ensures.bytes
