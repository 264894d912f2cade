use Rattle.tz_tell.proofs.Texts.{follows}
use Rattle.tz_full.specs.FrameLines.{additional_text}
use Rattle.tz_full.proofs.frames.push_additional.Goals as goal

pub returns-clause-bytes : goal.returns-clause-bytes
unfolding additional_text
returns-clause-bytes c =
    follows c.args.text.now.bytes c.push_head.new.text.bytes c.push_additional_words.new.text.bytes _ _ c.push_head.ensures.bytes c.push_additional_words.ensures.bytes
