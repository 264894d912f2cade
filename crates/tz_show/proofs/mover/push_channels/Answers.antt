use Rattle.tz_show.specs.Mover.{channels_text}
use Rattle.tz_tell.proofs.Texts.{follows}
use Rattle.tz_show.proofs.mover.push_channels.Goals as goal

pub returns-clause-bytes : goal.returns-clause-bytes
unfolding channels_text
returns-clause-bytes c =
    follows c.args.text.now.bytes c.push_channel.new.text.bytes c.push_channel-2.new.text.bytes _ _ (follows c.args.text.now.bytes c.push_str.new.self.bytes c.push_channel.new.text.bytes _ _ c.push_str.ensures.bytes c.push_channel.ensures.bytes) c.push_channel-2.ensures.bytes
