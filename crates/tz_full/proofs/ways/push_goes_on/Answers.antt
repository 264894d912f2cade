use Rattle.tz_tell.proofs.Texts.{follows}
use Rattle.tz_full.specs.WayLines.{goes_on_text}
use Rattle.tz_full.proofs.ways.push_goes_on.Goals as goal

pub returns-clause-bytes : goal.returns-clause-bytes
unfolding goes_on_text
returns-clause-bytes c =
    follows c.args.text.now.bytes c.push_place.new.text.bytes c.push_str-2.new.self.bytes _ _ (follows c.args.text.now.bytes c.push_str.new.self.bytes c.push_place.new.text.bytes _ _ c.push_str.ensures.bytes (rw c.handler.ensures at c.push_place.ensures.bytes)) c.push_str-2.ensures.bytes
