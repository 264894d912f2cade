use Rattle.tz_show.specs.Exceptions.{exceptions_text}
use Rattle.tz_tell.proofs.Texts.{follows}
use Rattle.tz_show.proofs.exceptions.push_exceptions.Goals as goal

pub returns-clause-bytes : goal.returns-clause-bytes
unfolding exceptions_text
returns-clause-bytes c =
    follows c.args.text.now.bytes c.push_grouping.new.text.bytes c.push_places.new.text.bytes _ _ (follows c.args.text.now.bytes c.push_control.new.text.bytes c.push_grouping.new.text.bytes _ _ (follows c.args.text.now.bytes c.push_str.new.self.bytes c.push_control.new.text.bytes _ _ c.push_str.ensures.bytes c.push_control.ensures.bytes) c.push_grouping.ensures.bytes) c.push_places.ensures.bytes
