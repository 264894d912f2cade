use Rattle.tz_show.specs.Exceptions.{grouping_line}
use Rattle.tz_tell.proofs.Texts.{follows}
use Rattle.tz_show.proofs.exceptions.push_grouping_line.Goals as goal

pub returns-clause-bytes : goal.returns-clause-bytes
unfolding grouping_line
returns-clause-bytes c =
    follows c.args.text.now.bytes c.push_where-2.new.text.bytes c.push_str-3.new.self.bytes _ _ (follows c.args.text.now.bytes c.push_where.new.text.bytes c.push_where-2.new.text.bytes _ _ (follows c.args.text.now.bytes c.push_decimal-2.new.text.bytes c.push_where.new.text.bytes _ _ (follows c.args.text.now.bytes c.push_str-2.new.self.bytes c.push_decimal-2.new.text.bytes _ _ (follows c.args.text.now.bytes c.push_decimal.new.text.bytes c.push_str-2.new.self.bytes _ _ (follows c.args.text.now.bytes c.push_str.new.self.bytes c.push_decimal.new.text.bytes _ _ c.push_str.ensures.bytes c.push_decimal.ensures.bytes) c.push_str-2.ensures.bytes) c.push_decimal-2.ensures.bytes) c.push_where.ensures.bytes) c.push_where-2.ensures.bytes) c.push_str-3.ensures.bytes
