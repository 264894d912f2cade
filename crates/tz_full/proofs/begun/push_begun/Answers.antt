use Rattle.tz_tell.proofs.Texts.{follows}
use Rattle.tz_full.specs.BegunLines.{begun_text}
use Rattle.tz_full.proofs.begun.push_begun.Goals as goal

pub returns-clause-bytes : goal.returns-clause-bytes
unfolding begun_text
returns-clause-bytes c =
    follows c.args.text.now.bytes c.push_moves.new.text.bytes c.push_line_where-3.new.text.bytes _ _ (follows c.args.text.now.bytes c.push_line_where-2.new.text.bytes c.push_moves.new.text.bytes _ _ (follows c.args.text.now.bytes c.push_line_where.new.text.bytes c.push_line_where-2.new.text.bytes _ _ c.push_line_where.ensures.bytes c.push_line_where-2.ensures.bytes) c.push_moves.ensures.bytes) (rw c.sleep_ends.ensures at c.push_line_where-3.ensures.bytes)
