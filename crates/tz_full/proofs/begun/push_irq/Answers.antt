use Rattle.tz_tell.proofs.Texts.{follows}
use Rattle.tz_full.specs.BegunLines.{irq_line}
use Rattle.tz_full.proofs.begun.push_irq.Goals as goal

pub returns-clause-bytes : goal.returns-clause-bytes
unfolding irq_line
returns-clause-bytes c =
    follows c.args.text.now.bytes c.push_decimal.new.text.bytes c.push_str-2.new.self.bytes _ _ (follows c.args.text.now.bytes c.push_str.new.self.bytes c.push_decimal.new.text.bytes _ _ c.push_str.ensures.bytes (rw c.from.ensures at c.push_decimal.ensures.bytes)) c.push_str-2.ensures.bytes
