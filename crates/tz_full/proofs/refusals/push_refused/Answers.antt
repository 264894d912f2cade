use Rattle.tz_tell.proofs.Texts.{follows}
use Rattle.tz_full.specs.RefusalLines.{refused_line}
use Rattle.tz_full.proofs.refusals.push_refused.Goals as goal

pub returns-clause-bytes : goal.returns-clause-bytes
unfolding refused_line
returns-clause-bytes c =
    follows c.args.text.now.bytes c.push_reason.new.text.bytes c.push_str-2.new.self.bytes _ _ (follows c.args.text.now.bytes c.push_str.new.self.bytes c.push_reason.new.text.bytes _ _ c.push_str.ensures.bytes c.push_reason.ensures.bytes) c.push_str-2.ensures.bytes
