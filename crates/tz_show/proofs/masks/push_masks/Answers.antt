use Rattle.tz_show.specs.Masks.{masks_text}
use Rattle.tz_tell.proofs.Texts.{follows}
use Rattle.tz_show.proofs.masks.push_masks.Goals as goal

pub returns-clause-bytes : goal.returns-clause-bytes
unfolding masks_text
returns-clause-bytes c =
    follows c.args.text.now.bytes c.push_side_masks.new.text.bytes c.push_side_masks-2.new.text.bytes _ _ (follows c.args.text.now.bytes c.push_str.new.self.bytes c.push_side_masks.new.text.bytes _ _ c.push_str.ensures.bytes c.push_side_masks.ensures.bytes) c.push_side_masks-2.ensures.bytes
