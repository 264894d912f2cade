use Rattle.tz_tell.proofs.Texts.{follows}
use Rattle.tz_full.specs.WayLines.{fnc_text}
use Rattle.tz_full.proofs.ways.push_fnc.Goals as goal

pub returns-clause-bytes : goal.returns-clause-bytes
unfolding fnc_text
returns-clause-bytes c =
    follows c.args.text.now.bytes c.push_from_call.new.text.bytes c.push_str-2.new.self.bytes _ _ (follows c.args.text.now.bytes c.push_hex_word.new.text.bytes c.push_from_call.new.text.bytes _ _ (follows c.args.text.now.bytes c.push_str.new.self.bytes c.push_hex_word.new.text.bytes _ _ c.push_str.ensures.bytes c.push_hex_word.ensures.bytes) (rw (c.came_from.ensures, c.bus.ensures) at c.push_from_call.ensures.bytes)) c.push_str-2.ensures.bytes
