use Rattle.tz_syntax.specs.Digits.{hex_byte}
use Rattle.tz_text.proofs.HexDigits.{take_two}
use Rattle.tz_text.proofs.hex.write_byte.Goals as goal

pub returns : goal.returns
unfolding hex_byte
returns c = rw (take_two c.args.cells.now c.args.at _ _ c.requires, c.digits_of-upper.ensures.upper, c.digits_of-upper.ensures.lower)
