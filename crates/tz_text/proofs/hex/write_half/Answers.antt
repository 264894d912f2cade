use Rattle.std.proofs.Common.{◌≡◌, ◌+◌, arith, append_assoc}
use Rattle.tz_syntax.specs.Digits.{hex_half}
use Rattle.tz_text.proofs.hex.write_half.Goals as goal

pub returns : goal.returns
unfolding hex_half
returns c =
    let e : c.args.at + 4 ≡ c.args.at + 2 + 2 = omega arith in
    rw (e, c.write_byte-2.ensures, c.write_byte.ensures, append_assoc)
