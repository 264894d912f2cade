use Rattle.std.proofs.Common.{◌≡◌, ◌+◌, arith, append_assoc}
use Rattle.tz_syntax.specs.Digits.{hex_word}
use Rattle.tz_text.proofs.hex.write_word.Goals as goal

pub returns : goal.returns
unfolding hex_word
returns c =
    let e : c.args.at + 8 ≡ c.args.at + 4 + 4 = omega arith in
    rw (e, c.write_half-2.ensures, c.write_half.ensures, append_assoc)
