use Rattle.std.proofs.Common.{◌<◌, ◌^◌, ◌/◌, arith, append_assoc}
use Rattle.tz_text.proofs.Numbers.{by_tens}
use Rattle.tz_text.proofs.PieceTexts.{text_tens, text_last}
use Rattle.tz_text.proofs.number.push_number.Goals as goal

pub push_front-requires-clause-text : goal.push_front-requires-clause-text
push_front-requires-clause-text c = rw (c.keep.new.self.tells, c.keep.ensures) (text_tens (c.args.number / 10) (omega arith))

pub push_front-requires-2-clause-text : goal.push_front-requires-2-clause-text
push_front-requires-2-clause-text c = text_last c.args.number

pub returns-clause-bytes : goal.returns-clause-bytes
returns-clause-bytes c =
    let few : c.args.number < 2 ^ 32 = omega arith in
    rw (c.push_front-2.ensures.bytes, c.push_front.ensures.bytes, c.keep.new.self.tells, c.keep.ensures, ← by_tens c.args.number few) (simp append_assoc)
