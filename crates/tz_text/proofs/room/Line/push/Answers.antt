use Rattle.std.proofs.Common.{length, arith, take_all}
use Rattle.std.proofs.lemmas.Str.{is_utf8-from_IsUtf8}
use Rattle.tz_text.proofs.room.Line.push.Goals as goal

pub push_front-requires-clause-text : goal.push_front-requires-clause-text
push_front-requires-clause-text c =
    rw (take_all (length c.args.text.now) c.as_bytes.result.now (omega arith)) (is_utf8-from_IsUtf8 c.as_bytes.result.now c.as_bytes.ensures.utf8)
