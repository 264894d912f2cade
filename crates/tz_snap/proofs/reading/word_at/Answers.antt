use Rattle.std.proofs.Common.{◌∙◌, ap, Some, sym, arith}
use Rattle.tz_snap.proofs.Words.{word_past, word_there}
use Rattle.tz_snap.proofs.reading.word_at.Goals as goal

pub returns-then-bytes-place : goal.returns-then-bytes-place
returns-then-bytes-place c = sym (word_past c.args.bytes.now c.args.index (omega arith))

pub returns : goal.returns
returns c = ap Some c.from_le_bytes.ensures ∙ sym (word_there c.args.bytes.now c.args.index (omega arith))
