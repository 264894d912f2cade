use Rattle.std.proofs.Common.{arith}
use Rattle.tz_text.proofs.HexDigits.{PAIRS_at}
use Rattle.tz_text.proofs.hex.digits_of.Goals as goal

pub returns-clause-upper : goal.returns-clause-upper
returns-clause-upper c = (PAIRS_at c.args.byte (omega arith)).0

pub returns-clause-lower : goal.returns-clause-lower
returns-clause-lower c = (PAIRS_at c.args.byte (omega arith)).1
