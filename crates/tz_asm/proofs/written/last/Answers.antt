use Rattle.tz_asm.proofs.Bytes.{last_word-last, last_word-none}
use Rattle.tz_asm.proofs.written.last.Goals as goal

pub returns-in-None : goal.returns-in-None
returns-in-None c = last_word-none c.args.tokens.now c.in-None.ensures.cases

pub returns-in-Some : goal.returns-in-Some
returns-in-Some c = last_word-last c.args.tokens.now c.in-Some.field-0-1.now c.in-Some.token.now c.in-Some.ensures.cases.0
