use Rattle.std.proofs.Common.{sym}
use Rattle.tz_board.proofs.Pieces.{chomp-empty, chomp-other, chomp-return}
use Rattle.tz_board.proofs.text.chomp.Goals as goal

pub returns-then-last-eq13 : goal.returns-then-last-eq13
returns-then-last-eq13 c = sym (chomp-return c.args.line.now c.in-Some.front.now c.in-Some.last.now c.in-Some.ensures.cases.0 c.if-last-eq13.true)

pub returns-else-last-eq13 : goal.returns-else-last-eq13
returns-else-last-eq13 c = sym (chomp-other c.args.line.now c.in-Some.front.now c.in-Some.last.now c.in-Some.ensures.cases.0 c.if-last-eq13.false)

pub returns-in-None : goal.returns-in-None
returns-in-None c = sym (chomp-empty c.args.line.now c.in-None.ensures.cases)
