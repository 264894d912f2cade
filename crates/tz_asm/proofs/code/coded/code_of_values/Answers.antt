use Rattle.tz_asm.proofs.Coding.{code_means, code_means_not, not_found}
use Rattle.tz_asm.proofs.code.coded.code_of_values.Goals as goal

pub returns-in-Err : goal.returns-in-Err
returns-in-Err c = not_found c.args.values.now c.args.width c.in-Err.field-0 c.in-Err.ensures

pub returns-then-means : goal.returns-then-means
returns-then-means c = code_means c.args.values.now c.args.width c.in-Ok.halves c.code_of_halves-code.result c.means.result c.code_of_halves-code.ensures c.in-Ok.ensures c.means.ensures c.if-means.true

pub returns-else-means : goal.returns-else-means
returns-else-means c = code_means_not c.args.values.now c.args.width c.in-Ok.halves c.code_of_halves-code.result c.means.result c.code_of_halves-code.ensures c.in-Ok.ensures c.means.ensures c.if-means.false
