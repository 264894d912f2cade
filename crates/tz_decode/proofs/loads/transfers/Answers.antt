use Rattle.std.proofs.Common.{arith}
use Rattle.tz_decode.proofs.LoadLaws.{transfers}
use Rattle.tz_decode.proofs.loads.transfers.Goals as goal

-- The call that closes each goal, by name: what is tried before it finds nothing, after long.
pub returns-then-number-eq3 : goal.returns-then-number-eq3
returns-then-number-eq3 c = grind (arith, transfers)

pub returns-then-signed-ne0 : goal.returns-then-signed-ne0
returns-then-signed-ne0 c = grind (arith, transfers)

pub returns-else-signed-ne0 : goal.returns-else-signed-ne0
returns-else-signed-ne0 c = grind (arith, transfers)

pub returns-then-is_signed_word : goal.returns-then-is_signed_word
returns-then-is_signed_word c = grind (arith, transfers)

pub returns-then-field-eq15 : goal.returns-then-field-eq15
returns-then-field-eq15 c = grind (arith, transfers)

pub returns-else-field-eq15 : goal.returns-else-field-eq15
returns-else-field-eq15 c = grind (arith, transfers)
