use Rattle.std.proofs.Common.{arith}
use Rattle.std.proofs.lemmas.Grind.{common_steps}
use Rattle.tz_branch.proofs.execute_alone.Goals as goal

-- An offset reaches the callee as the word that it is: the call that sees this is named.
pub returns-in-Branch : goal.returns-in-Branch
returns-in-Branch c = grind (arith, common_steps)

pub returns-in-BranchIf : goal.returns-in-BranchIf
returns-in-BranchIf c = grind (arith, common_steps)

pub returns-in-BranchLink : goal.returns-in-BranchLink
returns-in-BranchLink c = grind (arith, common_steps)

pub returns-in-BranchZero : goal.returns-in-BranchZero
returns-in-BranchZero c = grind (arith, common_steps)

-- What the callee of each arm says, at the instruction that the arm has.
pub returns-in-BranchExchange : goal.returns-in-BranchExchange
returns-in-BranchExchange c = rw c.in-BranchExchange.is c.exchange.ensures

pub returns-in-CallExchange : goal.returns-in-CallExchange
returns-in-CallExchange c = rw c.in-CallExchange.is c.call_exchange.ensures

pub returns-in-IfThen : goal.returns-in-IfThen
returns-in-IfThen c = rw c.in-IfThen.is c.if_then.ensures
