use Rattle.std.proofs.Common.{ap, ◌∙◌}
use Rattle.tz_table.specs.declared.instruction.Insn.{Insn}
use Rattle.tz_sem.specs.Exec.{branch_over}
use Rattle.tz_branch.proofs.execute.Goals as goal

-- What the callee says, at the instruction that the arm has.
pub returns-in-TableBranch-clause-executes : goal.returns-in-TableBranch-clause-executes
returns-in-TableBranch-clause-executes g c =
    ap (λ (i : Insn). branch_over g.P.Port.answer i c.args.core.now (g.P.Port.held c.args.port.now)) c.in-TableBranch.is ∙ c.table_branch.ensures.executes
