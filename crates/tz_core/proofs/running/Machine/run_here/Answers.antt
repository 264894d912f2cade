use Rattle.std.proofs.Common.{ap, sym, ◌∙◌}
use Rattle.tz_sem.specs.Exec.{Executed}
use Rattle.tz_sem.specs.Step.{executes}
use Rattle.tz_core.proofs.Exchanging.{executes_alike, executes_load}
use Rattle.tz_core.proofs.running.Machine.run_here.Goals as goal

pub returns-then-loads_pc-clause-does : goal.returns-then-loads_pc-clause-does
returns-then-loads_pc-clause-does c =
    executes_load c.args.self.now c.args.insn.now c.args.course c.args.code.now (sym c.loads_pc.ensures ∙ c.if-loads_pc.true) ∙ c.load_pc.ensures.does

-- An instruction that loads no PC goes on by the core that it left, so no copy of the core before it is kept.
pub returns-clause-does : goal.returns-clause-does
returns-clause-does c =
    executes_alike c.args.self.now c.args.insn.now c.args.course c.args.code.now (sym c.loads_pc.ensures ∙ c.if-loads_pc.false)
    ∙ ap (λ (x : Executed). executes x.state.core c.args.course c.args.code.now c.args.insn.now x) c.execute-outcome.ensures.does
    ∙ c.conclude.ensures.does
