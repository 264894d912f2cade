-- What is told of a step doesn't ask how exceptions came into it.
use Rattle.std.proofs.Common.{ℕ, ap, sym, ◌∙◌}
use Rattle.tz_table.specs.declared.units.Side.{Side}
use Rattle.tz_model.specs.declared.report.Report.{Report}
use Rattle.tz_regs.specs.Registers.{before_in, sp_in}
use Rattle.tz_state.specs.State.{State}
use Rattle.tz_sem.specs.Ended.{Ended}
use Rattle.tz_sem.specs.Step.{stepped, ended}
use Rattle.tz_core.specs.Closing.{ending_of}
use Rattle.tz_core.proofs.running.Machine.report_step.Goals as goal

pub returns-clause-step : goal.returns-clause-step
returns-clause-step c =
    let end : Ended = record { state = c.make_step.new.self; stores = c.make_step.new.stores.items; ending = ending_of c.make_step.new.close c.make_step.new.noted } in
    let registers = c.self.inside.core.registers in
    ap (λ (t : State). stepped (before_in c.args.self.now.core) (ended t)) (sym c.start.ensures.does)
    ∙ ap (λ (e : Ended). stepped (before_in c.args.self.now.core) e) c.make_step.ensures.does
    ∙ ap (λ (s : State). stepped (before_in s.core) end) (sym c.self.view_is)
    ∙ ap (λ (s : Side). stepped (record { side = s; registers = registers; sp = sp_in c.self.inside.core }) end) (sym c.running_side-side.ensures)
    ∙ ap (λ (n : ℕ). stepped (record { side = c.running_side-side.result; registers = registers; sp = n }) end) (sym c.pointer-sp.ensures)
    ∙ ap (λ (r : Report). record { state = c.make_step.new.self; report = r }) (sym c.tell.ensures)
