use Rattle.std.proofs.Common.{◌≡◌, ◌∙◌, ℤ, ap, arith, rules, sym}
use Rattle.std.proofs.lemmas.Grind.{common_steps}
use Rattle.tz_table.specs.declared.instruction.Insn.{Insn}
use Rattle.tz_state.specs.State.{State, Bus, priority_in}
use Rattle.tz_sem.specs.Exec.{Ported, beside, system_over}
use mir.Syntax.{w32}
use mir.Val.{of_z, to_z}
use Rattle.tz_core.proofs.Unwritten.{cleared_kept}
use Rattle.tz_core.proofs.running.Machine.system.Goals as goal

-- The call that finds these soonest is named.
pub execution_priority-priority-requires : goal.execution_priority-priority-requires
execution_priority-priority-requires c = grind (arith, common_steps)

pub execute-requires : goal.execute-requires
execute-requires c = grind (arith, common_steps)

-- an instruction at the priority that was found, and its outcome
at_priority : (s t : State) (i : Insn) (p : ℤ) (x : Ported Bus) → t ≡ s → system_over p i t.core t.bus ≡ x → priority_in t ≡ p → beside s (system_over (priority_in s) i s.core s.bus) ≡ beside t x
at_priority s t i p x is e same =
    ap (λ (u : State). beside u (system_over (priority_in u) i u.core u.bus)) (sym is)
    ∙ ap (λ (q : ℤ). beside t (system_over q i t.core t.bus)) same
    ∙ ap (beside t) e

-- A search for the whole takes long: only the priority, which is passed as its bits, is left to one.
pub returns-clause-does : goal.returns-clause-does
returns-clause-does c =
    at_priority c.args.self.now (record { core = c.self.inside.core; exceptions = c.self.inside.exceptions; bus = c.self.inside.bus.state }) c.args.insn.now (to_z w32 (of_z w32 c.execution_priority-priority.result))
    (record { core = c.execute.new.core; held = c.execute.new.bus.state; outcome = c.execute.result })
    c.self.view_is c.execute.ensures (search rules)

-- It writes no memory, and clears the monitor at most.
pub returns-clause-kept : goal.returns-clause-kept
returns-clause-kept c =
    sym (ap (λ (x : Ported Bus). x.held.memory) c.execute.ensures)
    ∙ cleared_kept c.args.insn.now c.self.inside.bus.state
    ∙ ap (λ (s : State). s.bus.memory) c.self.view_is
