-- Integrity and the ways out are laws of the step relation; what is noted takes the step back.
use Rattle.std.proofs.Common.{◌≡◌, subst, sym, ap, ◌∙◌}
use Rattle.tz_sem.specs.Step.{Stepped}
use Rattle.tz_twin.specs.Integrity.{LeavesSecure, EntersSecure}
use Rattle.tz_twin.specs.Ways.{TellsWay}
use Rattle.tz_twin.proofs.Unharmed.{leaves_secure, enters_secure}
use Rattle.tz_twin.proofs.WaysOut.{tells_way}
use Rattle.tz_core.specs.Undo.{NoteValue, stores_noted, undo_of}
use Rattle.tz_core.proofs.Undoes.{is_there, undoes}
use Rattle.tz_core.proofs.running.Machine.step_noted_into.Goals as goal

pub returns-clause-steps : goal.returns-clause-steps
returns-clause-steps c = c.report_step.ensures.step

pub returns-clause-leaves_secure : goal.returns-clause-leaves_secure
returns-clause-leaves_secure c =
    subst (λ (r : Stepped). LeavesSecure c.args.self.now r) c.report_step.ensures.step
    (λ is untouched. leaves_secure c.args.self.now c.args.due.now is untouched)

pub returns-clause-enters_secure : goal.returns-clause-enters_secure
returns-clause-enters_secure c =
    subst (λ (r : Stepped). EntersSecure c.args.self.now c.args.due.now r) c.report_step.ensures.step
    (λ is secure unlocked. enters_secure c.args.self.now c.args.due.now is secure unlocked)

pub returns-clause-tells_way : goal.returns-clause-tells_way
returns-clause-tells_way c = subst (λ (r : Stepped). TellsWay r) c.report_step.ensures.step (tells_way c.args.self.now c.args.due.now)

pub returns-clause-note : goal.returns-clause-note
returns-clause-note c =
    let is = ap (λ (r : Stepped). r.state) (sym c.report_step.ensures.step) in
    let back = c.report_step.ensures.back ∙ c.begin.ensures.begun c.args.self.now.bus.memory in
    subst (λ (n : NoteValue). undo_of (record n { written = stores_noted c.report_step.new.written }) c.report_step.new.self ≡ c.args.self.now) (sym c.note.view_is)
    (undoes c.args.self.now c.report_step.new.self c.args.due.now c.note_state.new.note c.args.note.now.written c.report_step.new.written c.note_state.ensures is back)

pub invariant_of-note : goal.invariant_of-note
invariant_of-note c =
    is_there c.report_step.new.written c.args.self.now.bus.memory c.report_step.new.self.bus.memory (c.report_step.ensures.back ∙ c.begin.ensures.begun c.args.self.now.bus.memory)
