use Rattle.std.proofs.Common.{◌≡◌, List, subst}
use Rattle.tz_model.specs.declared.report.ScriptEvent.{ScriptEvent}
use Rattle.tz_undo.specs.History.{stepped}
use Rattle.tz_cli.proofs.Histories.{kept_start, kept_step}
use Rattle.tz_cli.proofs.back.make_kept.Goals as goal

pub loop-made-init : goal.loop-made-init
loop-made-init g c = kept_start _ _ _ c.requires.fresh

pub loop-made-preserved : goal.loop-made-preserved
loop-made-preserved g c =
    kept_step _ _ _ _ _ _ _ (subst (λ (due : List ScriptEvent). c.step_into.new.self ≡ stepped c.loop-made.history due) c.due-due.ensures.events c.step_into.ensures.after) c.loop-made.invariant
