use Rattle.std.proofs.Common.{◌≡◌, ◌-◌, ◌∙◌, ap, arith}
use Rattle.tz_run.specs.Events.{events_of}
use Rattle.tz_undo.specs.History.{HistoryValue}
use Rattle.tz_cli.proofs.Histories.{can_undo, undone_end}
use Rattle.tz_cli.proofs.back.gone_back.Goals as goal

pub undo_steps-requires : goal.undo_steps-requires
undo_steps-requires c =
    let kept : c.in-Ok.history.kept ≡ c.kept_for.result = ap (λ (h : HistoryValue). h.kept) c.in-Ok.ensures.made in
    let enough = c.kept_for.ensures.enough in
    can_undo (events_of c.args.script.now) (c.args.steps - c.args.back) c.in-Ok.history.now c.args.back c.in-Ok.history.kept c.make_kept.new.history.before (omega (arith, kept, enough))
    c.make_kept.ensures.before

pub returns : goal.returns
returns c =
    let kept : c.in-Ok.history.kept ≡ c.kept_for.result = ap (λ (h : HistoryValue). h.kept) c.in-Ok.ensures.made in
    let enough = c.kept_for.ensures.enough in
    let begin : c.in-Ok.history.now ≡ c.make_steps.new.machine = ap (λ (h : HistoryValue). h.now) c.in-Ok.ensures.made in
    c.into_machine.ensures
    ∙ (undone_end (events_of c.args.script.now) (c.args.steps - c.args.back) c.in-Ok.history.now c.args.back c.in-Ok.history.kept c.make_kept.new.history.now c.undo_steps.new.history.now
    c.make_kept.new.history.before c.undo_steps.new.history.before (omega (arith, kept, enough)) c.make_kept.ensures.state c.make_kept.ensures.before c.undo_steps.ensures
    ∙ (begin ∙ c.make_steps.ensures))
