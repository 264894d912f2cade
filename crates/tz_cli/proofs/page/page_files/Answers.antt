-- Each exit is its answer.
use Rattle.std.proofs.Common.{refl, subst, List}
use Rattle.tz_model.specs.Outside.{Put}
use Rattle.tz_snap.specs.StateFile.{SavedState}
use Rattle.tz_words.specs.declared.ranges.Range.{Range}
use Rattle.tz_show.specs.Page.{page}
use Rattle.tz_words.specs.ShowWords.{saved_in}
use Rattle.tz_words.specs.Commands.{ShowSaved}
use Rattle.tz_files.specs.Told.{Gives}
use Rattle.tz_files.specs.Starts.{shown_files}
use Rattle.tz_cli.specs.Tasks.{saved_task}
use Rattle.tz_cli.proofs.Exits.{gains_nothing, answer_told, answer_task, told_put}
use Rattle.tz_cli.proofs.page.page_files.Goals as goal

pub returns-in-Err : goal.returns-in-Err
returns-in-Err g c =
    let words = saved_in c.args.words.now in
    answer_told _ (ShowSaved words) (shown_files _ words) (λ saved. Gives (saved_task words saved)) (record { is = refl; room = refl; settles = refl })
    _ c.in-Err.fault c.in-Err.ensures.answer (gains_nothing _) c.refuse_fault.ensures

pub returns : goal.returns
returns g c =
    let words = saved_in c.args.words.now in
    let saved : SavedState = record { state = c.in-Ok.saved.machine; step = c.in-Ok.saved.step } in
    answer_task _ (ShowSaved words) (shown_files _ words) (λ x. Gives (saved_task words x)) (record { is = refl; room = refl; settles = refl })
    _ saved (saved_task words saved) refl c.in-Ok.ensures.answer refl
    (told_put _ _ _ (g.O.Sink.space c.show.new.out) (page saved.state saved.step words.ranges) _ _ c.show.result _ c.put_status.ensures
    (subst (λ (ranges : List Range). Put (g.O.Sink.written c.args.out.now) (g.O.Sink.written c.show.new.out) (g.O.Sink.space c.args.out.now) (g.O.Sink.space c.show.new.out)
    (page saved.state saved.step ranges) c.show.result) c.deref.ensures.value (rw c.lent-state.ensures at c.show.ensures.put))
    c.show.ensures.cause)
    refl
