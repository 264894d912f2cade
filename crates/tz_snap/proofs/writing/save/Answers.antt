use Rattle.std.proofs.Common.{◌∙◌, ◌≤◌, ◌+◌, List, ℕ, arith, subst, sym}
use Rattle.tz_model.specs.Outside.{Put}
use Rattle.tz_snap.specs.StateFile.{file_of, file_words}
use Rattle.tz_snap.proofs.Counts.{no_word_is_there, word_is_there}
use Rattle.tz_snap.proofs.Passed.{SoFar, all_passed, one_failed, one_passed}
use Rattle.tz_snap.proofs.writing.save.Goals as goal
use Rattle.tz_snap.proofs.writing.save.Goals.{in-Some+in_default-push_word, in_default}

pub returns-in-Err-clause-put : goal.returns-in-Err-clause-put
unfolding file_of
returns-in-Err-clause-put g c =
    one_failed (file_words c.args.machine.now c.args.step) _ _ _ _ _ _ c.loop-index.held.items c.push_word.new.held.items c.loop-index.index c.in-Some.word c.in-Err.error (sym c.file_word.ensures ∙ c.in-Some.is) c.loop-index.invariant.passed c.in-Err.ensures.passes

pub loop-index-preserved : goal.loop-index-preserved
loop-index-preserved g c =
    elim c.match-file_word.branch [
      | in-Some+in_default-push_word w ↦
          let words = file_words c.args.machine.now c.args.step in
          let made =
          one_passed words _ _ _ _ _ _ c.loop-index.held.items w.push_word.new.held.items c.loop-index.index w.in-Some.word (sym c.file_word.ensures ∙ w.in-Some.is) c.loop-index.invariant.passed w.in_default-push_word.ensures.passes in
          let out =
          subst (λ o. SoFar words (g.O.Sink.written c.args.out.now) (g.O.Sink.written o) (g.O.Sink.space c.args.out.now) (g.O.Sink.space o) w.push_word.new.held.items (c.loop-index.index + 1)) (sym w.out-is) made in
          record {
            passed = subst (λ h. SoFar words (g.O.Sink.written c.args.out.now) (g.O.Sink.written c.match-file_word.out) (g.O.Sink.space c.args.out.now) (g.O.Sink.space c.match-file_word.out) h.items (c.loop-index.index + 1)) (sym w.held-is) out;
            later =
                subst (λ o. g.O.Sink.faults c.args.out.now ≤ g.O.Sink.faults o) (sym w.out-is)
                (let l = w.in_default-push_word.ensures.cause.later in omega (arith, l, c.loop-index.invariant.later));
          }
      | in_default w ↦
          absurd (word_is_there c.board.result.now c.args.machine.now c.args.step c.loop-index.index c.board.ensures (omega arith) (sym c.file_word.ensures ∙ w.in_default.is))
    ]

pub returns-clause-put : goal.returns-clause-put
unfolding file_of
returns-clause-put g c =
    let put = subst (λ (bytes : List ℕ). Put (g.O.Sink.written c.loop-index.out) (g.O.Sink.written c.put.new.self) (g.O.Sink.space c.loop-index.out) (g.O.Sink.space c.put.new.self) bytes c.put.result) c.as_slice.ensures.value c.put.ensures.put in
    all_passed (file_words c.args.machine.now c.args.step) _ _ _ _ _ _ c.loop-index.held.items c.loop-index.index c.put.result (no_word_is_there c.board.result.now c.args.machine.now c.args.step c.loop-index.index c.board.ensures (omega arith)) c.loop-index.invariant.passed put
