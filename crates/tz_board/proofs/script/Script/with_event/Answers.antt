use Rattle.std.proofs.Common.{◌∙◌, ◌<◌, ◌≤◌, ◌++◌, ◌∷◌, ◌+◌, ℕ, [], List, ap, length, refl, sym}
use Rattle.std.proofs.lemmas.List.{length_push}
use Rattle.tz_board.specs.Scripts.{Timed, last_step, most_events}
use Rattle.tz_board.specs.Script.{all_timed}
use Rattle.tz_board.specs.declared.script.Moment.{Moment}
use Rattle.tz_board.proofs.Opening.{all_timed-push, kept_push}
use Rattle.tz_board.proofs.script.Script.with_event.Goals as goal

pub invariant_of-result : goal.invariant_of-result
invariant_of-result c =
    let room : length (all_timed c.self.inside.moments.items) < most_events = rw c.self.view_is c.requires.room in
    let order : last_step 0 (all_timed c.self.inside.moments.items) ≤ c.args.step = rw c.self.view_is c.requires.order in (
      rw c.in_ok-push-2.ensures.items
          (kept_push c.self.inside.moments.items c.open_moment.new.moments.items c.args.step c.in_ok-last.last _ c.args.event c.in_ok-last.ensures c.self.invariant.0 room order refl c.in_ok-push.ensures.items),
      ap (λ (n : ℕ). n + 1) c.self.invariant.1
          ∙ sym (length_push (all_timed c.self.inside.moments.items) (c.args.step, c.args.event))
          ∙ sym (ap (λ (ms : List Moment). length (all_timed ms)) c.in_ok-push-2.ensures.items
          ∙ ap (λ (ts : List Timed). length ts) (all_timed-push c.self.inside.moments.items c.open_moment.new.moments.items c.args.step c.in_ok-last.last _ c.args.event c.in_ok-last.ensures refl c.in_ok-push.ensures.items)),
    )

pub returns : goal.returns
returns c =
    ap all_timed c.in_ok-push-2.ensures.items
    ∙ all_timed-push c.self.inside.moments.items c.open_moment.new.moments.items c.args.step c.in_ok-last.last _ c.args.event c.in_ok-last.ensures refl c.in_ok-push.ensures.items
    ∙ ap (λ (ts : List Timed). ts ++ (c.args.step, c.args.event) ∷ []) c.self.view_is
