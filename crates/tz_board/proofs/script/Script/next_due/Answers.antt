use Rattle.std.proofs.Common.{◌≡◌, ◌∙◌, ◌<◌, ℕ, ap, arith, get_or, length, subst, sym}
use Rattle.std.proofs.lemmas.Bool.{leb-true}
use Rattle.tz_board.specs.Scripts.{due_at}
use Rattle.tz_board.specs.Script.{all_timed}
use Rattle.tz_board.specs.declared.script.Moment.{Moment}
use Rattle.tz_board.proofs.Halving.{steps_of-at}
use Rattle.tz_board.proofs.Moments.{moments_few, none_between, later_above, due_there}
use Rattle.tz_board.proofs.script.Script.next_due.Goals as goal

pub count_up_to-place-requires-clause-few : goal.count_up_to-place-requires-clause-few
count_up_to-place-requires-clause-few g c =
    let few = leb-true (length (all_timed c.self.inside.moments.items)) 10000 c.self.invariant.0.script.few in
    omega (arith, moments_few c.self.inside.moments.items c.self.invariant.0.some_events, c.deref.ensures.len)

pub returns-then-place-len-clause-between : goal.returns-then-place-len-clause-between
returns-then-place-len-clause-between g c k above under =
    ap (due_at k) (sym c.self.view_is)
    ∙ none_between c.self.inside.moments.items c.count_up_to-place.result c.args.step k (rw c.deref.ensures.value at c.count_up_to-place.ensures.before) above
    (λ j from within. absurd (omega (arith, from, within, c.if-place-len.true, c.len.ensures)))

pub returns-clause-between : goal.returns-clause-between
returns-clause-between g c k above under =
    ap (due_at k) (sym c.self.view_is)
    ∙ none_between c.self.inside.moments.items c.count_up_to-place.result c.args.step k (rw c.deref.ensures.value at c.count_up_to-place.ensures.before) above
    (λ j from within. later_above c.self.inside.moments.items c.count_up_to-place.result j k c.index.result.now c.self.invariant.0.ascending from within (subst (λ (m : Moment). k < m.step) c.index.ensures under))

pub returns-clause-due : goal.returns-clause-due
returns-clause-due g c below =
    let within : c.count_up_to-place.result < length c.self.inside.moments.items = omega (arith, c.count_up_to-place.ensures.within, c.deref.ensures.len, c.if-place-len.false, c.len.ensures) in
    let step_is : c.index.result.now.step ≡ (get_or c.self.inside.moments.items c.count_up_to-place.result c.index.result.now).step = ap (λ (m : Moment). m.step) c.index.ensures in
    let here = steps_of-at c.self.inside.moments.items c.count_up_to-place.result c.index.result.now within in
    let high = c.count_up_to-place.ensures.after c.count_up_to-place.result (omega arith) (omega (arith, within, c.deref.ensures.len)) in (
      omega (arith, step_is, here, rw c.deref.ensures.value at high),
      λ none. due_there c.self.inside.moments.items c.count_up_to-place.result c.index.result.now c.self.invariant.0.ascending c.self.invariant.0.some_events within
          (ap (λ (s : ℕ). due_at s (all_timed c.self.inside.moments.items)) (sym step_is) ∙ ap (due_at c.index.result.now.step) c.self.view_is ∙ none),
    )
