use Rattle.std.proofs.Common.{◌∙◌, ap, arith, length, sym}
use Rattle.std.proofs.lemmas.Bool.{leb-true}
use Rattle.tz_board.specs.Scripts.{due_at}
use Rattle.tz_board.specs.Script.{all_timed}
use Rattle.tz_board.specs.declared.script.Moment.{Moment}
use Rattle.tz_board.proofs.Moments.{due_at-found, due_at-none, moments_few}
use Rattle.tz_board.proofs.script.Script.due_next.Goals as goal

pub returns-then-is_between-clause-events : goal.returns-then-is_between-clause-events
returns-then-is_between-clause-events g c =
    sym (due_at-none c.args.step c.self.inside.moments.items (rw c.deref.ensures.value at (c.is_between.ensures.none c.if-is_between.true))) ∙ ap (due_at c.args.step) c.self.view_is

pub find-requires-clause-few : goal.find-requires-clause-few
find-requires-clause-few g c =
    let few = leb-true (length (all_timed c.self.inside.moments.items)) 10000 c.self.invariant.0.script.few in
    omega (arith, moments_few c.self.inside.moments.items c.self.invariant.0.some_events, c.deref-2.ensures.len)

pub returns-in-Some-clause-events : goal.returns-in-Some-clause-events
returns-in-Some-clause-events g c =
    let at = rw c.deref-2.ensures.value at c.in-Some.ensures.at in
    c.deref-in-Some.ensures.value
    ∙ ap (λ (m : Moment). m.events.items) c.index.ensures
    ∙ sym (due_at-found c.args.step c.self.inside.moments.items c.in-Some.index c.index.result.now c.self.invariant.0.ascending at.0 at.1)
    ∙ ap (due_at c.args.step) c.self.view_is

pub returns-in-None-clause-events : goal.returns-in-None-clause-events
returns-in-None-clause-events g c =
    sym (due_at-none c.args.step c.self.inside.moments.items (rw c.deref-2.ensures.value at c.in-None.ensures.at)) ∙ ap (due_at c.args.step) c.self.view_is
