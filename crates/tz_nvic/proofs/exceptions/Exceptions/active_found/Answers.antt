-- What is found with one more place; and what is behind them is idle.
use Rattle.std.proofs.Common.{◌≡◌, ap, sym, subst, ◌∙◌, add-one, arith}
use Rattle.tz_state.specs.Execution.{active_below, raw_priority}
use Rattle.tz_state.specs.Slots.{ExceptionsValue}
use Rattle.tz_nvic.specs.declared.active.ActiveSlots.TheVariants.{Nothing}
use Rattle.tz_nvic.specs.ActiveSlots.{active_slots_below, active_slots}
use Rattle.tz_nvic.specs.Viewed.{value_of, AreIdleFrom}
use Rattle.tz_nvic.proofs.Beyond.{raw_below, all_active_slots, raw_of_none, slots_of_none}
use Rattle.tz_nvic.proofs.Counted.{none_active}
use Rattle.tz_nvic.proofs.exceptions.Exceptions.active_found.Goals as goal

pub loop-index-preserved : goal.loop-index-preserved
unfolding active_below active_slots_below
loop-index-preserved c = record {
  least = rw add-one (rw c.loop-index.invariant.least at c.found_with-found.ensures.least);
  slots = rw add-one (rw c.loop-index.invariant.slots at c.found_with-found.ensures.slots);
  few = c.found_with-found.ensures.few;
}

pub returns-clause-least : goal.returns-clause-least
returns-clause-least c =
    let e : c.loop-index.index ≡ c.self.inside.idle_from = omega arith in
    c.loop-index.invariant.least ∙ ap (active_below c.args.self.now) e ∙ sym (raw_below c.args.self.now c.self.inside.idle_from (subst (λ (v : ExceptionsValue). AreIdleFrom c.self.inside.idle_from v.slots) c.self.view_is c.self.invariant.5))

pub returns-clause-slots : goal.returns-clause-slots
returns-clause-slots c =
    let e : c.loop-index.index ≡ c.self.inside.idle_from = omega arith in
    c.loop-index.invariant.slots ∙ ap (active_slots_below c.args.self.now) e ∙ sym (all_active_slots c.args.self.now c.self.inside.idle_from (subst (λ (v : ExceptionsValue). AreIdleFrom c.self.inside.idle_from v.slots) c.self.view_is c.self.invariant.5))

pub returns-then-self-eq0-clause-least : goal.returns-then-self-eq0-clause-least
returns-then-self-eq0-clause-least c =
    subst (λ (v : ExceptionsValue). 260 ≡ raw_priority v) c.self.view_is (sym (raw_of_none (value_of c.self.inside) (none_active (value_of c.self.inside) (sym c.self.invariant.7 ∙ c.if-self-eq0.true))))

pub returns-then-self-eq0-clause-slots : goal.returns-then-self-eq0-clause-slots
returns-then-self-eq0-clause-slots c =
    subst (λ (v : ExceptionsValue). Nothing ≡ active_slots v) c.self.view_is (sym (slots_of_none (value_of c.self.inside) (none_active (value_of c.self.inside) (sym c.self.invariant.7 ∙ c.if-self-eq0.true))))
