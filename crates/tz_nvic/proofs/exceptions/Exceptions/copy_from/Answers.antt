-- What both leave idle needs no copy.
use Rattle.std.proofs.Common.{◌≡◌, List, ◌++◌, length, take, drop, IfSome, ap, ◌∙◌, subst, sym, arith}
use Rattle.std.specs.List.{count_by}
use Rattle.tz_state.specs.declared.slot.SlotState.{SlotState}
use Rattle.tz_state.specs.Slots.{ExceptionsValue}
use Rattle.tz_ready.specs.Links.{Linked}
use Rattle.tz_nvic.specs.Known.{IsKnown}
use Rattle.tz_nvic.specs.Lists.{AreLinked}
use Rattle.tz_nvic.specs.Viewed.{value_of}
use Rattle.tz_nvic.specs.declared.exceptions.Exceptions.TheInside.{Inside}
use Rattle.tz_nvic.proofs.Idle.{copied}
use Rattle.tz_nvic.proofs.Relinked.{none_from}
use Rattle.tz_nvic.proofs.exceptions.Exceptions.copy_from.Goals as goal

abbrev with_slots : Inside → List SlotState → ExceptionsValue
with_slots e s = record (value_of e) { slots = s }

-- no slot behind the end is linked in either
pub copy_from-requires-clause-none_here : goal.copy_from-requires-clause-none_here
copy_from-requires-clause-none_here c =
    none_from (value_of c.self.inside) c.self.inside.ready c.self.inside.idle_from c.max-end.result c.self.invariant.5 (omega (arith, c.max-end.ensures)) c.self.invariant.6

pub copy_from-requires-clause-none_there : goal.copy_from-requires-clause-none_there
copy_from-requires-clause-none_there c =
    none_from (value_of c.other.inside) c.other.inside.ready c.other.inside.idle_from c.max-end.result c.other.invariant.5 (omega (arith, c.max-end.ensures)) c.other.invariant.6

pub invariant_of-self : goal.invariant_of-self
invariant_of-self c =
    let h = c.other.invariant in
    let many : length c.other.inside.slots.items ≡ c.self.inside.slots.len = omega (arith, c.self.invariant.0, h.0, c.deref_mut.ensures.len, ap length c.deref_mut.ensures.value) in
    let new = c.copy_below.ensures ∙ (λ i. take c.max-end.result (c.deref.ensures.value i) ++ drop c.max-end.result (c.deref_mut.ensures.value i)) in
    let same = copied c.self.inside.idle_from c.other.inside.idle_from c.max-end.result c.self.inside.slots.len c.self.inside.slots.items c.other.inside.slots.items c.copy_below.new.slots c.self.invariant.5 h.5 c.max-end.ensures many new in (
      ap length same ∙ h.0,
      h.1,
      h.2,
      h.3,
      subst (λ s. IfSome c.other.inside.known (λ k. IsKnown (with_slots c.other.inside s) k)) (sym same) h.4,
      (h.5.0, ap (drop c.other.inside.idle_from) same ∙ h.5.1),
      subst (λ s. AreLinked (with_slots c.other.inside s) c.copy_from.new.self) (sym same) (subst (λ (l : Linked). AreLinked (value_of c.other.inside) l) (sym c.copy_from.ensures) h.6),
      h.7 ∙ ap (λ l. count_by (λ s. s.active) l) (sym same),
    )

pub returns : goal.returns
returns c =
    let h = c.other.invariant in
    let many : length c.other.inside.slots.items ≡ c.self.inside.slots.len = omega (arith, c.self.invariant.0, h.0, c.deref_mut.ensures.len, ap length c.deref_mut.ensures.value) in
    let new = c.copy_below.ensures ∙ (λ i. take c.max-end.result (c.deref.ensures.value i) ++ drop c.max-end.result (c.deref_mut.ensures.value i)) in
    ap (with_slots c.other.inside) (copied c.self.inside.idle_from c.other.inside.idle_from c.max-end.result c.self.inside.slots.len c.self.inside.slots.items c.other.inside.slots.items c.copy_below.new.slots c.self.invariant.5 h.5 c.max-end.ensures many new)
    ∙ c.other.view_is
