use Rattle.std.proofs.Common.{false, length, ap, ◌∙◌, sym, subst, arith}
use Rattle.std.specs.List.{count_by}
use Rattle.std.proofs.lemmas.List.{length-replicate}
use Rattle.tz_ready.specs.Links.{Linked}
use Rattle.tz_state.specs.Slots.{ExceptionsValue, idle, no_timer}
use Rattle.tz_nvic.specs.Lists.{AreLinked}
use Rattle.tz_nvic.proofs.Relinked.{reset_linked}
use Rattle.tz_nvic.proofs.exceptions.Exceptions.new.Goals as goal

pub returns : goal.returns
returns c = cc (c.in_ok-slots.ensures.items_if_clones_equal (λ y h. h))

pub invariant_of-result : goal.invariant_of-result
invariant_of-result c =
    let slots = c.in_ok-slots.ensures.items_if_clones_equal (λ y h. h) in
    let e : ExceptionsValue = record {
      slots = c.in_ok-slots.slots.items;
      interrupts = c.args.interrupts;
      prigroup_s = 0;
      prigroup_ns = 0;
      pris = false;
      bfhfnmins = false;
      timer_s = no_timer;
      timer_ns = no_timer;
    } in (
      ap length slots ∙ length-replicate 272 idle,
      c.requires.few,
      omega arith,
      omega arith,
      tt,
      (omega arith, slots),
      subst (λ (l : Linked). AreLinked e l) (sym c.new.ensures) (reset_linked e slots),
      ap (λ l. count_by (λ s. s.active) l) (sym slots),
    )
