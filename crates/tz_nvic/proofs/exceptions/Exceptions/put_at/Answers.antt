-- The slots from one on stay idle that aren't written, and the slot that is written is linked where it is to be.
use Rattle.std.proofs.Common.{set, sym, subst, ap, ◌∙◌, arith}
use Rattle.std.proofs.lemmas.List.{length-set}
use Rattle.tz_ready.specs.Links.{Linked}
use Rattle.tz_state.specs.Slots.{ExceptionsValue, with_slot}
use Rattle.tz_nvic.specs.Lists.{queue_by, AreLinked}
use Rattle.tz_nvic.specs.Viewed.{value_of, AreIdleFrom}
use Rattle.tz_nvic.proofs.Counted.{active_written}
use Rattle.tz_nvic.proofs.Idle.{idle_written}
use Rattle.tz_nvic.proofs.Relinked.{relinked}
use Rattle.tz_nvic.proofs.exceptions.Exceptions.put_at.Goals as goal

pub invariant_of-self : goal.invariant_of-self
invariant_of-self c =
    let h = c.self.invariant in
    let e : ExceptionsValue = value_of c.self.inside in
    let is = c.put.ensures ∙ ap (set c.self.inside.ready c.args.index) (c.queue_by-queue.ensures ∙ ap (λ (x : ExceptionsValue). queue_by x c.args.index c.args.state) (sym c.self.view_is)) in (
      omega (arith, length-set c.self.inside.slots.items c.args.index c.args.state, h.0),
      h.1,
      h.2,
      h.3,
      tt,
      subst (λ n. AreIdleFrom n (set c.self.inside.slots.items c.args.index c.args.state)) (sym c.max-self-inside.ensures) (idle_written c.self.inside.idle_from c.args.index c.self.inside.slots.items c.args.state c.requires h.5),
      subst (λ (l : Linked). AreLinked (with_slot e c.args.index c.args.state) l) (sym is) (relinked e c.self.inside.ready c.args.index c.args.state h.0 c.requires h.6),
      omega (arith, h.7, c.from.ensures, c.from-2.ensures, active_written c.self.inside.slots.items c.args.index c.args.state c.index.result.now (omega (arith, c.requires, h.0)) c.index.ensures),
    )
