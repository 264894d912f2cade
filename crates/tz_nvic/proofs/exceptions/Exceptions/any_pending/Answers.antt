-- What is behind them is idle.
use Rattle.std.proofs.Common.{◌≡◌, ◌+◌, ◌-◌, min, ap, sym, subst, ◌∙◌, arith}
use Rattle.tz_state.specs.Slots.{ExceptionsValue, at}
use Rattle.tz_state.specs.Pieces.{any_below}
use Rattle.tz_nvic.specs.Viewed.{AreIdleFrom}
use Rattle.tz_nvic.proofs.Beyond.{any_pending_below}
use Rattle.tz_nvic.proofs.exceptions.Exceptions.any_pending.Goals as goal

pub returns : goal.returns
returns c =
    let idle_from = c.self.inside.idle_from in
    let last : c.loop-n.n ≡ c.min-n-end.result = omega arith in
    let busy : c.saturating_sub-count.result ≡ idle_from - 32 = omega (arith, c.saturating_sub-count.ensures) in
    let all : c.from.result ≡ c.args.self.now.interrupts = omega (arith, c.from.ensures, ap (λ (v : ExceptionsValue). v.interrupts) c.self.view_is) in
    let end = last ∙ c.min-n-end.ensures ∙ ap (λ x. min x c.from.result) busy ∙ ap (min (idle_from - 32)) all in
    c.loop-n.invariant
    ∙ ap (any_below (λ i. (at c.args.self.now (32 + i)).pending)) end
    ∙ sym (any_pending_below c.args.self.now idle_from (subst (λ (v : ExceptionsValue). AreIdleFrom idle_from v.slots) c.self.view_is c.self.invariant.5))
