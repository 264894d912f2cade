use Rattle.tz_nvic.specs.Viewed.{value_of}
use Rattle.tz_nvic.proofs.Timers.{known_with_timers}
use Rattle.tz_nvic.proofs.exceptions.Exceptions.put_timer.Goals as goal

pub invariant_of-self : goal.invariant_of-self
invariant_of-self c =
    let h = c.self.invariant in
    (h.0, h.1, h.2, h.3, known_with_timers (value_of c.self.inside) c.args.timer c.self.inside.timer_ns c.self.inside.known h.4, h.5, record { many = h.6.many; each = h.6.each }, h.7)

pub invariant_of-self-in-NonSecure : goal.invariant_of-self-in-NonSecure
invariant_of-self-in-NonSecure c =
    let h = c.self.invariant in
    (h.0, h.1, h.2, h.3, known_with_timers (value_of c.self.inside) c.self.inside.timer_s c.args.timer c.self.inside.known h.4, h.5, record { many = h.6.many; each = h.6.each }, h.7)
