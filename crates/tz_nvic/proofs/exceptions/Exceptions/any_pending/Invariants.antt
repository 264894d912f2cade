use Rattle.std.proofs.Common.{◌≡◌, ◌+◌}
use Rattle.tz_state.specs.Slots.{at}
use Rattle.tz_state.specs.Pieces.{any_below}
use Rattle.tz_nvic.proofs.exceptions.Exceptions.any_pending.Given as goal

abbrev pub invariant-loop-n : goal.invariant-loop-n
invariant-loop-n l = l.found ≡ any_below (λ n. (at l.self (32 + n)).pending) l.n
