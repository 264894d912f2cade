-- The least priority of what was active, with one more place.
use Rattle.std.proofs.Common.{◌≡◌, ℕ, ◌+◌, min, if◌then◌else◌, refl, add-one}
use Rattle.tz_state.specs.Slots.{ExceptionsValue}
use Rattle.tz_state.specs.Priority.{priority_of}
use Rattle.tz_full.specs.Escalation.{was_active, active_before}

pub active_more : (e : ExceptionsValue) (taken k : ℕ) →
    active_before e taken (k + 1) ≡ (if was_active e taken k then min (priority_of e k) (active_before e taken k) else active_before e taken k)
unfolding active_before
active_more e taken k = rw add-one refl
