-- Integrity: the walk over a step of twins, of a state beside itself.
use Rattle.std.proofs.Common.{◌≡◌, Bool, true, false, List, refl, ◌∙◌}
use Rattle.tz_model.specs.declared.report.ScriptEvent.{ScriptEvent}
use Rattle.tz_model.specs.Words.{is_nonsecure_side}
use Rattle.tz_state.specs.Due.{begun}
use Rattle.tz_regs.specs.Registers.{before_in}
use Rattle.tz_state.specs.State.{State, side_of, map_of, with_exceptions}
use Rattle.tz_sem.specs.Ended.{Ended}
use Rattle.tz_sem.specs.Step.{ended, started, stepped, step}
use Rattle.tz_twin.specs.Integrity.{Keeps, CountsAlone, WayIn}
use Rattle.tz_twin.proofs.Bytes.{keeps_then}
use Rattle.tz_twin.proofs.Split.{by_join, twins_of_seen}
use Rattle.tz_twin.proofs.Slots.{then, begun_kept}
use Rattle.tz_twin.proofs.Moves.{MovesKept, moves_kept}
use Rattle.tz_twin.proofs.Both.{Kept, Both, Go, Stop, Touch}
use Rattle.tz_twin.proofs.Stepping.{twin_ended}

apart : (t : Bool) → t ≡ true → t ≡ false → ⊥
apart true e f = cc
apart false e f = cc

keeps_both : (s : State) (e : Ended) → Both s s e e → e.ending.touched ≡ false → Kept s e.state
keeps_both s e (Go h) untouched = h.kept
keeps_both s e (Stop h h') untouched = h.kept untouched
keeps_both s e (Touch before before' alike h h' a a') untouched = absurd (apart e.ending.touched h.touched untouched)

arrives_both : (s : State) (e : Ended) → Both s s e e → is_nonsecure_side (side_of e.state) ≡ false → e.state.core.run.locked ≡ false → WayIn s (stepped (before_in s.core) e) e.ending.cause
arrives_both s e (Go h) secure unlocked = absurd (apart (is_nonsecure_side (side_of e.state)) h.twins.runs secure)
arrives_both s e (Stop h h') secure unlocked = absurd (apart e.state.core.run.locked h.locked unlocked)
arrives_both s e (Touch before before' alike h h' a a') secure unlocked = a secure unlocked

itself : (s : State) → is_nonsecure_side (side_of s) ≡ true → Both s s (ended s) (ended s)
itself s is = twin_ended s s (twins_of_seen s s refl is)

-- what a step of Non-secure code begins with keeps all of the Secure side but for the timer
pub begins_kept : (s : State) (events : List ScriptEvent) → is_nonsecure_side (side_of s) ≡ true → MovesKept (with_exceptions s (begun s.exceptions events)) (started s events)
begins_kept s events is =
    by_join (λ r r'. MovesKept (with_exceptions r (begun r.exceptions events)) (started r events))
    (λ o x x' same. moves_kept (record o { exceptions = begun o.exceptions events }) x x' (record { bytes = same.bytes; bus = same.bus })) s s (twins_of_seen s s refl is)

-- and it counts
kept_from : (s : State) (events : List ScriptEvent) (r : State) → is_nonsecure_side (side_of s) ≡ true → Kept (started s events) r → Keeps s r × CountsAlone s r
kept_from s events r is k = let began = begins_kept s events is in (
  record {
    bytes = keeps_then (map_of s) s.bus.memory (started s events).bus.memory r.bus.memory began.bytes k.keeps.bytes;
    stacks = k.keeps.stacks;
    masks = k.keeps.masks;
    status = k.keeps.status ∙ began.status;
    exceptions = then s.exceptions (begun s.exceptions events) r.exceptions (begun_kept s.exceptions events)
        (then (begun s.exceptions events) (started s events).exceptions r.exceptions began.exceptions k.keeps.exceptions);
    sau = k.keeps.sau;
    mpu = k.keeps.mpu;
    board = k.keeps.board;
  },
  k.timer,
)

pub leaves_secure : (s : State) (events : List ScriptEvent) → is_nonsecure_side (side_of s) ≡ true → (ended (started s events)).ending.touched ≡ false
    → Keeps s (ended (started s events)).state × CountsAlone s (ended (started s events)).state
leaves_secure s events is untouched =
    let r = started s events in kept_from s events (ended r).state is (keeps_both r (ended r) (itself r is) untouched)

pub enters_secure : (s : State) (events : List ScriptEvent) → is_nonsecure_side (side_of s) ≡ true → is_nonsecure_side (side_of (ended (started s events)).state) ≡ false
    → (ended (started s events)).state.core.run.locked ≡ false → WayIn (started s events) (step s events) (ended (started s events)).ending.cause
enters_secure s events is secure unlocked =
    let r = started s events in arrives_both r (ended r) (itself r is) secure unlocked
