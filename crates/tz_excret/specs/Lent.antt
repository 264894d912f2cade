-- What the work of an entry or a return stands for, and what it is lent.
use Rattle.std.specs.Prelude.{◌≡◌}
use Rattle.tz_frames.specs.declared.entering.Entering.{Entering}
use Rattle.tz_frames.specs.declared.leaving.Left.{Left}
use Rattle.tz_frames.specs.Enter.{Work}
use Rattle.tz_frames.specs.Leave.{Leaving}
use Rattle.tz_excret.specs.declared.work.Work as lent

-- the work as it stands, of an entry
abbrev pub work_of : {P H : Type 0} → (P → H) → lent.Work P → Entering → Work H
work_of held w entry = record { core = w.core.now; exceptions = w.exceptions.now; held = held w.port.now; entry = entry }

-- and as a return has left it
abbrev pub left_by : {P H : Type 0} → (P → H) → lent.Work P → Left → Leaving H
left_by held w left = record { core = w.core.now; exceptions = w.exceptions.now; held = held w.port.now; result = left }

-- the same is lent, on the same profile
abbrev pub SameLoans : {P : Type 0} → lent.Work P → lent.Work P → Type 0
SameLoans w w' =
    (w.core.ghost_name ≡ w'.core.ghost_name)
    × (w.exceptions.ghost_name ≡ w'.exceptions.ghost_name)
    × (w.port.ghost_name ≡ w'.port.ghost_name)
    × (w.profile ≡ w'.profile)
