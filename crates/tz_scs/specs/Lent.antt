-- What the system registers are lent, and what a core is with what they leave.
use Rattle.std.specs.Prelude.{◌≡◌}
use Rattle.tz_state.specs.SystemRegisters.{SystemState}
use Rattle.tz_state.specs.State.{State}
use Rattle.tz_scs.specs.declared.system.System.{System}
use Rattle.tz_scs.specs.declared.system.SystemRegisters.{SystemRegisters}

-- ---- the parts that the registers stand in

abbrev pub state_of : SystemRegisters → SystemState
state_of r = record { ipsr = r.ipsr; status = r.status.now; exceptions = r.exceptions.now; bus = r.bus.now.state }

-- the same is lent, for the same exception
abbrev pub SameLoans : SystemRegisters → SystemRegisters → Type 0
SameLoans r r' =
    (r.ipsr ≡ r'.ipsr)
    × (r.status.ghost_name ≡ r'.status.ghost_name)
    × (r.exceptions.ghost_name ≡ r'.exceptions.ghost_name)
    × (r.bus.ghost_name ≡ r'.bus.ghost_name)

-- ---- a whole core

abbrev pub machine_of : System → State
machine_of s = record { core = s.core.now; exceptions = s.exceptions.now; bus = s.bus.now.state }

abbrev pub SameSystem : System → System → Type 0
SameSystem s s' =
    (s.core.ghost_name ≡ s'.core.ghost_name)
    × (s.exceptions.ghost_name ≡ s'.exceptions.ghost_name)
    × (s.bus.ghost_name ≡ s'.bus.ghost_name)

abbrev pub system_of : State → SystemState
system_of m = record { ipsr = m.core.registers.ipsr; status = m.core.status; exceptions = m.exceptions; bus = m.bus }

-- a machine with its system registers as given, and the rest of the core as it was
abbrev pub with_system : State → SystemState → State
with_system m s = record { core = record m.core { status = s.status }; exceptions = s.exceptions; bus = s.bus }
