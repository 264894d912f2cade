-- CFSR, HFSR, MMFAR, BFAR, SFSR and SFAR (DDI0553, chapter D1.2).
use Rattle.std.specs.Prelude.{ℕ, ◌/◌, ◌%◌, ◌^◌, Bool, if◌then◌else◌, [], ◌∷◌, bit_and}
use Rattle.std.specs.Int.{w32, bit_not}
use Rattle.tz_table.specs.declared.units.Side.{Side}
use Rattle.tz_table.specs.declared.units.Side.TheVariants.{Secure, NonSecure}
use Rattle.tz_regs.specs.declared.parts.Status.{Status}
use Rattle.tz_regs.specs.declared.parts.SideStatus.{SideStatus}
use Rattle.tz_regs.specs.declared.parts.BusStatus.{BusStatus}
use Rattle.tz_regs.specs.declared.parts.SecurityStatus.{SecurityStatus}
use Rattle.tz_state.specs.declared.register.FaultRegister.{FaultRegister}
use Rattle.tz_state.specs.declared.register.FaultRegister.TheVariants.{Cfsr, Hfsr, Mmfar, Bfar, Sfsr, Sfar}
use Rattle.tz_state.specs.Pieces.{Field, word_of}
use Rattle.tz_state.specs.ControlRegisters.{sees_bus, sees_secure}

-- ---- the status of a side

abbrev pub own_status : Side → Status → SideStatus
own_status Secure c = c.s
own_status NonSecure c = c.ns

abbrev pub with_own_status : Side → Status → SideStatus → Status
with_own_status Secure c own = record c { s = own }
with_own_status NonSecure c own = record c { ns = own }

-- ---- what a view shows

abbrev pub if_bus : Side → Bool → ℕ → ℕ
if_bus side bfhfnmins value = if sees_bus side bfhfnmins then value else 0

abbrev pub if_secure : Side → ℕ → ℕ
if_secure side value = if sees_secure side then value else 0

-- MMFSR, BFSR and UFSR in one word
abbrev pub cfsr_of : ℕ → ℕ → ℕ → ℕ
cfsr_of mmfsr bfsr ufsr = word_of (Field 0 (mmfsr % 2 ^ 8) ∷ Field 8 (bfsr % 2 ^ 8) ∷ Field 16 (ufsr % 2 ^ 16) ∷ [])

abbrev pub fault_value : Side → Bool → Status → FaultRegister → ℕ
fault_value side bfhfnmins c Cfsr =
    cfsr_of (own_status side c).mmfsr (if_bus side bfhfnmins c.bus.bfsr) (own_status side c).ufsr
fault_value side bfhfnmins c Hfsr = if_bus side bfhfnmins c.bus.hfsr
fault_value side bfhfnmins c Mmfar = (own_status side c).mmfar
fault_value side bfhfnmins c Bfar = if_bus side bfhfnmins c.bus.bfar
fault_value side bfhfnmins c Sfsr = if_secure side c.security.sfsr
fault_value side bfhfnmins c Sfar = if_secure side c.security.sfar

-- ---- what a write leaves

-- ones clear
abbrev pub cleared : ℕ → ℕ → ℕ
cleared old ones = bit_and old (bit_not w32 ones)

abbrev pub with_bus_seen : Side → Bool → Status → BusStatus → Status
with_bus_seen side bfhfnmins c bus = record c { bus = if sees_bus side bfhfnmins then bus else c.bus }

abbrev pub with_security_seen : Side → Status → SecurityStatus → Status
with_security_seen side c security = record c { security = if sees_secure side then security else c.security }

abbrev pub cfsr_cleared : SideStatus → ℕ → SideStatus
cfsr_cleared own ones = record own { mmfsr = cleared own.mmfsr (ones % 2 ^ 8); ufsr = cleared own.ufsr (ones / 2 ^ 16) }

abbrev pub fault_written : Side → Bool → Status → FaultRegister → ℕ → Status
fault_written side bfhfnmins c Cfsr value =
    with_bus_seen side bfhfnmins (with_own_status side c (cfsr_cleared (own_status side c) value))
    (record c.bus { bfsr = cleared c.bus.bfsr (value / 2 ^ 8 % 2 ^ 8) })
fault_written side bfhfnmins c Hfsr value = with_bus_seen side bfhfnmins c (record c.bus { hfsr = cleared c.bus.hfsr value })
fault_written side bfhfnmins c Mmfar value = with_own_status side c (record (own_status side c) { mmfar = value })
fault_written side bfhfnmins c Bfar value = with_bus_seen side bfhfnmins c (record c.bus { bfar = value })
fault_written side bfhfnmins c Sfsr value = with_security_seen side c (record c.security { sfsr = cleared c.security.sfsr value })
fault_written side bfhfnmins c Sfar value = with_security_seen side c (record c.security { sfar = value })
