-- The registers of the SAU and of the MPUs (DDI0553, chapter D1.2) by their addresses, and their values at boot.
use Rattle.std.specs.Prelude.{ℕ, ◌+◌, ◌-◌, ◌*◌, ◌/◌, ◌%◌, ◌^◌, ◌==◌, if◌then◌else◌, List, [], ◌∷◌, ◌++◌, length, map, replicate, slice_get, slice_set, Option, Some, None}
use Rattle.tz_model.specs.declared.board.Profile.{Profile}
use Rattle.tz_model.specs.declared.board.Profile.TheVariants.{V80, V81}
use Rattle.tz_model.specs.declared.board.SauRegion.{SauRegion}
use Rattle.tz_model.specs.Board.{BoardValue}
use Rattle.tz_state.specs.declared.units.Bounds.{Bounds}
use Rattle.tz_state.specs.declared.units.SauRegister.{SauRegister}
use Rattle.tz_state.specs.declared.units.SauRegister.TheVariants as sau
use Rattle.tz_state.specs.declared.units.MpuRegister.{MpuRegister}
use Rattle.tz_state.specs.declared.units.MpuRegister.TheVariants as mpu
use Rattle.tz_state.specs.UnitBits.{sau_rlar_enable, sau_rlar_nsc}
use Rattle.tz_state.specs.Regions.{no_bounds}
use Rattle.tz_state.specs.Attribution.{SauState}
use Rattle.tz_state.specs.Protection.{MpuState}
use Rattle.tz_state.specs.Memory.{Memory}
use Rattle.tz_state.specs.State.{Bus}

-- ---- regions by number

abbrev pub given : Option Bounds → Bounds
given None = no_bounds
given (Some r) = r

-- (own) a region that isn't there reads zero
abbrev pub bounds_at : List Bounds → ℕ → Bounds
bounds_at rs k = given (slice_get rs k)

-- and takes no write
abbrev pub with_rbar : List Bounds → ℕ → ℕ → List Bounds
with_rbar rs k value = slice_set rs k (record (bounds_at rs k) { rbar = value })

abbrev pub with_rlar : List Bounds → ℕ → ℕ → List Bounds
with_rlar rs k value = slice_set rs k (record (bounds_at rs k) { rlar = value })

-- ---- the SAU

abbrev pub sau_register : ℕ → Option SauRegister
sau_register addr =
    if addr == 0xE000EDD0 then Some sau.Ctrl
    else if addr == 0xE000EDD4 then Some sau.Type
    else if addr == 0xE000EDD8 then Some sau.Rnr
    else if addr == 0xE000EDDC then Some sau.Rbar
    else if addr == 0xE000EDE0 then Some sau.Rlar
    else None

-- TYPE has the number of regions
abbrev pub sau_value : SauState → SauRegister → ℕ
sau_value u sau.Ctrl = u.ctrl
sau_value u sau.Type = length u.regions
sau_value u sau.Rnr = u.rnr
sau_value u sau.Rbar = (bounds_at u.regions u.rnr).rbar
sau_value u sau.Rlar = (bounds_at u.regions u.rnr).rlar

-- CTRL keeps ENABLE and ALLNS, RNR 8 bits, RBAR bits 31:5, RLAR these, NSC and ENABLE
abbrev pub with_sau_value : SauState → SauRegister → ℕ → SauState
with_sau_value u sau.Ctrl value = record u { ctrl = value % 4 }
with_sau_value u sau.Type value = u
with_sau_value u sau.Rnr value = record u { rnr = value % 256 }
with_sau_value u sau.Rbar value = record u { regions = with_rbar u.regions u.rnr (value / 32 * 32) }
with_sau_value u sau.Rlar value = record u { regions = with_rlar u.regions u.rnr (value / 32 * 32 + value % 4) }

-- an address that isn't a register's reads zero and takes no write
abbrev pub sau_read : SauState → Option SauRegister → ℕ
sau_read u None = 0
sau_read u (Some register) = sau_value u register

abbrev pub sau_written : SauState → Option SauRegister → ℕ → SauState
sau_written u None value = u
sau_written u (Some register) value = with_sau_value u register value

-- ---- an MPU

abbrev pub mpu_register : ℕ → Option MpuRegister
mpu_register addr =
    if addr == 0xE000ED90 then Some mpu.Type
    else if addr == 0xE000ED94 then Some mpu.Ctrl
    else if addr == 0xE000ED98 then Some mpu.Rnr
    else if addr == 0xE000ED9C then Some (mpu.Rbar 0)
    else if addr == 0xE000EDA0 then Some (mpu.Rlar 0)
    else if addr == 0xE000EDA4 then Some (mpu.Rbar 1)
    else if addr == 0xE000EDA8 then Some (mpu.Rlar 1)
    else if addr == 0xE000EDAC then Some (mpu.Rbar 2)
    else if addr == 0xE000EDB0 then Some (mpu.Rlar 2)
    else if addr == 0xE000EDB4 then Some (mpu.Rbar 3)
    else if addr == 0xE000EDB8 then Some (mpu.Rlar 3)
    else if addr == 0xE000EDC0 then Some mpu.Mair0
    else if addr == 0xE000EDC4 then Some mpu.Mair1
    else None

-- the region of RNR, or that with its low two bits replaced
abbrev pub selected : MpuState → ℕ → ℕ
selected m alias = if alias == 0 then m.rnr else m.rnr / 4 * 4 + alias

-- TYPE has the number of regions in bits 15:8
abbrev pub mpu_value : MpuState → MpuRegister → ℕ
mpu_value m mpu.Type = length m.regions * 256
mpu_value m mpu.Ctrl = m.ctrl
mpu_value m mpu.Rnr = m.rnr
mpu_value m (mpu.Rbar alias) = (bounds_at m.regions (selected m alias)).rbar
mpu_value m (mpu.Rlar alias) = (bounds_at m.regions (selected m alias)).rlar
mpu_value m mpu.Mair0 = m.mair0
mpu_value m mpu.Mair1 = m.mair1

-- the bits of RLAR: PXN only on the profile that has it
abbrev pub rlar_bits : Profile → ℕ → ℕ
rlar_bits V80 value = value / 32 * 32 + value % 16
rlar_bits V81 value = value

-- CTRL keeps three bits, RNR 8; RBAR and MAIR have all
abbrev pub with_mpu_value : Profile → MpuState → MpuRegister → ℕ → MpuState
with_mpu_value profile m mpu.Type value = m
with_mpu_value profile m mpu.Ctrl value = record m { ctrl = value % 8 }
with_mpu_value profile m mpu.Rnr value = record m { rnr = value % 256 }
with_mpu_value profile m (mpu.Rbar alias) value = record m { regions = with_rbar m.regions (selected m alias) value }
with_mpu_value profile m (mpu.Rlar alias) value =
    record m { regions = with_rlar m.regions (selected m alias) (rlar_bits profile value) }
with_mpu_value profile m mpu.Mair0 value = record m { mair0 = value }
with_mpu_value profile m mpu.Mair1 value = record m { mair1 = value }

abbrev pub mpu_read : MpuState → Option MpuRegister → ℕ
mpu_read m None = 0
mpu_read m (Some register) = mpu_value m register

abbrev pub mpu_written : Profile → MpuState → Option MpuRegister → ℕ → MpuState
mpu_written profile m None value = m
mpu_written profile m (Some register) value = with_mpu_value profile m register value

-- ---- at boot

-- a region of the SAU that the board starts with
abbrev pub bounds_of : SauRegion → Bounds
bounds_of r = record { rbar = r.base; rlar = r.limit / 32 * 32 + (if r.nsc then 2 ^ sau_rlar_nsc else 0) + 2 ^ sau_rlar_enable }

-- an SAU with so many regions is on where the board starts it with one at least
abbrev pub started : List SauRegion → ℕ
started [] = 0
started (r ∷ rs) = 1

unfoldable pub reset_sau : ℕ → List SauRegion → SauState
reset_sau count rs =
    record { ctrl = started rs; rnr = 0; regions = map bounds_of rs ++ replicate (count - length rs) no_bounds }

-- an MPU with so many regions is off
unfoldable pub reset_mpu : ℕ → MpuState
reset_mpu count = record { ctrl = 0; rnr = 0; mair0 = 0; mair1 = 0; regions = replicate count no_bounds }

-- the units that guard memory as they start: the SAU as the board says, and both MPUs off
abbrev pub reset_bus : BoardValue → Memory → Bus
reset_bus b m =
    record {
      sau = reset_sau b.sau_regions b.sau;
      mpu_s = reset_mpu b.mpu_secure;
      mpu_ns = reset_mpu b.mpu_nonsecure;
      monitor = None;
      memory = m;
      board = b;
    }
