-- Memory protection (DDI0553, `MPUCheck`): what an MPU permits.
use Rattle.std.specs.Prelude.{ℕ, ◌/◌, ◌%◌, ◌^◌, ◌==◌, Bool, true, false, not, ◌&&◌, ◌||◌, nat_le, if◌then◌else◌, List, [], ◌∷◌, Option, Some, None}
use Rattle.std.specs.Option.{is_some}
use Rattle.tz_model.specs.declared.board.Profile.{Profile}
use Rattle.tz_model.specs.declared.board.Profile.TheVariants.{V80, V81}
use Rattle.tz_model.specs.AddressMap.{peripheral_first, peripheral_last, device_first}
use Rattle.tz_model.specs.Board.{within}
use Rattle.tz_state.specs.declared.units.Bounds.{Bounds}
use Rattle.tz_state.specs.declared.request.Kind.{Kind}
use Rattle.tz_state.specs.declared.request.Kind.TheVariants.{Read, Write, Fetch}
use Rattle.tz_state.specs.UnitBits.{mpu_ctrl_hfnmiena, mpu_ctrl_privdefena, mpu_rbar_ap_0, mpu_rbar_ap_1, mpu_rlar_pxn}
use Rattle.tz_state.specs.Regions.{holding, the_only}

-- an MPU: CTRL, RNR, both MAIRs, which have no effect, and its regions
pub record MpuState : Type 0 where
  pub ctrl : ℕ
  pub rnr : ℕ
  pub mair0 : ℕ
  pub mair1 : ℕ
  pub regions : List Bounds

-- CTRL.ENABLE, CTRL.HFNMIENA and CTRL.PRIVDEFENA
abbrev pub is_mpu_enabled : MpuState → Bool
is_mpu_enabled m = m.ctrl % 2 == 1

abbrev pub is_on_in_faults : MpuState → Bool
is_on_in_faults m = m.ctrl / 2 ^ mpu_ctrl_hfnmiena % 2 == 1

abbrev pub has_privileged_default : MpuState → Bool
has_privileged_default m = m.ctrl / 2 ^ mpu_ctrl_privdefena % 2 == 1

-- at a negative execution priority an MPU is off unless HFNMIENA is set
abbrev pub is_mpu_on : MpuState → Bool → Bool
is_mpu_on m negative = is_mpu_enabled m && (is_on_in_faults m || not negative)

-- the default map lets code run everywhere but here
abbrev pub is_executable : ℕ → Bool
is_executable a = not (within peripheral_first peripheral_last a || nat_le device_first a)

-- what the default map permits
abbrev pub default_permits : Kind → ℕ → Bool
default_permits Read a = true
default_permits Write a = true
default_permits Fetch a = is_executable a

-- RBAR.AP: bit 0, unprivileged code too; bit 1, reads alone
abbrev pub may_read : Bounds → Bool → Bool
may_read r privileged = privileged || r.rbar / 2 ^ mpu_rbar_ap_0 % 2 == 1

abbrev pub may_write : Bounds → Bool → Bool
may_write r privileged = may_read r privileged && r.rbar / 2 ^ mpu_rbar_ap_1 % 2 == 0

-- RLAR.PXN, which the profile `V80` doesn't have
abbrev pub has_pxn : Profile → Bounds → Bool
has_pxn V80 r = false
has_pxn V81 r = r.rlar / 2 ^ mpu_rlar_pxn % 2 == 1

-- RBAR.XN: no code runs here; PXN: no privileged code
abbrev pub may_run : Profile → Bounds → Bool → Bool
may_run profile r privileged = may_read r privileged && (r.rbar % 2 == 0 && not (privileged && has_pxn profile r))

abbrev pub region_permits : Profile → Bounds → Kind → Bool → Bool
region_permits profile r Read privileged = may_read r privileged
region_permits profile r Write privileged = may_write r privileged
region_permits profile r Fetch privileged = may_run profile r privileged

-- by the enabled regions that hold an address: the one that permits it, or none for the default map; several
-- permit nothing
abbrev pub permission_by : Profile → MpuState → Kind → Bool → ℕ → List (ℕ × Bounds) → Option (Option ℕ)
permission_by profile m kind privileged a [] =
    if privileged && has_privileged_default m && default_permits kind a then Some None else None
permission_by profile m kind privileged a (r ∷ []) = if region_permits profile r.1 kind privileged then Some (Some r.0) else None
permission_by profile m kind privileged a (r ∷ q ∷ more) = None

-- whether an MPU permits a byte of an access, and by which region
unfoldable pub permission : Profile → MpuState → ℕ → Kind → Bool → Bool → Option (Option ℕ)
permission profile m a kind privileged negative =
    if is_mpu_on m negative then permission_by profile m kind privileged a (holding 0 m.regions a)
    else if default_permits kind a then Some None
    else None

abbrev pub permits : Profile → MpuState → ℕ → Kind → Bool → Bool → Bool
permits profile m a kind privileged negative = is_some (permission profile m a kind privileged negative)

-- the one region of an MPU that is on which holds an address
unfoldable pub mpu_region : MpuState → ℕ → Bool → Option ℕ
mpu_region m a negative = if is_mpu_on m negative then the_only (holding 0 m.regions a) else None
