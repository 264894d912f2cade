-- Security attribution (DDI0553, `SecurityCheck`): how the SAU and the board attribute an address.
use Rattle.std.specs.Prelude.{ℕ, ◌+◌, ◌/◌, ◌%◌, ◌^◌, ◌==◌, Bool, true, false, ◌||◌, nat_le, if◌then◌else◌, List, [], ◌∷◌, Option, Some, None}
use Rattle.tz_table.specs.declared.units.Side.{Side}
use Rattle.tz_table.specs.declared.units.Side.TheVariants as sides
use Rattle.tz_model.specs.declared.board.Region.{Region}
use Rattle.tz_model.specs.declared.board.RegionSide.{RegionSide}
use Rattle.tz_model.specs.declared.board.RegionSide.TheVariants.{Secure, Nsc, NonSecure}
use Rattle.tz_model.specs.AddressMap.{private_first, itm_first, fpb_last, scs_first, scs_last, scs_ns_first, scs_ns_last, tpiu_first, etm_last, rom_table_first, rom_table_last, secure_code_first}
use Rattle.tz_model.specs.Board.{within, in_region, is_nonsecure, is_callable}
use Rattle.tz_state.specs.declared.units.Bounds.{Bounds}
use Rattle.tz_state.specs.declared.units.Attribute.{Attribute}
use Rattle.tz_state.specs.UnitBits.{sau_ctrl_allns, sau_rlar_nsc}
use Rattle.tz_state.specs.Regions.{holding, the_only}

-- the SAU: CTRL, RNR and its regions
pub record SauState : Type 0 where
  pub ctrl : ℕ
  pub rnr : ℕ
  pub regions : List Bounds

-- what decides the attribution of an address: the board's regions, which are the IDAU, and the SAU
pub record MapState : Type 0 where
  pub regions : List Region
  pub sau : SauState

-- the more secure of two attributions
abbrev pub more_secure : RegionSide → RegionSide → RegionSide
more_secure Secure other = Secure
more_secure Nsc Secure = Secure
more_secure Nsc Nsc = Nsc
more_secure Nsc NonSecure = Nsc
more_secure NonSecure other = other

-- an address that has the state of who asks for it
abbrev pub own_side : Side → RegionSide
own_side sides.Secure = Secure
own_side sides.NonSecure = NonSecure

-- ---- the SAU

-- CTRL.ENABLE and CTRL.ALLNS
abbrev pub is_sau_on : SauState → Bool
is_sau_on u = u.ctrl % 2 == 1

abbrev pub is_all_nonsecure : SauState → Bool
is_all_nonsecure u = u.ctrl / 2 ^ sau_ctrl_allns % 2 == 1

-- RLAR.NSC
abbrev pub is_nsc : Bounds → Bool
is_nsc r = r.rlar / 2 ^ sau_rlar_nsc % 2 == 1

-- the side by the regions that hold an address: where none or several do, Secure
abbrev pub side_by_regions : List (ℕ × Bounds) → RegionSide
side_by_regions [] = Secure
side_by_regions (r ∷ []) = if is_nsc r.1 then Nsc else NonSecure
side_by_regions (r ∷ q ∷ more) = Secure

-- the SAU's word on an address; where it is off, one word for all
unfoldable pub sau_side : SauState → ℕ → RegionSide
sau_side u a =
    if is_sau_on u then side_by_regions (holding 0 u.regions a)
    else if is_all_nonsecure u then NonSecure
    else Secure

-- the one region of the SAU that holds an address
unfoldable pub sau_region : SauState → ℕ → Option ℕ
sau_region u a = if is_sau_on u then the_only (holding 0 u.regions a) else None

-- ---- the board

-- (own) the board's word on an address, which is Non-secure outside all regions
unfoldable pub idau_side : List Region → ℕ → RegionSide
idau_side [] a = NonSecure
idau_side (r ∷ rs) a = if in_region r a then r.side else idau_side rs a

-- the number of the region that holds an address, the first of which is k
unfoldable pub idau_region : ℕ → List Region → ℕ → Option ℕ
idau_region k [] a = None
idau_region k (r ∷ rs) a = if in_region r a then Some k else idau_region (k + 1) rs a

-- ---- both

unfoldable pub mapped_side : MapState → ℕ → RegionSide
mapped_side m a = more_secure (sau_side m.sau a) (idau_side m.regions a)

-- data at these addresses of the private peripheral space has the state of who asks for it
abbrev pub is_exempt : ℕ → Bool
is_exempt a =
    within itm_first fpb_last a || (within scs_first scs_last a || (within scs_ns_first scs_ns_last a
    || (within tpiu_first etm_last a || within rom_table_first rom_table_last a)))

-- the attribution of an address as data
unfoldable pub data_attribution : MapState → Side → ℕ → RegionSide
data_attribution m side a = if is_exempt a then own_side side else mapped_side m a

-- the attribution of an address as code
unfoldable pub fetch_attribution : MapState → Side → ℕ → RegionSide
fetch_attribution m side a =
    if nat_le secure_code_first a then Secure else if nat_le private_first a then own_side side else mapped_side m a

-- the attribution of an address, as code or as data
abbrev pub attributed : MapState → Bool → Side → ℕ → RegionSide
attributed m true side a = fetch_attribution m side a
attributed m false side a = data_attribution m side a

-- an address whose attribution neither the SAU nor the board decides
abbrev pub has_fixed_attribution : Bool → ℕ → Bool
has_fixed_attribution true a = nat_le private_first a
has_fixed_attribution false a = is_exempt a

-- callable memory is Secure memory
abbrev pub side_told : RegionSide → Side
side_told Secure = sides.Secure
side_told Nsc = sides.Secure
side_told NonSecure = sides.NonSecure

-- the whole word on an address; (own) a region of the SAU is told also where the board makes the address more
-- secure
unfoldable pub attribution : MapState → Bool → Side → ℕ → Attribute
attribution m fetch side a =
    record {
      side = side_told (attributed m fetch side a);
      callable = is_callable (attributed m fetch side a);
      sregion = if has_fixed_attribution fetch a then None else sau_region m.sau a;
      iregion = idau_region 0 m.regions a;
    }

-- Non-secure code may read the byte
unfoldable pub is_open : MapState → ℕ → Bool
is_open m a = is_nonsecure (data_attribution m sides.NonSecure a)
