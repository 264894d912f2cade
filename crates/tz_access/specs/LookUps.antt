-- Look-ups that are kept: what the units say of a block of 32 bytes to who asks. While they are kept, it is what the
-- definitions say.
use Rattle.std.specs.Prelude.{◌≡◌, ℕ, ◌/◌, ◌%◌, ◌^◌, ◌<◌, Bool, true, false, List, Option, None, Some, slice_index_or}
use Rattle.tz_table.specs.declared.units.Side.{Side}
use Rattle.tz_table.specs.declared.units.Side.TheVariants.{Secure, NonSecure}
use Rattle.tz_model.specs.declared.board.Profile.{Profile}
use Rattle.tz_model.specs.Board.{BoardValue}
use Rattle.tz_regs.specs.Banks.{of_side}
use Rattle.tz_state.specs.declared.request.Kind.{Kind}
use Rattle.tz_state.specs.declared.request.Kind.TheVariants.{Read, Write, Fetch}
use Rattle.tz_state.specs.Attribution.{MapState, SauState, is_open}
use Rattle.tz_state.specs.Protection.{MpuState, permits}
use Rattle.tz_state.specs.Fetch.{is_own_byte}
use Rattle.tz_state.specs.State.{Bus}
use Rattle.tz_access.specs.declared.look_up.Who.{Who}
use Rattle.tz_access.specs.declared.look_up.LookUp.{LookUp}
use Rattle.tz_access.specs.Keys.{who_of}

-- what guards memory: what decides the attribution of an address, and both MPUs with the profile whose rules they
-- follow
pub record Guards : Type 0 where
  pub map : MapState
  pub profile : Profile
  pub mpu_s : MpuState
  pub mpu_ns : MpuState

abbrev pub guards_by : BoardValue → SauState → MpuState → MpuState → Guards
guards_by board sau mpu_s mpu_ns =
    record { map = record { regions = board.regions; sau = sau }; profile = board.profile; mpu_s = mpu_s; mpu_ns = mpu_ns }

abbrev pub guards_of : Bus → Guards
guards_of b = guards_by b.board b.sau b.mpu_s b.mpu_ns

-- attribution lets code of a side have a byte as data: Secure code all, Non-secure code what is Non-secure
abbrev pub admits_data : Side → MapState → ℕ → Bool
admits_data Secure m a = true
admits_data NonSecure m a = is_open m a

-- attribution lets a side have a byte: to fetch it, what is its own
abbrev pub admits_by : Bool → MapState → Side → ℕ → Bool
admits_by true m side a = is_own_byte m side a
admits_by false m side a = admits_data side m a

abbrev pub admits : Guards → Who → ℕ → Bool
admits g who a = admits_by who.fetch g.map who.side a

-- the MPU of the side that asks permits a byte
abbrev pub grants : Guards → Kind → Who → ℕ → Bool
grants g kind who a = permits g.profile (of_side who.side g.mpu_s g.mpu_ns) a kind who.privileged who.negative

-- what a look-up says of a byte
abbrev pub Tells : Guards → Who → ℕ → LookUp → Type 0
Tells g who a k =
    (k.admitted ≡ admits g who a) × (k.permitted.read ≡ grants g Read who a) × (k.permitted.write ≡ grants g Write who a)
    × (k.permitted.execute ≡ grants g Fetch who a)

-- a look-up tells what the definitions say of each byte of its block
pub record IsSeen (g : Guards) (k : LookUp) : Type 0 where
  pub block : k.block < 2 ^ 27
  pub tells : (a : ℕ) → a / 32 ≡ k.block → Tells g (who_of k.key) a k

-- each look-up that is kept does, and stands at the place of its block
pub record AreSeen (g : Guards) (places : List (Option LookUp)) : Type 0 where
  pub place : (index : ℕ) (k : LookUp) → slice_index_or places index None ≡ Some k → k.block % 16 ≡ index
  pub seen : (index : ℕ) (k : LookUp) → slice_index_or places index None ≡ Some k → IsSeen g k
