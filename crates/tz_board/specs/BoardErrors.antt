-- The errors of the board reader beside the refusals of the grammar.
use Rattle.std.specs.Prelude.{◌≡◌, ◌≤◌, IsTrue, Option, Some, None, Err}
use Rattle.tz_model.specs.Board.{is_vtor, within}
use Rattle.tz_board.specs.Boards.{Key as FileKey, SecureVtor, NonsecureVtor, Interrupts, SauRegions, MpuSecure, MpuNonsecure, Profile, Mover, Region, Base, Size, Kind, Side, Sau, Limit, Nsc, Place as FilePlace, Top, InRegion, InSau, BoardRefusal, NotToml, Missing, WrongKind, Range, TooMany, Overlap, Read, Numbers as NumbersValue}
use Rattle.tz_board.specs.declared.board.Numbers.{Numbers}
use Rattle.tz_board.specs.declared.error.Key.{Key}
use Rattle.tz_board.specs.declared.error.Key.TheVariants as keys
use Rattle.tz_board.specs.declared.error.Place.{Place}
use Rattle.tz_board.specs.declared.error.Place.TheVariants as places
use Rattle.tz_board.specs.declared.error.BoardError.{BoardError}
use Rattle.tz_board.specs.declared.error.BoardError.TheVariants as errors

-- a key as the grammar has it
abbrev pub key_of : Key → FileKey
key_of keys.SecureVtor = SecureVtor
key_of keys.NonsecureVtor = NonsecureVtor
key_of keys.Interrupts = Interrupts
key_of keys.SauRegions = SauRegions
key_of keys.MpuSecure = MpuSecure
key_of keys.MpuNonsecure = MpuNonsecure
key_of keys.Profile = Profile
key_of keys.Mover = Mover
key_of keys.Region = Region
key_of keys.Base = Base
key_of keys.Size = Size
key_of keys.Kind = Kind
key_of keys.Side = Side
key_of keys.Sau = Sau
key_of keys.Limit = Limit
key_of keys.Nsc = Nsc

-- a place as the grammar has it
abbrev pub place_of : Place → FilePlace
place_of (places.Top key) = Top (key_of key)
place_of (places.Region index key) = InRegion index (key_of key)
place_of (places.Sau index key) = InSau index (key_of key)

-- the refusal that an error tells; want of memory tells none
abbrev pub refusal_of : BoardError → Option BoardRefusal
refusal_of errors.NotToml = Some NotToml
refusal_of (errors.Missing place) = Some (Missing (place_of place))
refusal_of (errors.WrongKind place) = Some (WrongKind (place_of place))
refusal_of (errors.Range place) = Some (Range (place_of place))
refusal_of (errors.Overlap i j) = Some (Overlap i j)
refusal_of errors.TooMany = Some TooMany
refusal_of errors.Memory = None

-- what was read is this refusal, where there is one
abbrev pub IsTold : {A : Type 0} → Option BoardRefusal → Read A → Type 0
IsTold None read = Unit {0}
IsTold (Some refusal) read = read ≡ Err refusal

-- the error is the refusal of what was read, or want of memory
abbrev pub IsBoardRefusal : {A : Type 0} → BoardError → Read A → Type 0
IsBoardRefusal e read = IsTold (refusal_of e) read

-- the numbers of a board file as its grammar has them
abbrev pub numbers_of : Numbers → NumbersValue
numbers_of n = record {
  secure_vtor = n.secure_vtor;
  nonsecure_vtor = n.nonsecure_vtor;
  interrupts = n.interrupts;
  sau_regions = n.sau_regions;
  mpu_secure = n.mpu_secure;
  mpu_nonsecure = n.mpu_nonsecure;
}

-- the numbers are within their ranges
pub record AreWithin (n : Numbers) : Type 0 where
  pub secure_vtor : IsTrue (is_vtor n.secure_vtor)
  pub nonsecure_vtor : IsTrue (is_vtor n.nonsecure_vtor)
  pub interrupts : IsTrue (within 1 240 n.interrupts)
  pub sau_regions : n.sau_regions ≤ 8
  pub mpu_secure : n.mpu_secure ≤ 16
  pub mpu_nonsecure : n.mpu_nonsecure ≤ 16
