-- The accesses of entries, of returns and of the return of a call: words of stacks and of vector tables.
use Rattle.std.specs.Prelude.{ℕ, Bool, Result}
use Rattle.tz_table.specs.declared.units.Side.{Side}
use Rattle.tz_model.specs.declared.report.Fault.{Fault}

-- the vector of an exception, of a side; a word that is read as Secure data with Secure privilege; a word of a
-- frame, read or written as data of a side
pub data FrameAccess : Type 0 where
  Vector : (number : ℕ) (side : Side) → FrameAccess
  SecureLoad : (addr : ℕ) → FrameAccess
  FrameLoad : (addr : ℕ) (side : Side) (privileged : Bool) → FrameAccess
  FrameStore : (addr : ℕ) (side : Side) (privileged : Bool) (value : ℕ) → FrameAccess

-- how what is held answers an access: it is left so, with the word that was read or the fault; a store that is made
-- reads 0
abbrev pub FrameAnswering : Type 0 → Type 0
FrameAnswering H = H → FrameAccess → H × Result ℕ Fault
