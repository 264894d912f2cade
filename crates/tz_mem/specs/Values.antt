-- Memory as a value, why a write is refused, and what a fetch reads.
use Rattle.std.specs.Prelude.{◌≡◌, ℕ, ◌+◌, true, false, List, Option, Some, None}
use Rattle.tz_table.specs.declared.units.Size.{Size}
use Rattle.tz_table.specs.declared.units.Size.TheVariants.{Half}
use Rattle.tz_model.specs.Words.{wrap}
use Rattle.tz_model.specs.declared.board.Region.{Region}
use Rattle.tz_state.specs.Memory as bytes
use Rattle.tz_state.specs.Memory.{every, half_at}
use Rattle.tz_state.specs.Access.{is_mapped, is_writable}
use Rattle.tz_mem.specs.declared.error.Refused.{Refused}
use Rattle.tz_mem.specs.declared.error.Refused.TheVariants.{NotMapped, ReadOnly}

-- the regions, and the bytes that they have
pub record MemoryValue : Type 0 where
  pub regions : List Region
  pub bytes : bytes.Memory

-- memory with other bytes
abbrev pub with_bytes : MemoryValue → bytes.Memory → MemoryValue
with_bytes m bs = record m { bytes = bs }

-- a write is refused where some byte isn't mapped, and else where some byte doesn't take writes
abbrev pub IsRefusal : Refused → List Region → ℕ → Size → Type 0
IsRefusal NotMapped rs a size = every (is_mapped rs) a size ≡ false
IsRefusal ReadOnly rs a size = (every (is_mapped rs) a size ≡ true) × (every (is_writable rs) a size ≡ false)

-- the halfword after a first one, where regions hold both its bytes
abbrev pub IsSecond : MemoryValue → ℕ → Option ℕ → Type 0
IsSecond m a None = every (is_mapped m.regions) a Half ≡ false
IsSecond m a (Some second) = (every (is_mapped m.regions) a Half ≡ true) × (second ≡ half_at m.bytes a)

-- what a fetch at an address reads: a halfword, and the one after it
pub record IsCode (m : MemoryValue) (a first : ℕ) (second : Option ℕ) : Type 0 where
  pub mapped : every (is_mapped m.regions) a Half ≡ true
  pub first_is : first ≡ half_at m.bytes a
  pub second_is : IsSecond m (wrap (a + 2)) second
