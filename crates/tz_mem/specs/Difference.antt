-- Where two memories differ.
use Rattle.std.specs.Prelude.{◌≡◌, ℕ, zero, suc, ◌+◌, Bool, false, ◌||◌, is_some, List, slice_index_or}
use Rattle.std.specs.FinMap.{get}
use Rattle.tz_model.specs.declared.board.Region.{Region}
use Rattle.tz_model.specs.declared.board.RegionKind.TheVariants.{Rom}
use Rattle.tz_model.specs.declared.board.RegionSide.TheVariants.{Secure}
use Rattle.tz_state.specs.Access.{is_mapped}
use Rattle.tz_mem.specs.Values.{MemoryValue}

-- some of n addresses from a on passes a test
unfoldable pub some_from : (ℕ → Bool) → ℕ → ℕ → Bool
some_from p a zero = false
some_from p a (suc n) = p a || some_from p (a + 1) n

-- the region of a number
abbrev pub region_at : List Region → ℕ → Region
region_at rs i = slice_index_or rs i (record { base = 0; size = 0; kind = Rom; side = Secure })

-- memory has a byte at exactly the addresses of its regions
pub record IsFilled (m : MemoryValue) : Type 0 where
  pub there : (a : ℕ) → is_some (get m.bytes a) ≡ is_mapped m.regions a
