-- Boards as values, and what every board meets.
use Rattle.std.specs.Prelude.{ℕ, ◌+◌, ◌-◌, ◌%◌, ◌^◌, ◌==◌, Bool, true, false, ◌&&◌, ◌||◌, nat_le, nat_lt, List, [], ◌∷◌, length, sum_by, IsTrue}
use Rattle.tz_model.specs.declared.board.Profile.{Profile}
use Rattle.tz_model.specs.declared.board.Region.{Region}
use Rattle.tz_model.specs.declared.board.SauRegion.{SauRegion}
use Rattle.tz_model.specs.declared.board.RegionSide.{RegionSide}
use Rattle.tz_model.specs.declared.board.RegionSide.TheVariants.{Secure, Nsc, NonSecure}

pub record BoardValue : Type 0 where
  pub secure_vtor : ℕ
  pub nonsecure_vtor : ℕ
  pub interrupts : ℕ
  pub sau_regions : ℕ
  pub mpu_secure : ℕ
  pub mpu_nonsecure : ℕ
  pub profile : Profile
  pub mover : Bool
  pub regions : List Region
  pub sau : List SauRegion

-- a number from low to high
abbrev pub within : ℕ → ℕ → ℕ → Bool
within low high n = nat_le low n && nat_le n high

-- a multiple of a unit
abbrev pub is_multiple : ℕ → ℕ → Bool
is_multiple unit n = n % unit == 0

abbrev pub is_nonsecure : RegionSide → Bool
is_nonsecure Secure = false
is_nonsecure Nsc = false
is_nonsecure NonSecure = true

abbrev pub is_callable : RegionSide → Bool
is_callable Secure = false
is_callable Nsc = true
is_callable NonSecure = false

-- a region holds an address
abbrev pub in_region : Region → ℕ → Bool
in_region r a = nat_le r.base a && nat_lt (a - r.base) r.size

-- a region holds at least 32 bytes, in blocks of 32, below the private peripheral space
abbrev pub is_region : Region → Bool
is_region r = is_multiple 32 r.base && (is_multiple 32 r.size && (nat_le 32 r.size && nat_le (r.base + r.size) 0xE0000000))

abbrev pub are_regions : List Region → Bool
are_regions [] = true
are_regions (r ∷ rs) = is_region r && are_regions rs

-- two regions share no byte
abbrev pub is_apart : Region → Region → Bool
is_apart r q = nat_le (r.base + r.size) q.base || nat_le (q.base + q.size) r.base

abbrev pub apart_from : Region → List Region → Bool
apart_from r [] = true
apart_from r (q ∷ qs) = is_apart r q && apart_from r qs

-- no two regions share a byte
abbrev pub are_apart : List Region → Bool
are_apart [] = true
are_apart (r ∷ rs) = apart_from r rs && are_apart rs

-- an SAU region is made of whole blocks of 32 bytes
abbrev pub is_sau_region : SauRegion → Bool
is_sau_region r = is_multiple 32 r.base && (r.limit % 32 == 31 && (nat_le r.base r.limit && nat_lt r.limit (2 ^ 32)))

abbrev pub are_sau_regions : List SauRegion → Bool
are_sau_regions [] = true
are_sau_regions (r ∷ rs) = is_sau_region r && are_sau_regions rs

-- a place where a vector table may stand
abbrev pub is_vtor : ℕ → Bool
is_vtor n = is_multiple 128 n && nat_lt n (2 ^ 32)

-- how many bytes the regions have together
abbrev pub bytes_of : List Region → ℕ
bytes_of rs = sum_by (λ r. r.size) rs

-- the most bytes that a map or an image has: 4 MiB
abbrev pub most_bytes : ℕ
most_bytes = 4194304

-- what every board meets
pub record IsBoard (b : BoardValue) : Type 0 where
  pub vtors : IsTrue (is_vtor b.secure_vtor && is_vtor b.nonsecure_vtor)
  pub counts : IsTrue (within 1 240 b.interrupts && (nat_le b.sau_regions 8 && (nat_le b.mpu_secure 16 && nat_le b.mpu_nonsecure 16)))
  pub some_regions : IsTrue (within 1 32 (length b.regions))
  pub regions : IsTrue (are_regions b.regions)
  pub apart : IsTrue (are_apart b.regions)
  pub small : IsTrue (nat_le (bytes_of b.regions) most_bytes)
  pub few_sau : IsTrue (nat_le (length b.sau) b.sau_regions)
  pub sau : IsTrue (are_sau_regions b.sau)
