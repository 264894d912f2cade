-- What has to be shown of a row and its slots.
use Rattle.std.specs.Prelude.{◌≡◌, ℕ, ◌<◌, ◌≤◌, ◌&&◌, Bool, true, List, [], ◌∷◌, ◌++◌, length, ℤ, pos}
use Rattle.tz_bits.specs.Values.{values_of}
use Rattle.tz_table.specs.Patterns.{in_cube}
use Rattle.tz_table.specs.Rows.{TableRow, holds}
use Rattle.tz_encode.specs.Codes.{InRow}
use Rattle.tz_encode.specs.Limits.{limit_holds}
use Rattle.tz_encode.specs.Numbers.{number_for, value_at, stands_for, takes, take_all, values_in}
use Rattle.tz_encode.specs.Slots.{parts_in, bits_at, digit, gathered, held_by}
use Rattle.tz_encode.specs.declared.slot.Part.{Part}
use Rattle.tz_encode.specs.declared.slot.CodeSlot.{CodeSlot}

-- the values of a code keep the limits of the slots
abbrev pub limits_in : List ℤ → List CodeSlot → ℕ → ℕ → Bool
limits_in e [] f s = true
limits_in e (t ∷ ts) f s = let z = value_at t.coding e (gathered (parts_in t.parts) f s) f s in limit_holds t.limit e z && limits_in (e ++ z ∷ []) ts f s

-- whatever the slots before a slot took, it takes something
abbrev pub Fillable : List ℤ → List CodeSlot → Type 0
Fillable e [] = Unit {0}
Fillable e (t ∷ ts) = ((z : ℤ) × (takes t e z ≡ true)) × ((z : ℤ) → takes t e z ≡ true → Fillable (e ++ z ∷ []) ts)

-- the bits of m under each part are at most those of n
abbrev pub AtMost : List Part → ℕ → ℕ → ℕ → Type 0
AtMost [] m f s = Unit {0}
AtMost (p ∷ ps) m f s = (digit p m ≤ bits_at p f s) × AtMost ps m f s

-- number m, by which z is written, fits the parts and stands for z, and no code that has z is less there
pub record IsWritten (t : CodeSlot) (e : List ℤ) (z : ℤ) (f s : ℕ) : Type 0 where
  pub fits : held_by (parts_in t.parts) (number_for t.coding e z) ≡ number_for t.coding e z
  pub stands : stands_for t.coding e (number_for t.coding e z) z ≡ true
  pub least : AtMost (parts_in t.parts) (number_for t.coding e z) f s

-- so it is with each value of a code
abbrev pub AllWritten : List ℤ → List CodeSlot → ℕ → ℕ → Type 0
AllWritten e [] f s = Unit {0}
AllWritten e (t ∷ ts) f s = let z = value_at t.coding e (gathered (parts_in t.parts) f s) f s in IsWritten t e z f s × AllWritten (e ++ z ∷ []) ts f s

-- the code holds the numbers of the values
abbrev pub Holds : List ℤ → List CodeSlot → List ℤ → ℕ → ℕ → Type 0
Holds e [] zs f s = Unit {0}
Holds e (t ∷ ts) [] f s = Unit {0}
Holds e (t ∷ ts) (z ∷ zs) f s = (gathered (parts_in t.parts) f s ≡ number_for t.coding e z) × Holds (e ++ z ∷ []) ts zs f s

-- the slots take what each code of the row means, and no other values
pub record Describes (r : TableRow) (form : ℕ) (ts : List CodeSlot) : Type 0 where
  -- the values of a code are those of its instruction
  pub values : (f s : ℕ) → InRow r f s → values_of (r.insn f s) ≡ pos form ∷ values_in (pos form ∷ []) ts f s
  -- a code of the row keeps the limits of the slots
  pub kept : (f s : ℕ) → InRow r f s → limits_in (pos form ∷ []) ts f s ≡ true
  -- a code with the fixed bits that holds the numbers of values which the slots take is in the row, where its
  -- values keep the limits
  pub held : (zs : List ℤ) (f s : ℕ) → f < 65536 → s < 65536 → in_cube r.pattern.cube f s ≡ true → length ts ≡ length zs → take_all (pos form ∷ []) ts zs ≡ true → Holds (pos form ∷ []) ts zs f s → limits_in (pos form ∷ []) ts f s ≡ true → holds r f s ≡ true
  -- the slots take the values of a code
  pub written : (f s : ℕ) → InRow r f s → AllWritten (pos form ∷ []) ts f s
  -- a code that holds the numbers of values which the slots take has these values
  pub told : (zs : List ℤ) (f s : ℕ) → length ts ≡ length zs → take_all (pos form ∷ []) ts zs ≡ true → Holds (pos form ∷ []) ts zs f s → values_in (pos form ∷ []) ts f s ≡ zs
  -- what the slots took so far can be filled up
  pub fills : Fillable (pos form ∷ []) ts
