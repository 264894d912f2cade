-- Sets of codes: what bits are fixed, and which values of fields are left out.
use Rattle.std.specs.Prelude.{ℕ, ◌==◌, Bool, true, false, not, ◌&&◌, ◌||◌, bit_and, List, [], ◌∷◌}
use Rattle.tz_table.specs.Fields.{bits}

-- the codes whose bits under the masks are the values
pub record Cube : Type 0 where
  pub first_mask : ℕ
  pub first_value : ℕ
  pub second_mask : ℕ
  pub second_value : ℕ

abbrev pub in_cube : Cube → ℕ → ℕ → Bool
in_cube c f s = (bit_and c.first_mask f == c.first_value) && (bit_and c.second_mask s == c.second_value)

-- the bits of the first or the second halfword from k on, w of them, are v
pub data Field : Type 0 where
  first : (k w v : ℕ) → Field
  second : (k w v : ℕ) → Field

abbrev pub has : Field → ℕ → ℕ → Bool
has (first k w v) f s = bits f k w == v
has (second k w v) f s = bits s k w == v

-- all of the fields
abbrev pub has_all : List Field → ℕ → ℕ → Bool
has_all [] f s = true
has_all (x ∷ []) f s = has x f s
has_all (x ∷ y ∷ xs) f s = has x f s && has_all (y ∷ xs) f s

-- all fields of one of the lists
abbrev pub has_any : List (List Field) → ℕ → ℕ → Bool
has_any [] f s = false
has_any (x ∷ []) f s = has_all x f s
has_any (x ∷ y ∷ xs) f s = has_all x f s || has_any (y ∷ xs) f s

-- a cube without the codes that have all fields of one of the lists
pub record Pattern : Type 0 where
  pub cube : Cube
  pub excepts : List (List Field)

abbrev pub fits : Pattern → ℕ → ℕ → Bool
fits p f s = in_cube p.cube f s && not (has_any p.excepts f s)
