-- The fixed bits of a row as parts of one bit each.
use Rattle.std.proofs.Common.{◌≡◌, ℕ, zero, suc, Bool, true, ◌&&◌, List, [], ◌∷◌, ◌++◌, refl, ◌∙◌}
use Rattle.std.specs.Prelude.{◌==◌, if◌then◌else◌}
use Rattle.std.proofs.lemmas.Bool.{and_parts, and_from, eqb-true, eq-eqb}
use Rattle.tz_table.specs.Fields.{bits}
use Rattle.tz_table.specs.Patterns.{Cube, Field, first, second, has, has_all, in_cube}
use Rattle.tz_table.proofs.Reduction.{inside, cube_of, cube_of_all}
use Rattle.tz_table.proofs.Cubes.{InCube-from, in_cube-from, inside-from, has-from_InCube}
use Rattle.tz_table.proofs.Scans.{InCube-from_all, has_all-head}
use Rattle.tz_encode.specs.Slots.{bits_at, half_of}
use Rattle.tz_encode.specs.declared.slot.Half.{Half}
use Rattle.tz_encode.specs.declared.slot.Half.TheVariants.{First, Second}
use Rattle.tz_encode.specs.declared.slot.Part.{Part}
use Rattle.tz_encode.proofs.Apart.{apart_from, all_apart}
use Rattle.tz_encode.proofs.Writes.{Write, SameBits, after_all, Clear, parts_of, kept_all}

-- the ones of a mask below bit n
abbrev pub mask_bits : Half → ℕ → ℕ → List Part
mask_bits h m zero = []
mask_bits h m (suc k) = if bits m k 1 == 1 then (record { half = h; low = k; width = 1; shift = 0 } ∷ mask_bits h m k) else mask_bits h m k

abbrev pub fixed : Cube → List Part
fixed c = mask_bits First c.first_mask 16 ++ mask_bits Second c.second_mask 16

abbrev pub field_of : Half → ℕ → ℕ → ℕ → Field
field_of First l w v = first l w v
field_of Second l w v = second l w v

-- the fields that a code has under the parts
abbrev pub fields_at : List Part → ℕ → ℕ → List Field
fields_at [] f s = []
fields_at (p ∷ ps) f s = field_of p.half p.low p.width (bits_at p f s) ∷ fields_at ps f s

has_field : (h : Half) (l w v f s : ℕ) → bits (half_of h f s) l w ≡ v → has (field_of h l w v) f s ≡ true
has_field First l w v f s e = eq-eqb _ _ e
has_field Second l w v f s e = eq-eqb _ _ e

field_has : (h : Half) (l w v f s : ℕ) → has (field_of h l w v) f s ≡ true → bits (half_of h f s) l w ≡ v
field_has First l w v f s e = eqb-true _ _ e
field_has Second l w v f s e = eqb-true _ _ e

has_fields : (ps : List Part) (f s g t : ℕ) → SameBits ps f s g t → has_all (fields_at ps g t) f s ≡ true
has_fields [] f s g t e = refl
has_fields (p ∷ ps) f s g t e = has_all-head (field_of p.half p.low p.width (bits_at p g t)) (fields_at ps g t) f s ∙ and_from _ _ (has_field p.half p.low p.width (bits_at p g t) f s e.0) (has_fields ps f s g t e.1)

-- a code with the fixed bits is in the cube
pub in_cube_by : (c : Cube) (f s g t : ℕ) → inside (cube_of_all (fields_at (fixed c) g t)) c ≡ true → SameBits (fixed c) f s g t → in_cube c f s ≡ true
in_cube_by c f s g t i e = in_cube-from c f s (inside-from (cube_of_all (fields_at (fixed c) g t)) c f s i (InCube-from_all (fields_at (fixed c) g t) f s (has_fields (fixed c) f s g t e)))

-- each of the fields is fixed by the cube
abbrev pub all_fixed : Cube → List Part → ℕ → ℕ → Bool
all_fixed c [] g t = true
all_fixed c (p ∷ ps) g t = inside c (cube_of (field_of p.half p.low p.width (bits_at p g t))) && all_fixed c ps g t

-- a code in the cube has the fixed bits
pub fixed_bits : (c : Cube) (ps : List Part) (f s g t : ℕ) → all_fixed c ps g t ≡ true → in_cube c f s ≡ true → SameBits ps f s g t
fixed_bits c [] f s g t a i = tt
fixed_bits c (p ∷ ps) f s g t a i =
    let x = and_parts (inside c (cube_of (field_of p.half p.low p.width (bits_at p g t)))) (all_fixed c ps g t) a in (
      field_has p.half p.low p.width (bits_at p g t) f s (has-from_InCube (field_of p.half p.low p.width (bits_at p g t)) f s (inside-from c (cube_of (field_of p.half p.low p.width (bits_at p g t))) f s x.0 (InCube-from c f s i))),
      fixed_bits c ps f s g t x.1 i,
    )

-- ---- parts beside other parts

abbrev pub all_apart_from : List Part → List Part → Bool
all_apart_from [] qs = true
all_apart_from (p ∷ ps) qs = apart_from p qs && all_apart_from ps qs

-- bits under parts that no write touches
pub same_kept : (ps : List Part) (ws : List Write) (f s : ℕ) → Clear ws f s → all_apart (parts_of ws) ≡ true → all_apart_from ps (parts_of ws) ≡ true → SameBits ps (after_all First ws f) (after_all Second ws s) f s
same_kept [] ws f s c a b = tt
same_kept (p ∷ ps) ws f s c a b =
    let x = and_parts (apart_from p (parts_of ws)) (all_apart_from ps (parts_of ws)) b in
    (kept_all p ws f s c a x.0, same_kept ps ws f s c a x.1)
