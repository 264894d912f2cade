-- Laws of cubes and patterns.
use Rattle.std.proofs.Common.{◌≡◌, ℕ, ◌+◌, ◌-◌, ◌*◌, ◌<◌, ◌^◌, ◌/◌, true, false, not, refl, sym, ◌∙◌, ap, arith}
use Rattle.std.specs.Prelude.{bit_and, bit_or, ◌==◌}
use Rattle.std.proofs.lemmas.Nat.{and_assoc, and_comm}
use Rattle.std.proofs.lemmas.Nat.Bits.{bit_at_and, bit_at_or, same_from_bits}
use Rattle.std.proofs.lemmas.Bool.{and_parts, and_from, eqb-true, eq-eqb}
use Rattle.std.proofs.lemmas.Nat.{pow_pos}
use Rattle.std.proofs.Math.Nat.{mul-div_cancel}
use Rattle.std.proofs.lemmas.Nat.Bits.{and_high}
use Rattle.tz_table.specs.Fields.{bits}
use Rattle.tz_table.specs.Patterns.{Cube, Field, has, first, second, in_cube}
use Rattle.tz_table.proofs.Reduction.{cubes_apart, meet, inside, cube_of}

pub same_factor : (m a b : ℕ) → 0 < m → a * m ≡ b * m → a ≡ b
same_factor m a b h e = sym (mul-div_cancel a h) ∙ ap (λ x. x / m) e ∙ mul-div_cancel b h

-- two masks of one number
pub and_swap : (f a b va vb : ℕ) → bit_and a f ≡ va → bit_and b f ≡ vb → bit_and b va ≡ bit_and a vb
and_swap f a b va vb p q =
    ap (bit_and b) (sym p) ∙ sym (and_assoc f b a) ∙ ap (λ m. bit_and m f) (and_comm b a) ∙ and_assoc f a b ∙ ap (bit_and a) q

pub and_or_dist : (a b f : ℕ) → bit_and (bit_or a b) f ≡ bit_or (bit_and a f) (bit_and b f)
and_or_dist a b f = same_from_bits _ _ (λ i. omega (arith, bit_at_and (bit_or a b) f i, bit_at_or a b i, bit_at_or (bit_and a f) (bit_and b f) i, bit_at_and a f i, bit_at_and b f i))

-- a fact under a mask gives each under fewer bits
pub and_fewer : (f m v e w : ℕ) → bit_and m f ≡ v → bit_and e m ≡ e → bit_and e v ≡ w → bit_and e f ≡ w
and_fewer f m v e w p q r =
    ap (λ x. bit_and x f) (sym q) ∙ and_assoc f e m ∙ ap (bit_and e) p ∙ r

pub record InCube (c : Cube) (f s : ℕ) : Type 0 where
  pub first : bit_and c.first_mask f ≡ c.first_value
  pub second : bit_and c.second_mask s ≡ c.second_value

pub InCube-from : (c : Cube) (f s : ℕ) → in_cube c f s ≡ true → InCube c f s
InCube-from c f s h =
    let parts = and_parts (bit_and c.first_mask f == c.first_value) (bit_and c.second_mask s == c.second_value) h in
    record { first = eqb-true _ _ parts.0; second = eqb-true _ _ parts.1 }

pub in_cube-from : (c : Cube) (f s : ℕ) → InCube c f s → in_cube c f s ≡ true
in_cube-from c f s h = and_from _ _ (eq-eqb _ _ h.first) (eq-eqb _ _ h.second)

pub not_apart : (a b : Cube) (f s : ℕ) → InCube a f s → InCube b f s → cubes_apart a b ≡ false
not_apart a b f s p q =
    ap not (and_from _ _ (eq-eqb _ _ (and_swap f a.first_mask b.first_mask _ _ p.first q.first)) (eq-eqb _ _ (and_swap s a.second_mask b.second_mask _ _ p.second q.second)))

pub meet-from : (a b : Cube) (f s : ℕ) → InCube a f s → InCube b f s → InCube (meet a b) f s
meet-from a b f s p q = record {
  first = and_or_dist a.first_mask b.first_mask f ∙ ap (λ x. bit_or x (bit_and b.first_mask f)) p.first ∙ ap (bit_or a.first_value) q.first;
  second = and_or_dist a.second_mask b.second_mask s ∙ ap (λ x. bit_or x (bit_and b.second_mask s)) p.second ∙ ap (bit_or a.second_value) q.second;
}

pub inside-from : (a e : Cube) (f s : ℕ) → inside a e ≡ true → InCube a f s → InCube e f s
inside-from a e f s h p =
    let x = and_parts _ _ h in
    let y = and_parts _ _ x.0 in
    let z = and_parts _ _ y.0 in
    record {
      first = and_fewer f _ _ _ _ p.first (eqb-true _ _ z.0) (eqb-true _ _ z.1);
      second = and_fewer s _ _ _ _ p.second (eqb-true _ _ y.1) (eqb-true _ _ x.1);
    }

-- ---- one field
pub field_mask : (n k w v : ℕ) → bits n k w ≡ v → bit_and (2 ^ (w + k) - 2 ^ k) n ≡ v * 2 ^ k
field_mask n k w v h = and_comm (2 ^ (w + k) - 2 ^ k) n ∙ and_high n w k ∙ ap (λ x. x * 2 ^ k) h

pub mask_field : (n k w v : ℕ) → bit_and (2 ^ (w + k) - 2 ^ k) n ≡ v * 2 ^ k → bits n k w ≡ v
mask_field n k w v h =
    let e : bits n k w * 2 ^ k ≡ v * 2 ^ k = sym (and_comm (2 ^ (w + k) - 2 ^ k) n ∙ and_high n w k) ∙ h in
    same_factor (2 ^ k) (bits n k w) v (pow_pos k) e

pub InCube-from_has : (x : Field) (f s : ℕ) → has x f s ≡ true → InCube (cube_of x) f s
InCube-from_has (first k w v) f s h = record { first = field_mask f k w v (eqb-true _ _ h); second = refl }
InCube-from_has (second k w v) f s h = record { first = refl; second = field_mask s k w v (eqb-true _ _ h) }

pub has-from_InCube : (x : Field) (f s : ℕ) → InCube (cube_of x) f s → has x f s ≡ true
has-from_InCube (first k w v) f s h = eq-eqb _ _ (mask_field f k w v h.first)
has-from_InCube (second k w v) f s h = eq-eqb _ _ (mask_field s k w v h.second)
