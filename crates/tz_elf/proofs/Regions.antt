-- Regions, the bytes that lie in them, and segments that share a byte.
use Rattle.std.proofs.Common.{◌≡◌, ◌<◌, ◌≤◌, ◌+◌, ◌-◌, ℕ, true, false, zero, suc, refl, arith, List, [], ◌∷◌, length, get_or, inl, inr}
use Rattle.std.proofs.lemmas.Bool.{cases_lt, or_right}
use Rattle.std.proofs.lemmas.Bool.Decides.{nat_tests}
use Rattle.tz_model.specs.declared.board.Region.{Region}
use Rattle.tz_model.specs.Board.{in_region}
use Rattle.tz_elf.specs.Placement.{in_some, lies_in}

pub in_region-within : (r : Region) (a : ℕ) → r.base ≤ a → a < r.base + r.size → in_region r a ≡ true
in_region-within r a low high =
    let inside : a - r.base < r.size = omega arith in
    grind (arith, nat_tests)

-- an address in a region is in one of the regions
pub in_some-at : (regions : List Region) (i a : ℕ) (d : Region) → i < length regions → in_region (get_or regions i d) a ≡ true → in_some regions a ≡ true
in_some-at [] i a d l h = absurd (omega arith)
in_some-at (r ∷ regions) zero a d l h = rw h refl
in_some-at (r ∷ regions) (suc i) a d l h = or_right (in_region r a) (in_some regions a) (in_some-at regions i a d (omega arith) h)

-- an address between the ends of a region is in one of the regions
pub in_some-within : (regions : List Region) (i a base size : ℕ) (d : Region) → i < length regions
    → base ≡ (get_or regions i d).base → size ≡ (get_or regions i d).size → base ≤ a → a < base + size → in_some regions a ≡ true
in_some-within regions i a base size d h b s low high =
    in_some-at regions i a d h (in_region-within (get_or regions i d) a (omega arith) (omega arith))

-- bytes that lie in the regions may be passed over
pub lies_in-skip : (regions : List Region) (n a b : ℕ) → a ≤ b → ((x : ℕ) → a ≤ x → x < b → in_some regions x ≡ true)
    → lies_in regions a n ≡ lies_in regions b (a + n - b)
unfolding lies_in
lies_in-skip regions zero a b le within =
    let none : a + 0 - b ≡ 0 = omega arith in
    rw none refl
lies_in-skip regions (suc n) a b le within =
    elim (cases_lt a b) [
      | inl below ↦
          let here : in_some regions a ≡ true = within a (omega arith) below in
          let rest = lies_in-skip regions n (a + 1) b (omega arith) (λ x l h. within x (omega arith) h) in
          let same : a + 1 + n - b ≡ a + suc n - b = omega arith in
          rw (here, ← same) rest
      | inr past ↦
          let at : a ≡ b = omega arith in
          let same : a + suc n - b ≡ suc n = omega arith in
          rw (same, at) refl
    ]

-- a byte in no region is found out
pub lies_in-outside : (regions : List Region) (n a : ℕ) → 0 < n → in_some regions a ≡ false → lies_in regions a n ≡ false
unfolding lies_in
lies_in-outside regions zero a some out = absurd (omega arith)
lies_in-outside regions (suc n) a some out = rw out refl

-- no bytes lie anywhere
pub lies_in-none : (regions : List Region) (a n : ℕ) → n ≡ 0 → lies_in regions a n ≡ true
unfolding lies_in
lies_in-none regions a n none = rw none refl
