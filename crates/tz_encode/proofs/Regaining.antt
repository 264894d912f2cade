-- A number that is gathered from the parts of a code, and written again, is the same bits.
use Rattle.std.proofs.Common.{◌≡◌, ℕ, ◌+◌, ◌*◌, ◌/◌, ◌%◌, ◌<◌, ◌≤◌, ◌^◌, Bool, true, ◌&&◌, List, [], ◌∷◌, refl, sym, ◌∙◌, ap, arith, subst, add_assoc}
use Rattle.std.proofs.lemmas.Bool.{and_parts}
use Rattle.std.proofs.lemmas.Nat.{pow_pos, div-add-mod'}
use Rattle.std.proofs.Math.Nat.{mod-lt, zero-div, zero-mod}
use Rattle.tz_table.specs.Fields.{bits}
use Rattle.tz_encode.specs.Slots.{bits_at, half_of, digit, held_by, gathered}
use Rattle.tz_encode.specs.declared.slot.Half.TheVariants.{First, Second}
use Rattle.tz_encode.specs.declared.slot.Part.{Part}
use Rattle.tz_encode.proofs.Apart.{all_apart}
use Rattle.tz_encode.proofs.Describes.{AtMost}
use Rattle.tz_encode.proofs.Writes.{Write, parts_of, Clear, Written, after_all, written_all, below_all, all_below}
use Rattle.tz_encode.proofs.Placing.{shifted, gathered_is}

-- the part as one of the number
abbrev pub in_number : Part → Part
in_number p = record { half = First; low = p.shift; width = p.width; shift = 0 }

abbrev pub in_numbers : List Part → List Part
in_numbers [] = []
in_numbers (p ∷ ps) = in_number p ∷ in_numbers ps

-- the bits of a code, written to the number
abbrev regained : List Part → ℕ → ℕ → List Write
regained [] f s = []
regained (p ∷ ps) f s = record { part = in_number p; digit = bits_at p f s } ∷ regained ps f s

regained_is : (ps : List Part) (f s n : ℕ) → after_all First (regained ps f s) n ≡ n + shifted ps f s
regained_is [] f s n = omega arith
regained_is (p ∷ ps) f s n = regained_is ps f s (n + bits_at p f s * 2 ^ p.shift) ∙ add_assoc n (bits_at p f s * 2 ^ p.shift) (shifted ps f s)

regained_parts : (ps : List Part) (f s : ℕ) → parts_of (regained ps f s) ≡ in_numbers ps
regained_parts [] f s = refl
regained_parts (p ∷ ps) f s = ap (λ l. in_number p ∷ l) (regained_parts ps f s)

no_bits : (l w : ℕ) → bits 0 l w ≡ 0
no_bits l w = ap (λ x. x % 2 ^ w) (zero-div (2 ^ l)) ∙ zero-mod (2 ^ w)

regained_clear : (ps : List Part) (f s : ℕ) → Clear (regained ps f s) 0 0
regained_clear [] f s = tt
regained_clear (p ∷ ps) f s = (no_bits p.shift p.width, mod-lt (half_of p.half f s / 2 ^ p.low) (pow_pos p.width), regained_clear ps f s)

-- the number has the digits of the code
abbrev pub SameDigits : List Part → ℕ → ℕ → ℕ → Type 0
SameDigits [] n f s = Unit {0}
SameDigits (p ∷ ps) n f s = (digit p n ≡ bits_at p f s) × SameDigits ps n f s

digits_written : (ps : List Part) (f s n m : ℕ) → Written (regained ps f s) n m → SameDigits ps n f s
digits_written [] f s n m w = tt
digits_written (p ∷ ps) f s n m w = (w.0, digits_written ps f s n m w.1)

-- the parts lie apart in the number, and below bit top
abbrev pub spread : List Part → ℕ → Bool
spread ps top = all_apart (in_numbers ps) && all_below top (in_numbers ps)

pub record Regained (ps : List Part) (top f s : ℕ) : Type 0 where
  pub digits : SameDigits ps (gathered ps f s) f s
  pub below : gathered ps f s < 2 ^ top

no_quotient : (n m : ℕ) → 0 < m → n / m ≡ 0 → n < m
no_quotient n m h e =
    let whole = div-add-mod' n m in
    let rest : n % m < m = mod-lt n h in
    let none : n / m * m ≡ 0 = ap (λ x. x * m) e ∙ omega arith in
    omega arith

pub regain : (ps : List Part) (top f s : ℕ) → spread ps top ≡ true → Regained ps top f s
regain ps top f s h =
    let x = and_parts (all_apart (in_numbers ps)) (all_below top (in_numbers ps)) h in
    let apart : all_apart (parts_of (regained ps f s)) ≡ true = ap all_apart (regained_parts ps f s) ∙ x.0 in
    let under : all_below top (parts_of (regained ps f s)) ≡ true = ap (all_below top) (regained_parts ps f s) ∙ x.1 in
    let clear = regained_clear ps f s in
    let is : after_all First (regained ps f s) 0 ≡ gathered ps f s = regained_is ps f s 0 ∙ omega (arith, gathered_is ps f s) in
    let written = digits_written ps f s (after_all First (regained ps f s) 0) (after_all Second (regained ps f s) 0) (written_all (regained ps f s) 0 0 clear apart) in
    let quotient : after_all First (regained ps f s) 0 / 2 ^ top ≡ 0 = below_all First (regained ps f s) 0 0 top clear apart under ∙ zero-div (2 ^ top) in
    record {
      digits = subst (λ n. SameDigits ps n f s) is written;
      below = subst (λ n. n < 2 ^ top) is (no_quotient (after_all First (regained ps f s) 0) (2 ^ top) (pow_pos top) quotient);
    }

-- the number with these digits fits its parts
held_digits : (ps : List Part) (n f s : ℕ) → SameDigits ps n f s → held_by ps n ≡ shifted ps f s
held_digits [] n f s d = refl
held_digits (p ∷ ps) n f s d = ap (λ x. x * 2 ^ p.shift + held_by ps n) d.0 ∙ ap (λ x. bits_at p f s * 2 ^ p.shift + x) (held_digits ps n f s d.1)

pub held_gathered : (ps : List Part) (f s : ℕ) → SameDigits ps (gathered ps f s) f s → held_by ps (gathered ps f s) ≡ gathered ps f s
held_gathered ps f s d = held_digits ps (gathered ps f s) f s d ∙ sym (gathered_is ps f s)

no_more : (a b : ℕ) → a ≡ b → a ≤ b
no_more a b e = omega arith

pub digits_at_most : (ps : List Part) (n f s : ℕ) → SameDigits ps n f s → AtMost ps n f s
digits_at_most [] n f s d = tt
digits_at_most (p ∷ ps) n f s d = (no_more (digit p n) (bits_at p f s) d.0, digits_at_most ps n f s d.1)

-- ---- the number 0

pub held_none : (ps : List Part) → held_by ps 0 ≡ 0
held_none [] = refl
held_none (p ∷ ps) = ap (λ x. x * 2 ^ p.shift + held_by ps 0) (no_bits p.shift p.width) ∙ omega (arith, held_none ps)

at_least_none : (a b : ℕ) → a ≡ 0 → a ≤ b
at_least_none a b e = omega arith

pub none_at_most : (ps : List Part) (f s : ℕ) → AtMost ps 0 f s
none_at_most [] f s = tt
none_at_most (p ∷ ps) f s = (at_least_none (digit p 0) (bits_at p f s) (no_bits p.shift p.width), none_at_most ps f s)
