-- The code that is made of values, and what it holds.
use Rattle.std.proofs.Common.{◌≡◌, ℕ, zero, suc, ◌+◌, ◌*◌, ◌/◌, ◌^◌, ◌≤◌, Bool, true, ◌&&◌, List, [], ◌∷◌, ◌++◌, length, refl, sym, ◌∙◌, ap, arith, add_assoc}
use Rattle.std.specs.Prelude.{◌==◌, ℤ}
use Rattle.std.proofs.lemmas.Bool.{and_parts, and_from, eqb-true, eq-eqb, ne_eqb, cond-false}
use Rattle.std.proofs.lemmas.Nat.{pow_pos}
use Rattle.std.proofs.Math.Nat.{mod-lt, mul-le-mul_right}
use Rattle.tz_encode.specs.Numbers.{number_for, stands_for, takes, take_all, code_bits, value_at, values_in}
use Rattle.tz_encode.specs.Limits.{limit_holds}
use Rattle.tz_encode.specs.Slots.{parts_in, bits_at, lies_in, scaled, gathered, gathered_onto, digit, held_by, placed}
use Rattle.tz_encode.specs.declared.slot.Half.{Half}
use Rattle.tz_encode.specs.declared.slot.Half.TheVariants.{First, Second}
use Rattle.tz_encode.specs.declared.slot.Part.{Part}
use Rattle.tz_encode.specs.declared.slot.CodeSlot.{CodeSlot}
use Rattle.tz_encode.proofs.Apart.{all_parts}
use Rattle.tz_encode.proofs.Describes.{Holds, AtMost, AllWritten, limits_in}
use Rattle.tz_encode.proofs.Writes.{Write, after_all, parts_of, Clear, Written, sum_bits}

-- ---- the writes of values

abbrev pub put_parts : List Part → ℕ → List Write → List Write
put_parts [] n ws = ws
put_parts (p ∷ ps) n ws = record { part = p; digit = digit p n } ∷ put_parts ps n ws

abbrev pub writes_of : List ℤ → List CodeSlot → List ℤ → List Write
writes_of e [] zs = []
writes_of e (t ∷ ts) [] = []
writes_of e (t ∷ ts) (z ∷ zs) = put_parts (parts_in t.parts) (number_for t.coding e z) (writes_of (e ++ z ∷ []) ts zs)

after_put : (h : Half) (ps : List Part) (m : ℕ) (ws : List Write) (n : ℕ) → after_all h (put_parts ps m ws) n ≡ after_all h ws (n + placed h ps m)
after_put h [] m ws n = ap (after_all h ws) (omega arith)
after_put h (p ∷ ps) m ws n = after_put h ps m ws (n + lies_in h p.half (digit p m * 2 ^ p.low)) ∙ ap (after_all h ws) (add_assoc n (lies_in h p.half (digit p m * 2 ^ p.low)) (placed h ps m))

-- the code of the writes is the sum
pub after_writes : (h : Half) (e : List ℤ) (ts : List CodeSlot) (zs : List ℤ) (n : ℕ) → after_all h (writes_of e ts zs) n ≡ n + code_bits h e ts zs
after_writes h e [] zs n = omega arith
after_writes h e (t ∷ ts) [] n = omega arith
after_writes h e (t ∷ ts) (z ∷ zs) n =
    after_put h (parts_in t.parts) (number_for t.coding e z) (writes_of (e ++ z ∷ []) ts zs) n
    ∙ after_writes h (e ++ z ∷ []) ts zs (n + placed h (parts_in t.parts) (number_for t.coding e z))
    ∙ add_assoc n (placed h (parts_in t.parts) (number_for t.coding e z)) (code_bits h (e ++ z ∷ []) ts zs)

parts_put : (ps : List Part) (n : ℕ) (ws : List Write) → parts_of (put_parts ps n ws) ≡ ps ++ parts_of ws
parts_put [] n ws = refl
parts_put (p ∷ ps) n ws = ap (λ l. p ∷ l) (parts_put ps n ws)

-- they go to the parts of the slots
pub parts_of_writes : (e : List ℤ) (ts : List CodeSlot) (zs : List ℤ) → length ts ≡ length zs → parts_of (writes_of e ts zs) ≡ all_parts ts
parts_of_writes e [] zs h = refl
parts_of_writes e (t ∷ ts) [] h = absurd (omega arith)
parts_of_writes e (t ∷ ts) (z ∷ zs) h =
    parts_put (parts_in t.parts) (number_for t.coding e z) (writes_of (e ++ z ∷ []) ts zs)
    ∙ ap (λ l. (parts_in t.parts) ++ l) (parts_of_writes (e ++ z ∷ []) ts zs (omega arith))

-- ---- zeros under the parts

abbrev pub all_zero : List Part → ℕ → ℕ → Bool
all_zero [] f s = true
all_zero (p ∷ ps) f s = bits_at p f s == 0 && all_zero ps f s

abbrev pub slots_zero : List CodeSlot → ℕ → ℕ → Bool
slots_zero [] f s = true
slots_zero (t ∷ ts) f s = all_zero (parts_in t.parts) f s && slots_zero ts f s

clear_put : (ps : List Part) (n : ℕ) (ws : List Write) (f s : ℕ) → all_zero ps f s ≡ true → Clear ws f s → Clear (put_parts ps n ws) f s
clear_put [] n ws f s z c = c
clear_put (p ∷ ps) n ws f s z c =
    let x = and_parts (bits_at p f s == 0) (all_zero ps f s) z in
    (eqb-true _ _ x.0, mod-lt (n / 2 ^ p.shift) (pow_pos p.width), clear_put ps n ws f s x.1 c)

pub clear_writes : (e : List ℤ) (ts : List CodeSlot) (zs : List ℤ) (f s : ℕ) → slots_zero ts f s ≡ true → Clear (writes_of e ts zs) f s
clear_writes e [] zs f s z = tt
clear_writes e (t ∷ ts) [] f s z = tt
clear_writes e (t ∷ ts) (y ∷ zs) f s z =
    let x = and_parts (all_zero (parts_in t.parts) f s) (slots_zero ts f s) z in
    clear_put (parts_in t.parts) (number_for t.coding e y) (writes_of (e ++ y ∷ []) ts zs) f s x.0 (clear_writes (e ++ y ∷ []) ts zs f s x.1)

-- ---- what is gathered again

-- the bits under the parts, from their shifts on
abbrev pub shifted : List Part → ℕ → ℕ → ℕ
shifted [] f s = 0
shifted (p ∷ ps) f s = bits_at p f s * 2 ^ p.shift + shifted ps f s

pub scaled_is : (x n : ℕ) → scaled x n ≡ x * 2 ^ n
scaled_is x zero = omega arith
scaled_is x (suc n) = cond-false (suc n == 0) x (x * 2 ^ suc n) (ne_eqb (suc n) 0 (λ e. omega arith))

gathered_onto_is : (n : ℕ) (ps : List Part) (f s : ℕ) → gathered_onto n ps f s ≡ n + shifted ps f s
gathered_onto_is n [] f s = omega arith
gathered_onto_is n (p ∷ ps) f s =
    gathered_onto_is (n + scaled (bits_at p f s) p.shift) ps f s
    ∙ add_assoc n (scaled (bits_at p f s) p.shift) (shifted ps f s)
    ∙ ap (λ x. n + (x + shifted ps f s)) (scaled_is (bits_at p f s) p.shift)

pub gathered_is : (ps : List Part) (f s : ℕ) → gathered ps f s ≡ shifted ps f s
gathered_is [] f s = refl
gathered_is (p ∷ ps) f s = gathered_onto_is (scaled (bits_at p f s) p.shift) ps f s ∙ ap (λ x. x + shifted ps f s) (scaled_is (bits_at p f s) p.shift)

-- the code holds the bits of n under the parts
abbrev pub HoldsBits : List Part → ℕ → ℕ → ℕ → Type 0
HoldsBits [] n f s = Unit {0}
HoldsBits (p ∷ ps) n f s = (bits_at p f s ≡ digit p n) × HoldsBits ps n f s

pub shifted_held : (ps : List Part) (n f s : ℕ) → HoldsBits ps n f s → shifted ps f s ≡ held_by ps n
shifted_held [] n f s h = refl
shifted_held (p ∷ ps) n f s h = ap (λ x. x * 2 ^ p.shift + shifted ps f s) h.0 ∙ ap (λ x. digit p n * 2 ^ p.shift + x) (shifted_held ps n f s h.1)

split_written : (ps : List Part) (n : ℕ) (ws : List Write) (f s : ℕ) → Written (put_parts ps n ws) f s → HoldsBits ps n f s × Written ws f s
split_written [] n ws f s h = (tt, h)
split_written (p ∷ ps) n ws f s h = let x = split_written ps n ws f s h.1 in ((h.0, x.0), x.1)

-- a code with the writes of values that the slots take holds their numbers
pub holds_written : (e : List ℤ) (ts : List CodeSlot) (zs : List ℤ) (f s : ℕ) → take_all e ts zs ≡ true → Written (writes_of e ts zs) f s → Holds e ts zs f s
holds_written e [] zs f s h w = tt
holds_written e (t ∷ ts) [] f s h w = tt
holds_written e (t ∷ ts) (z ∷ zs) f s h w =
    let x = and_parts (takes t e z) (take_all (e ++ z ∷ []) ts zs) h in
    let y = and_parts (held_by (parts_in t.parts) (number_for t.coding e z) == number_for t.coding e z && stands_for t.coding e (number_for t.coding e z) z) (limit_holds t.limit e z) x.0 in
    let q = and_parts (held_by (parts_in t.parts) (number_for t.coding e z) == number_for t.coding e z) (stands_for t.coding e (number_for t.coding e z) z) y.0 in
    let split = split_written (parts_in t.parts) (number_for t.coding e z) (writes_of (e ++ z ∷ []) ts zs) f s w in (
      gathered_is (parts_in t.parts) f s ∙ shifted_held (parts_in t.parts) (number_for t.coding e z) f s split.0 ∙ eqb-true _ _ q.0,
      holds_written (e ++ z ∷ []) ts zs f s x.1 split.1,
    )

-- ---- sums of digits that are at most those of a code

lies_at_most : (h g : Half) (l a b : ℕ) → a ≤ b → lies_in h g (a * 2 ^ l) ≤ lies_in h g (b * 2 ^ l)
lies_at_most First First l a b e = mul-le-mul_right (2 ^ l) e
lies_at_most Second Second l a b e = mul-le-mul_right (2 ^ l) e
lies_at_most First Second l a b e = omega arith
lies_at_most Second First l a b e = omega arith

add_both : (a b c d : ℕ) → a ≤ b → c ≤ d → a + c ≤ b + d
add_both a b c d h k = omega arith

placed_at_most : (h : Half) (ps : List Part) (m f s : ℕ) → AtMost ps m f s → placed h ps m ≤ sum_bits h ps f s
placed_at_most h [] m f s a = omega arith
placed_at_most h (p ∷ ps) m f s a = add_both (lies_in h p.half (digit p m * 2 ^ p.low)) (lies_in h p.half (bits_at p f s * 2 ^ p.low)) (placed h ps m) (sum_bits h ps f s) (lies_at_most h p.half p.low (digit p m) (bits_at p f s) a.0) (placed_at_most h ps m f s a.1)

pub sum_bits-append : (h : Half) (ps qs : List Part) (f s : ℕ) → sum_bits h (ps ++ qs) f s ≡ sum_bits h ps f s + sum_bits h qs f s
sum_bits-append h [] qs f s = omega arith
sum_bits-append h (p ∷ ps) qs f s = ap (λ x. lies_in h p.half (bits_at p f s * 2 ^ p.low) + x) (sum_bits-append h ps qs f s) ∙ sym (add_assoc (lies_in h p.half (bits_at p f s * 2 ^ p.low)) (sum_bits h ps f s) (sum_bits h qs f s))

-- the values of a code, written again, add no more than the code has
pub sum_at_most : (h : Half) (e : List ℤ) (ts : List CodeSlot) (f s : ℕ) → AllWritten e ts f s → code_bits h e ts (values_in e ts f s) ≤ sum_bits h (all_parts ts) f s
sum_at_most h e [] f s a = omega arith
sum_at_most h e (t ∷ ts) f s a =
    let z = value_at t.coding e (gathered (parts_in t.parts) f s) f s in
    let below = add_both (placed h (parts_in t.parts) (number_for t.coding e z)) (sum_bits h (parts_in t.parts) f s) (code_bits h (e ++ z ∷ []) ts (values_in (e ++ z ∷ []) ts f s)) (sum_bits h (all_parts ts) f s) (placed_at_most h (parts_in t.parts) (number_for t.coding e z) f s a.0.least) (sum_at_most h (e ++ z ∷ []) ts f s a.1) in
    omega (arith, below, sum_bits-append h (parts_in t.parts) (all_parts ts) f s)

-- the slots take the values of a code
pub take_values : (e : List ℤ) (ts : List CodeSlot) (f s : ℕ) → AllWritten e ts f s → limits_in e ts f s ≡ true → take_all e ts (values_in e ts f s) ≡ true
take_values e [] f s a l = refl
take_values e (t ∷ ts) f s a l =
    let z = value_at t.coding e (gathered (parts_in t.parts) f s) f s in
    let x = and_parts (limit_holds t.limit e z) (limits_in (e ++ z ∷ []) ts f s) l in
    and_from _ _ (and_from _ _ (and_from _ _ (eq-eqb _ _ a.0.fits) a.0.stands) x.0) (take_values (e ++ z ∷ []) ts f s a.1 x.1)
