-- A field put in the place of bits of a word.
use Rattle.std.proofs.Common.{◌≡◌, ℕ, ◌+◌, ◌-◌, ◌*◌, ◌/◌, ◌%◌, ◌^◌, ◌<◌, ◌≤◌, arith, ◌∙◌, ap, sym}
use Rattle.std.proofs.lemmas.Nat.{pow-add, pow_pos, shr_split, mod_below, mul-add-lt, shl_whole, div_below}
use Rattle.tz_table.specs.Fields.{bits}
use Rattle.tz_sem.specs.Operations.{field_placed}

-- the low k bits, the bits above them, and a field moved to its place
low_part : (n k : ℕ) → bits n 0 k ≡ n % 2 ^ k
low_part n k = let e : n / 2 ^ 0 ≡ n = omega arith in ap (λ x. x % 2 ^ k) e

high_part : (n k : ℕ) → n - bits n 0 k ≡ n / 2 ^ k * 2 ^ k
high_part n k = omega (arith, low_part n k, shr_split n k)

field_shifted : (f l w : ℕ) → l + w ≤ 32 → bits f 0 w * 2 ^ l % 2 ^ 32 ≡ f % 2 ^ w * 2 ^ l
field_shifted f l w h =
    ap (λ x. x * 2 ^ l % 2 ^ 32) (low_part f w) ∙ shl_whole (f % 2 ^ w) w l 32 (mod_below f (2 ^ w) (pow_pos w)) (omega arith)

-- the three parts don't meet, so their sum is a word
pub placed_fits : (o f l w : ℕ) → o < 2 ^ 32 → l + w ≤ 32 → field_placed o f l w < 2 ^ 32
placed_fits o f l w h p =
    let m : 2 ^ (l + w) ≡ 2 ^ l * 2 ^ w = pow-add 2 l w in
    let q : l + w + (32 - (l + w)) ≡ 32 = omega arith in
    let t : 2 ^ 32 ≡ 2 ^ (l + w) * 2 ^ (32 - (l + w)) = ap (λ k. 2 ^ k) (sym q) ∙ pow-add 2 (l + w) (32 - (l + w)) in
    let low = mul-add-lt (f % 2 ^ w) (2 ^ l) (o % 2 ^ l) (2 ^ w) (mod_below f (2 ^ w) (pow_pos w)) (mod_below o (2 ^ l) (pow_pos l)) in
    let d : o / 2 ^ (l + w) < 2 ^ (32 - (l + w)) = div_below o (2 ^ (l + w)) (2 ^ (32 - (l + w))) (pow_pos (l + w)) (omega arith) in
    let all = mul-add-lt (o / 2 ^ (l + w)) (2 ^ (l + w)) (f % 2 ^ w * 2 ^ l + o % 2 ^ l) (2 ^ (32 - (l + w))) d (omega arith) in
    omega arith

pub placed_is : (o f l w : ℕ) → o < 2 ^ 32 → l + w ≤ 32 → o - bits o 0 (l + w) + bits f 0 w * 2 ^ l % 2 ^ 32 + bits o 0 l ≡ field_placed o f l w
placed_is o f l w h p = omega (arith, high_part o (l + w), field_shifted f l w p, low_part o l)

pub placed_above : (o f l w : ℕ) → o < 2 ^ 32 → l + w ≤ 32 → o - bits o 0 (l + w) + bits f 0 w * 2 ^ l % 2 ^ 32 < 2 ^ 32
placed_above o f l w h p = omega (arith, placed_is o f l w h p, placed_fits o f l w h p)

pub ruleset places = (placed_fits, placed_is, placed_above)
