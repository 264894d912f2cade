-- A number to which bits are added where it has zeros.
use Rattle.std.proofs.Common.{◌≡◌, ℕ, ◌+◌, ◌-◌, ◌*◌, ◌/◌, ◌%◌, ◌^◌, ◌<◌, ◌≤◌, sym, ◌∙◌, ap, arith}
use Rattle.std.proofs.lemmas.Nat.{pow-add, pow_pos, div-mul-add, mod-pow-add, div-add-mod'}
use Rattle.std.proofs.Math.Nat.{add-mul-div_right, mod-add-mod, div-div-eq-div-mul, add-mul-mod_self_right, mod-eq_of_lt, mul_assoc, mul_comm, mul-mod_left, mod-lt}
use Rattle.tz_table.specs.Fields.{bits}

-- 2 ^ k, where k is l and w and what is left
pow_split : (l w k : ℕ) → l + w ≤ k → 2 ^ k ≡ 2 ^ l * 2 ^ w * 2 ^ (k - (l + w))
pow_split l w k h =
    let e : l + w + (k - (l + w)) ≡ k = omega arith in
    ap (λ x. 2 ^ x) (sym e) ∙ pow-add 2 (l + w) (k - (l + w)) ∙ ap (λ x. x * 2 ^ (k - (l + w))) (pow-add 2 l w)

-- what is above the bits that are added stays
pub add_above : (n d l w k : ℕ) → bits n l w ≡ 0 → d < 2 ^ w → l + w ≤ k → (n + d * 2 ^ l) / 2 ^ k ≡ n / 2 ^ k
add_above n d l w k z lt h =
    let shifted : (n + d * 2 ^ l) / 2 ^ l ≡ n / 2 ^ l + d = add-mul-div_right n d (pow_pos l) in
    let whole : n / 2 ^ l ≡ n / 2 ^ l / 2 ^ w * 2 ^ w = sym (div-add-mod' (n / 2 ^ l) (2 ^ w)) ∙ ap (λ x. n / 2 ^ l / 2 ^ w * 2 ^ w + x) z ∙ omega arith in
    let dropped : (n / 2 ^ l + d) / 2 ^ w ≡ n / 2 ^ l / 2 ^ w = ap (λ x. (x + d) / 2 ^ w) whole ∙ div-mul-add (n / 2 ^ l / 2 ^ w) (2 ^ w) d lt in
    let apart : (m : ℕ) → m / 2 ^ k ≡ m / 2 ^ l / 2 ^ w / 2 ^ (k - (l + w)) = λ m. ap (λ x. m / x) (pow_split l w k h) ∙ sym (div-div-eq-div-mul m (2 ^ l * 2 ^ w) (2 ^ (k - (l + w)))) ∙ ap (λ x. x / 2 ^ (k - (l + w))) (sym (div-div-eq-div-mul m (2 ^ l) (2 ^ w))) in
    apart (n + d * 2 ^ l) ∙ ap (λ x. x / 2 ^ w / 2 ^ (k - (l + w))) shifted ∙ ap (λ x. x / 2 ^ (k - (l + w))) dropped ∙ sym (apart n)

regroup : (d a b c : ℕ) → d * (a * b * c) ≡ d * c * b * a
regroup d a b c = ap (λ x. d * x) (mul_comm (a * b) c ∙ ap (λ x. c * x) (mul_comm a b)) ∙ sym (mul_assoc d c (b * a)) ∙ sym (mul_assoc (d * c) b a)

-- what is below stays
pub add_below : (n d l k v : ℕ) → k + v ≤ l → bits (n + d * 2 ^ l) k v ≡ bits n k v
add_below n d l k v h =
    let moved : d * 2 ^ l ≡ d * 2 ^ (l - (k + v)) * 2 ^ v * 2 ^ k = ap (λ x. d * x) (pow_split k v l h) ∙ regroup d (2 ^ k) (2 ^ v) (2 ^ (l - (k + v))) in
    ap (λ x. (n + x) / 2 ^ k % 2 ^ v) moved
    ∙ ap (λ x. x % 2 ^ v) (add-mul-div_right n (d * 2 ^ (l - (k + v)) * 2 ^ v) (pow_pos k))
    ∙ add-mul-mod_self_right (n / 2 ^ k) (d * 2 ^ (l - (k + v))) (2 ^ v)

-- the bits that are added are there
pub add_here : (n d l w : ℕ) → bits n l w ≡ 0 → d < 2 ^ w → bits (n + d * 2 ^ l) l w ≡ d
add_here n d l w z lt =
    ap (λ x. x % 2 ^ w) (add-mul-div_right n d (pow_pos l))
    ∙ sym (mod-add-mod (n / 2 ^ l) (2 ^ w) d)
    ∙ ap (λ x. (x + d) % 2 ^ w) z
    ∙ ap (λ x. x % 2 ^ w) (omega arith)
    ∙ mod-eq_of_lt lt

-- a number without some of its bits
pub without : ℕ → ℕ → ℕ → ℕ
without n l w = n / 2 ^ (w + l) * 2 ^ (w + l) + n % 2 ^ l

pub without_sum : (n l w : ℕ) → n ≡ without n l w + bits n l w * 2 ^ l
unfolding without
without_sum n l w = sym (div-add-mod' n (2 ^ (w + l))) ∙ ap (λ x. n / 2 ^ (w + l) * 2 ^ (w + l) + x) (mod-pow-add n w l) ∙ omega arith

pub without_bits : (n l w : ℕ) → bits (without n l w) l w ≡ 0
unfolding without
without_bits n l w =
    let high : n / 2 ^ (w + l) * 2 ^ (w + l) ≡ n / 2 ^ (w + l) * 2 ^ w * 2 ^ l = ap (λ x. n / 2 ^ (w + l) * x) (pow-add 2 w l) ∙ sym (mul_assoc (n / 2 ^ (w + l)) (2 ^ w) (2 ^ l)) in
    let shifted : without n l w / 2 ^ l ≡ n / 2 ^ (w + l) * 2 ^ w = ap (λ x. (x + n % 2 ^ l) / 2 ^ l) high ∙ div-mul-add (n / 2 ^ (w + l) * 2 ^ w) (2 ^ l) (n % 2 ^ l) (mod-lt n (pow_pos l)) in
    ap (λ x. x % 2 ^ w) shifted ∙ mul-mod_left (n / 2 ^ (w + l)) (2 ^ w)
