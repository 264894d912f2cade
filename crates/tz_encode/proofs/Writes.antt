-- Numbers written into the parts of a code, one after the other.
use Rattle.std.proofs.Common.{◌≡◌, ℕ, ◌+◌, ◌*◌, ◌/◌, ◌%◌, ◌^◌, ◌<◌, ◌≤◌, Bool, true, not, ◌&&◌, ◌||◌, List, [], ◌∷◌, refl, sym, ◌∙◌, ap, arith, inl, inr}
use Rattle.std.specs.Prelude.{nat_le}
use Rattle.std.proofs.lemmas.Bool.{and_parts, or_cases, leb-true}
use Rattle.tz_table.specs.Fields.{bits}
use Rattle.tz_encode.specs.Slots.{bits_at, half_of, lies_in}
use Rattle.tz_encode.specs.declared.slot.Half.{Half}
use Rattle.tz_encode.specs.declared.slot.Half.TheVariants.{First, Second}
use Rattle.tz_encode.specs.declared.slot.Part.{Part}
use Rattle.tz_encode.proofs.Apart.{same_half, apart, apart_from, all_apart}
use Rattle.std.proofs.lemmas.Nat.{pow_pos}
use Rattle.std.proofs.Math.Nat.{mod-lt}
use Rattle.tz_encode.proofs.Sums.{add_above, add_below, add_here, without, without_sum, without_bits}

-- d, to be written under a part
pub record Write : Type 0 where
  pub part : Part
  pub digit : ℕ

-- a halfword after a write
abbrev pub after : Half → Write → ℕ → ℕ
after h w n = n + lies_in h w.part.half (w.digit * 2 ^ w.part.low)

abbrev pub after_all : Half → List Write → ℕ → ℕ
after_all h [] n = n
after_all h (w ∷ ws) n = after_all h ws (after h w n)

plus_zero : (n : ℕ) → n + 0 ≡ n
plus_zero n = omega arith

aside : (n d l w k v : ℕ) → bits n l w ≡ 0 → d < 2 ^ w → (nat_le (l + w) k || nat_le (k + v) l) ≡ true → bits (n + d * 2 ^ l) k v ≡ bits n k v
aside n d l w k v z lt h =
    elim (or_cases (nat_le (l + w) k) (nat_le (k + v) l) h) [
      | inl a ↦ ap (λ x. x % 2 ^ v) (add_above n d l w k z lt (leb-true (l + w) k a))
      | inr b ↦ add_below n d l k v (leb-true (k + v) l b)
    ]

-- the same, by the halves
by_halves : (g h : Half) (l w k v d f s : ℕ) → bits (half_of g f s) l w ≡ 0 → d < 2 ^ w → (not (same_half g h) || nat_le (l + w) k || nat_le (k + v) l) ≡ true → bits (half_of h (f + lies_in First g (d * 2 ^ l)) (s + lies_in Second g (d * 2 ^ l))) k v ≡ bits (half_of h f s) k v
by_halves First First l w k v d f s z lt a = aside f d l w k v z lt a
by_halves First Second l w k v d f s z lt a = ap (λ x. bits x k v) (plus_zero s)
by_halves Second First l w k v d f s z lt a = ap (λ x. bits x k v) (plus_zero f)
by_halves Second Second l w k v d f s z lt a = aside s d l w k v z lt a

here : (g : Half) (l w d f s : ℕ) → bits (half_of g f s) l w ≡ 0 → d < 2 ^ w → bits (half_of g (f + lies_in First g (d * 2 ^ l)) (s + lies_in Second g (d * 2 ^ l))) l w ≡ d
here First l w d f s z lt = add_here f d l w z lt
here Second l w d f s z lt = add_here s d l w z lt

-- other bits stay
pub wrote_other : (p q : Part) (d f s : ℕ) → bits_at p f s ≡ 0 → d < 2 ^ p.width → apart p q ≡ true → bits_at q (after First (record { part = p; digit = d }) f) (after Second (record { part = p; digit = d }) s) ≡ bits_at q f s
wrote_other p q d f s z lt h = by_halves p.half q.half p.low p.width q.low q.width d f s z lt h

-- the bits that were written
pub wrote_here : (p : Part) (d f s : ℕ) → bits_at p f s ≡ 0 → d < 2 ^ p.width → bits_at p (after First (record { part = p; digit = d }) f) (after Second (record { part = p; digit = d }) s) ≡ d
wrote_here p d f s z lt = here p.half p.low p.width d f s z lt

-- ---- several writes

abbrev pub parts_of : List Write → List Part
parts_of [] = []
parts_of (w ∷ ws) = w.part ∷ parts_of ws

-- there are zeros under the parts, and the digits fit them
abbrev pub Clear : List Write → ℕ → ℕ → Type 0
Clear [] f s = Unit {0}
Clear (w ∷ ws) f s = (bits_at w.part f s ≡ 0) × (w.digit < 2 ^ w.part.width) × Clear ws f s

-- the digits are there
abbrev pub Written : List Write → ℕ → ℕ → Type 0
Written [] f s = Unit {0}
Written (w ∷ ws) f s = (bits_at w.part f s ≡ w.digit) × Written ws f s

clear_after : (w : Write) (ws : List Write) (f s : ℕ) → bits_at w.part f s ≡ 0 → w.digit < 2 ^ w.part.width → apart_from w.part (parts_of ws) ≡ true → Clear ws f s → Clear ws (after First w f) (after Second w s)
clear_after w [] f s z lt a c = tt
clear_after w (v ∷ ws) f s z lt a c =
    let x = and_parts (apart w.part v.part && apart v.part w.part) (apart_from w.part (parts_of ws)) a in
    let y = and_parts (apart w.part v.part) (apart v.part w.part) x.0 in
    (wrote_other w.part v.part w.digit f s z lt y.0 ∙ c.0, c.1, clear_after w ws f s z lt x.1 c.2)

-- bits under other parts stay
pub kept_all : (q : Part) (ws : List Write) (f s : ℕ) → Clear ws f s → all_apart (parts_of ws) ≡ true → apart_from q (parts_of ws) ≡ true → bits_at q (after_all First ws f) (after_all Second ws s) ≡ bits_at q f s
kept_all q [] f s c a b = refl
kept_all q (w ∷ ws) f s c a b =
    let x = and_parts (apart_from w.part (parts_of ws)) (all_apart (parts_of ws)) a in
    let y = and_parts (apart q w.part && apart w.part q) (apart_from q (parts_of ws)) b in
    let z = and_parts (apart q w.part) (apart w.part q) y.0 in
    kept_all q ws (after First w f) (after Second w s) (clear_after w ws f s c.0 c.1 x.0 c.2) x.1 y.1
    ∙ wrote_other w.part q w.digit f s c.0 c.1 z.1

-- each digit is there after all writes
pub written_all : (ws : List Write) (f s : ℕ) → Clear ws f s → all_apart (parts_of ws) ≡ true → Written ws (after_all First ws f) (after_all Second ws s)
written_all [] f s c a = tt
written_all (w ∷ ws) f s c a =
    let x = and_parts (apart_from w.part (parts_of ws)) (all_apart (parts_of ws)) a in
    let later : Clear ws (after First w f) (after Second w s) = clear_after w ws f s c.0 c.1 x.0 c.2 in (
      kept_all w.part ws (after First w f) (after Second w s) later x.1 x.0 ∙ wrote_here w.part w.digit f s c.0 c.1,
      written_all ws (after First w f) (after Second w s) later x.1,
    )

-- ---- no write goes past a halfword

abbrev pub all_below : ℕ → List Part → Bool
all_below top [] = true
all_below top (p ∷ ps) = nat_le (p.low + p.width) top && all_below top ps

stays_below : (h g : Half) (l w d f s top : ℕ) → bits (half_of g f s) l w ≡ 0 → d < 2 ^ w → l + w ≤ top → (half_of h (f + lies_in First g (d * 2 ^ l)) (s + lies_in Second g (d * 2 ^ l))) / 2 ^ top ≡ half_of h f s / 2 ^ top
stays_below First First l w d f s top z lt h = add_above f d l w top z lt h
stays_below Second Second l w d f s top z lt h = add_above s d l w top z lt h
stays_below First Second l w d f s top z lt h = ap (λ x. x / 2 ^ top) (plus_zero f)
stays_below Second First l w d f s top z lt h = ap (λ x. x / 2 ^ top) (plus_zero s)

pub below_all : (h : Half) (ws : List Write) (f s top : ℕ) → Clear ws f s → all_apart (parts_of ws) ≡ true → all_below top (parts_of ws) ≡ true → half_of h (after_all First ws f) (after_all Second ws s) / 2 ^ top ≡ half_of h f s / 2 ^ top
below_all h [] f s top c a b = refl
below_all h (w ∷ ws) f s top c a b =
    let x = and_parts (apart_from w.part (parts_of ws)) (all_apart (parts_of ws)) a in
    let y = and_parts (nat_le (w.part.low + w.part.width) top) (all_below top (parts_of ws)) b in
    below_all h ws (after First w f) (after Second w s) top (clear_after w ws f s c.0 c.1 x.0 c.2) x.1 y.1
    ∙ stays_below h w.part.half w.part.low w.part.width w.digit f s top c.0 c.1 (leb-true (w.part.low + w.part.width) top y.0)

-- ---- the bits under parts are no more than the code

abbrev pub sum_bits : Half → List Part → ℕ → ℕ → ℕ
sum_bits h [] f s = 0
sum_bits h (p ∷ ps) f s = lies_in h p.half (bits_at p f s * 2 ^ p.low) + sum_bits h ps f s

abbrev pub SameBits : List Part → ℕ → ℕ → ℕ → ℕ → Type 0
SameBits [] f s g t = Unit {0}
SameBits (p ∷ ps) f s g t = (bits_at p f s ≡ bits_at p g t) × SameBits ps f s g t

pub same_sums : (h : Half) (ps : List Part) (f s g t : ℕ) → SameBits ps f s g t → sum_bits h ps f s ≡ sum_bits h ps g t
same_sums h [] f s g t e = refl
same_sums h (p ∷ ps) f s g t e = ap (λ x. lies_in h p.half (x * 2 ^ p.low) + sum_bits h ps f s) e.0 ∙ ap (λ x. lies_in h p.half (bits_at p g t * 2 ^ p.low) + x) (same_sums h ps f s g t e.1)

same_after : (p : Part) (d : ℕ) (ps : List Part) (f s : ℕ) → bits_at p f s ≡ 0 → d < 2 ^ p.width → apart_from p ps ≡ true → SameBits ps (after First (record { part = p; digit = d }) f) (after Second (record { part = p; digit = d }) s) f s
same_after p d [] f s z lt a = tt
same_after p d (q ∷ ps) f s z lt a =
    let x = and_parts (apart p q && apart q p) (apart_from p ps) a in
    let y = and_parts (apart p q) (apart q p) x.0 in
    (wrote_other p q d f s z lt y.0, same_after p d ps f s z lt x.1)

add_less : (a b c n m : ℕ) → n ≡ m + a → b ≡ c → c ≤ m → a + b ≤ n
add_less a b c n m e q h = omega arith

sums_cons : (g : Half) (l w k : ℕ) (ps : List Part) → apart_from (record { half = g; low = l; width = w; shift = k }) ps ≡ true → ((f s : ℕ) → (sum_bits First ps f s ≤ f) × (sum_bits Second ps f s ≤ s)) → (f s : ℕ) → (lies_in First g (bits (half_of g f s) l w * 2 ^ l) + sum_bits First ps f s ≤ f) × (lies_in Second g (bits (half_of g f s) l w * 2 ^ l) + sum_bits Second ps f s ≤ s)
sums_cons First l w k ps a ih f s =
    let same = same_after (record { half = First; low = l; width = w; shift = k }) (bits f l w) ps (without f l w) s (without_bits f l w) (mod-lt (f / 2 ^ l) (pow_pos w)) a in
    let moved : (h : Half) → sum_bits h ps f s ≡ sum_bits h ps (without f l w) s = λ h. ap (λ x. sum_bits h ps x s) (without_sum f l w) ∙ ap (λ y. sum_bits h ps (without f l w + bits f l w * 2 ^ l) y) (sym (plus_zero s)) ∙ same_sums h ps (without f l w + bits f l w * 2 ^ l) (s + 0) (without f l w) s same in
    let h = ih (without f l w) s in (
      add_less (bits f l w * 2 ^ l) (sum_bits First ps f s) (sum_bits First ps (without f l w) s) f (without f l w) (without_sum f l w) (moved First) h.0,
      add_less 0 (sum_bits Second ps f s) (sum_bits Second ps (without f l w) s) s s (sym (plus_zero s)) (moved Second) h.1,
    )
sums_cons Second l w k ps a ih f s =
    let same = same_after (record { half = Second; low = l; width = w; shift = k }) (bits s l w) ps f (without s l w) (without_bits s l w) (mod-lt (s / 2 ^ l) (pow_pos w)) a in
    let moved : (h : Half) → sum_bits h ps f s ≡ sum_bits h ps f (without s l w) = λ h. ap (λ x. sum_bits h ps f x) (without_sum s l w) ∙ ap (λ y. sum_bits h ps y (without s l w + bits s l w * 2 ^ l)) (sym (plus_zero f)) ∙ same_sums h ps (f + 0) (without s l w + bits s l w * 2 ^ l) f (without s l w) same in
    let h = ih f (without s l w) in (
      add_less 0 (sum_bits First ps f s) (sum_bits First ps f (without s l w)) f f (sym (plus_zero f)) (moved First) h.0,
      add_less (bits s l w * 2 ^ l) (sum_bits Second ps f s) (sum_bits Second ps f (without s l w)) s (without s l w) (without_sum s l w) (moved Second) h.1,
    )

pub sums_le : (ps : List Part) (f s : ℕ) → all_apart ps ≡ true → (sum_bits First ps f s ≤ f) × (sum_bits Second ps f s ≤ s)
sums_le [] f s a = (omega arith, omega arith)
sums_le (p ∷ ps) f s a =
    let x = and_parts (apart_from p ps) (all_apart ps) a in
    sums_cons p.half p.low p.width p.shift ps x.0 (λ g t. sums_le ps g t x.1) f s
