-- What setting and clearing a bit of a word leaves, and the least bit from one on.
use Rattle.std.proofs.Common.{◌≡◌, ◌≢◌, ℕ, ◌-◌, ◌*◌, ◌/◌, ◌%◌, ◌^◌, ◌<◌, ◌≤◌, Bool, true, false, List, length, get_or, set, get_or-set_same, get_or-set_other, ap, ◌∙◌, sym, refl, arith, inl, inr, ◌⊎◌}
use Rattle.std.specs.Prelude.{bit_and, bit_or, ◌==◌, ◌&&◌, not}
use Rattle.std.specs.Int.{bit_at, trailing_zeros, w32}
use Rattle.std.proofs.lemmas.Nat.Bits.{bit_at-lt, bit_at_and, bit_at_set_same, bit_at_set_other, bit_at_clear_same, bit_at_clear_other, bit_at_mask_inside, bit_at_mask_below, bit_at-trailing_zeros, ones_shl}
use Rattle.tz_ready.specs.Levels.{has_bit, is_set, FailsWithin, IsLeast}

one : ℕ → Bool
one b = b == 1

shifted : ℕ → ℕ
shifted k = 1 * 2 ^ (k % 32) % 4294967296

abbrev word_of : List ℕ → ℕ → ℕ
word_of words k = get_or words (k / 32) 0

abbrev put : List ℕ → ℕ → List ℕ
put words k = set words (k / 32) (bit_or (word_of words k) (1 * 2 ^ (k % 32) % 4294967296))

abbrev taken : List ℕ → ℕ → List ℕ
taken words k = set words (k / 32) (bit_and (word_of words k) (4294967295 - 1 * 2 ^ (k % 32) % 4294967296))

-- a bit of a word that isn't the one at k, or is in another word
other_word : (words : List ℕ) (k j w : ℕ) → j / 32 ≢ k / 32 → is_set (set words (k / 32) w) j ≡ is_set words j
other_word words k j w d = ap (λ x. has_bit x (j % 32)) (get_or-set_other words (k / 32) (j / 32) w 0 d)

-- the word at k is written so that a bit stays
kept_bit : (words : List ℕ) (k j w : ℕ) → k / 32 < length words → j / 32 ≡ k / 32 → bit_at w (j % 32) ≡ bit_at (word_of words k) (j % 32) → is_set (set words (k / 32) w) j ≡ is_set words j
kept_bit words k j w h e b =
    ap (λ i. has_bit (get_or (set words (k / 32) w) i 0) (j % 32)) e
    ∙ ap (λ x. has_bit x (j % 32)) (get_or-set_same words (k / 32) w 0 h)
    ∙ ap (λ x. x == 1) b
    ∙ ap (λ i. has_bit (get_or words i 0) (j % 32)) (sym e)

same_or_not : (a b : ℕ) → (a ≡ b) ⊎ (a ≢ b)
same_or_not a b = grind arith

other_bit : (j k : ℕ) → j ≢ k → j / 32 ≡ k / 32 → j % 32 ≢ k % 32
other_bit j k d e f = d (omega arith)

pub put_same : (words : List ℕ) (k : ℕ) → k / 32 < length words → is_set (put words k) k ≡ true
put_same words k h =
    ap (λ x. has_bit x (k % 32)) (get_or-set_same words (k / 32) (bit_or (word_of words k) (1 * 2 ^ (k % 32) % 4294967296)) 0 h)
    ∙ ap (λ b. b == 1) (bit_at_set_same w32 (word_of words k) (k % 32) (omega arith))

pub put_other : (words : List ℕ) (k : ℕ) → k / 32 < length words → (j : ℕ) → j ≢ k → is_set (put words k) j ≡ is_set words j
put_other words k h j d = elim (same_or_not (j / 32) (k / 32)) [
  | inl e ↦ kept_bit words k j (bit_or (word_of words k) (1 * 2 ^ (k % 32) % 4294967296)) h e (bit_at_set_other w32 (word_of words k) (k % 32) (omega arith) (j % 32) (other_bit j k d e))
  | inr n ↦ other_word words k j (bit_or (word_of words k) (1 * 2 ^ (k % 32) % 4294967296)) n
]

pub taken_same : (words : List ℕ) (k : ℕ) → k / 32 < length words → is_set (taken words k) k ≡ false
taken_same words k h =
    ap (λ x. has_bit x (k % 32)) (get_or-set_same words (k / 32) (bit_and (word_of words k) (4294967295 - 1 * 2 ^ (k % 32) % 4294967296)) 0 h)
    ∙ ap (λ b. b == 1) (bit_at_clear_same w32 (word_of words k) (k % 32) (omega arith))

pub taken_other : (words : List ℕ) (k : ℕ) → k / 32 < length words → (j : ℕ) → j ≢ k → is_set (taken words k) j ≡ is_set words j
taken_other words k h j d = elim (same_or_not (j / 32) (k / 32)) [
  | inl e ↦ kept_bit words k j (bit_and (word_of words k) (4294967295 - 1 * 2 ^ (k % 32) % 4294967296)) h e (bit_at_clear_other w32 (word_of words k) (k % 32) (omega arith) (j % 32) (omega arith) (other_bit j k d e))
  | inr n ↦ other_word words k j (bit_and (word_of words k) (4294967295 - 1 * 2 ^ (k % 32) % 4294967296)) n
]

-- ---- the bits of a word from one on

abbrev rest : ℕ → ℕ → ℕ
rest word from = bit_and word (4294967295 * 2 ^ from % 4294967296)

mask_is : (from : ℕ) → from < 32 → 4294967295 * 2 ^ from % 4294967296 ≡ 2 ^ 32 - 2 ^ from
mask_is from h = ones_shl 32 from (omega arith)

rest_above : (word from j : ℕ) → from < 32 → from ≤ j → j < 32 → bit_at (rest word from) j ≡ bit_at word j
rest_above word from j h l m =
    let mask : bit_at (4294967295 * 2 ^ from % 4294967296) j ≡ 1 = ap (λ x. bit_at x j) (mask_is from h) ∙ bit_at_mask_inside from 32 j l m in
    omega (arith, bit_at_and word (4294967295 * 2 ^ from % 4294967296) j, mask, bit_at-lt word j)

rest_below : (word from j : ℕ) → from < 32 → j < from → bit_at (rest word from) j ≡ 0
rest_below word from j h l =
    let mask : bit_at (4294967295 * 2 ^ from % 4294967296) j ≡ 0 = ap (λ x. bit_at x j) (mask_is from h) ∙ bit_at_mask_below from 32 j l in
    omega (arith, bit_at_and word (4294967295 * 2 ^ from % 4294967296) j, mask)

pub no_bit : (word from : ℕ) → from < 32 → rest word from ≡ 0 → FailsWithin (has_bit word) from 32
no_bit word from h e j l m = ap (λ x. x == 1) (sym (rest_above word from j h l m) ∙ ap (λ x. bit_at x j) e ∙ zero_bit j) where
  zero_bit : (j : ℕ) → bit_at 0 j ≡ 0
  zero_bit j = omega arith

pub is_least : (word from : ℕ) → from < 32 → 0 < rest word from → rest word from < 4294967296 → IsLeast (has_bit word) from 32 (trailing_zeros w32 (rest word from))
is_least word from h some few =
    let t = bit_at-trailing_zeros w32 (rest word from) some few in
    let at = trailing_zeros w32 (rest word from) in
    let low : from ≤ at = not_below at t.1 in
    record {
      from = low;
      few = t.0;
      passes = ap (λ x. x == 1) (sym (rest_above word from at h low t.0) ∙ t.1);
      first = λ j l m. ap (λ x. x == 1) (sym (rest_above word from j h l (omega (arith, t.0))) ∙ t.2 j m);
    }
  where
    below_or_not : (at : ℕ) → (at < from) ⊎ (from ≤ at)
    below_or_not at = grind arith

    not_below : (at : ℕ) → bit_at (rest word from) at ≡ 1 → from ≤ at
    not_below at b = elim (below_or_not at) [ inl l ↦ absurd (omega (arith, b, rest_below word from at h l)) | inr g ↦ g ]

-- a bit that is cleared where nothing is left
pub none_left : (b t : Bool) → t ≡ true → false ≡ (b && not t)
none_left true true e = refl
none_left false true e = refl
none_left true false e = cc
none_left false false e = refl
