-- Words as bytes and back.
use Rattle.std.proofs.Common.{◌≡◌, ℕ, zero, suc, ◌+◌, ◌*◌, ◌^◌, ◌<◌, ◌≤◌, List, [], ◌∷◌, ◌++◌, length, drop, Some, None, refl, sym, ap, ◌∙◌, arith}
use Rattle.std.specs.Prelude.{slice_get, slice_index}
use Rattle.std.specs.Int.{w32, from_le_bytes}
use Rattle.std.proofs.lemmas.Nat.{from_le_bytes-to_le_bytes_4, le_bytes_4}
use Rattle.tz_fields.specs.ReadWords.{words_of, AreWords}
use Rattle.tz_snap.specs.FileWords.{AreBytes, bytes_of_words}

pub no_words : AreWords []
no_words k w e = cc

pub one_more_word : (w : ℕ) (ws : List ℕ) → w < 2 ^ 32 → AreWords ws → AreWords (w ∷ ws)
one_more_word w ws l h zero v e = let same : w ≡ v = cc in omega arith
one_more_word w ws l h (suc k) v e = h k v e

pub both_words : (xs ys : List ℕ) → AreWords xs → AreWords ys → AreWords (xs ++ ys)
both_words [] ys h i = i
both_words (x ∷ xs) ys h i = one_more_word x (xs ++ ys) (h 0 x refl) (both_words xs ys (λ k v e. h (suc k) v e) i)

-- words without their first ones
pub fewer_words : (n : ℕ) (ws : List ℕ) → AreWords ws → AreWords (drop n ws)
fewer_words zero ws h = h
fewer_words (suc n) [] h = h
fewer_words (suc n) (w ∷ ws) h = fewer_words n ws (λ k x e. h (suc k) x e)

-- words are read as they were written
pub words_of_bytes : (ws : List ℕ) → AreWords ws → words_of (bytes_of_words ws) ≡ ws
unfolding words_of
words_of_bytes [] h = refl
words_of_bytes (w ∷ ws) h =
    ap (λ (x : ℕ). x ∷ words_of (bytes_of_words ws)) (from_le_bytes-to_le_bytes_4 w (h 0 w refl))
    ∙ ap (λ (xs : List ℕ). w ∷ xs) (words_of_bytes ws (λ k v e. h (suc k) v e))

four_bytes : (a b c d : ℕ) (bytes : List ℕ) → AreBytes (a ∷ b ∷ c ∷ d ∷ bytes) → AreBytes (a ∷ b ∷ c ∷ d ∷ [])
four_bytes a b c d bytes h zero = h 0
four_bytes a b c d bytes h (suc zero) = h 1
four_bytes a b c d bytes h (suc (suc zero)) = h 2
four_bytes a b c d bytes h (suc (suc (suc zero))) = h 3
four_bytes a b c d bytes h (suc (suc (suc (suc k)))) = omega arith

-- bytes of whole words are those of their words
pub bytes_of_words_of : (bytes : List ℕ) (n : ℕ) → AreBytes bytes → length bytes ≡ 4 * n → bytes_of_words (words_of bytes) ≡ bytes
unfolding words_of
bytes_of_words_of [] n h e = refl
bytes_of_words_of (a ∷ []) n h e = absurd (omega arith)
bytes_of_words_of (a ∷ b ∷ []) n h e = absurd (omega arith)
bytes_of_words_of (a ∷ b ∷ c ∷ []) n h e = absurd (omega arith)
bytes_of_words_of (a ∷ b ∷ c ∷ d ∷ bytes) zero h e = absurd (omega arith)
bytes_of_words_of (a ∷ b ∷ c ∷ d ∷ bytes) (suc n) h e =
    ap (λ (xs : List ℕ). xs ++ bytes_of_words (words_of bytes)) (le_bytes_4 (a ∷ b ∷ c ∷ d ∷ []) _ refl (four_bytes a b c d bytes h) refl)
    ∙ ap (λ (xs : List ℕ). a ∷ b ∷ c ∷ d ∷ xs) (bytes_of_words_of bytes n (λ k. h (suc (suc (suc (suc k))))) (omega arith))

pub length_bytes : (ws : List ℕ) → length (bytes_of_words ws) ≡ 4 * length ws
length_bytes [] = refl
length_bytes (w ∷ ws) = let e = length_bytes ws in omega arith

pub length_words : (bytes : List ℕ) (n : ℕ) → length bytes ≡ 4 * n → length (words_of bytes) ≡ n
unfolding words_of
length_words [] n e = omega arith
length_words (a ∷ []) n e = absurd (omega arith)
length_words (a ∷ b ∷ []) n e = absurd (omega arith)
length_words (a ∷ b ∷ c ∷ []) n e = absurd (omega arith)
length_words (a ∷ b ∷ c ∷ d ∷ bytes) zero e = absurd (omega arith)
length_words (a ∷ b ∷ c ∷ d ∷ bytes) (suc n) e = let more = length_words bytes n (omega arith) in omega arith

four_more : (n : ℕ) → 4 * suc n ≡ suc (suc (suc (suc (4 * n))))
four_more n = omega arith

-- without their first words
pub drop_words : (n : ℕ) (bytes : List ℕ) → words_of (drop (4 * n) bytes) ≡ drop n (words_of bytes)
unfolding words_of
drop_words zero bytes = refl
drop_words (suc n) [] = ap (λ (k : ℕ). words_of (drop k [])) (four_more n)
drop_words (suc n) (a ∷ []) = ap (λ (k : ℕ). words_of (drop k (a ∷ []))) (four_more n)
drop_words (suc n) (a ∷ b ∷ []) = ap (λ (k : ℕ). words_of (drop k (a ∷ b ∷ []))) (four_more n)
drop_words (suc n) (a ∷ b ∷ c ∷ []) = ap (λ (k : ℕ). words_of (drop k (a ∷ b ∷ c ∷ []))) (four_more n)
drop_words (suc n) (a ∷ b ∷ c ∷ d ∷ bytes) = ap (λ (k : ℕ). words_of (drop k (a ∷ b ∷ c ∷ d ∷ bytes))) (four_more n) ∙ drop_words n bytes

-- the word at an index, where it is there
pub word_there : (bytes : List ℕ) (i : ℕ) → 4 * i + 4 ≤ length bytes →
    slice_get (words_of bytes) i ≡ Some (from_le_bytes w32 (slice_index bytes (4 * i) ∷ slice_index bytes (4 * i + 1) ∷ slice_index bytes (4 * i + 2) ∷ slice_index bytes (4 * i + 3) ∷ []))
unfolding words_of
word_there [] i l = absurd (omega arith)
word_there (a ∷ []) i l = absurd (omega arith)
word_there (a ∷ b ∷ []) i l = absurd (omega arith)
word_there (a ∷ b ∷ c ∷ []) i l = absurd (omega arith)
word_there (a ∷ b ∷ c ∷ d ∷ bytes) zero l = refl
word_there (a ∷ b ∷ c ∷ d ∷ bytes) (suc i) l =
    let all = a ∷ b ∷ c ∷ d ∷ bytes in
    let first : 4 * suc i ≡ suc (suc (suc (suc (4 * i)))) = omega arith in
    let second : 4 * suc i + 1 ≡ suc (suc (suc (suc (4 * i + 1)))) = omega arith in
    let third : 4 * suc i + 2 ≡ suc (suc (suc (suc (4 * i + 2)))) = omega arith in
    let fourth : 4 * suc i + 3 ≡ suc (suc (suc (suc (4 * i + 3)))) = omega arith in
    word_there bytes i (omega arith)
    ∙ sym (ap (λ (k : ℕ). Some (from_le_bytes w32 (slice_index all k ∷ slice_index all (4 * suc i + 1) ∷ slice_index all (4 * suc i + 2) ∷ slice_index all (4 * suc i + 3) ∷ []))) first
    ∙ ap (λ (k : ℕ). Some (from_le_bytes w32 (slice_index bytes (4 * i) ∷ slice_index all k ∷ slice_index all (4 * suc i + 2) ∷ slice_index all (4 * suc i + 3) ∷ []))) second
    ∙ ap (λ (k : ℕ). Some (from_le_bytes w32 (slice_index bytes (4 * i) ∷ slice_index bytes (4 * i + 1) ∷ slice_index all k ∷ slice_index all (4 * suc i + 3) ∷ []))) third
    ∙ ap (λ (k : ℕ). Some (from_le_bytes w32 (slice_index bytes (4 * i) ∷ slice_index bytes (4 * i + 1) ∷ slice_index bytes (4 * i + 2) ∷ slice_index all k ∷ []))) fourth)

-- and where it isn't
pub word_past : (bytes : List ℕ) (i : ℕ) → length bytes < 4 * i + 4 → slice_get (words_of bytes) i ≡ None
unfolding words_of
word_past [] i l = refl
word_past (a ∷ []) i l = refl
word_past (a ∷ b ∷ []) i l = refl
word_past (a ∷ b ∷ c ∷ []) i l = refl
word_past (a ∷ b ∷ c ∷ d ∷ bytes) zero l = absurd (omega arith)
word_past (a ∷ b ∷ c ∷ d ∷ bytes) (suc i) l = word_past bytes i (omega arith)
