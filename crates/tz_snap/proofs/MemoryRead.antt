-- Memory that is read word by word, the bytes of each region in their order.
use Rattle.std.proofs.Common.{◌≡◌, ◌⊎◌, inl, inr, ⊎_elim, ℕ, zero, suc, ◌+◌, ◌-◌, ◌*◌, ◌/◌, ◌%◌, ◌^◌, ◌<◌, ◌≤◌, Bool, true, false, ◌&&◌, ◌||◌, nat_le, nat_lt, cond, if◌then◌else◌, List, [], ◌∷◌, ◌++◌, length, drop, take, Option, Some, None, refl, sym, ap, ◌∙◌, subst, arith, length-drop}
use Rattle.std.specs.Prelude.{slice_index, is_some, unwrap_or, replicate}
use Rattle.std.specs.Int.{w32, from_le_bytes, to_le_bytes}
use Rattle.std.specs.Ordering.{nat_cmp, eq_by_cmp}
use Rattle.std.specs.Cmp.{nat_cmp_total}
use Rattle.std.specs.FinMap.{get, find, insert, get-insert, get-from_entries, same_map, nat_cmp-IsAntisymmetric}
use Rattle.std.proofs.lemmas.Bool.{and_parts, cases_eq, cases_lt, eqb-true, leb-true, le-leb, lt-ltb, ltb-true, ltb-false}
use Rattle.std.proofs.lemmas.Bool.Decides.{nat_tests}
use Rattle.std.proofs.lemmas.Nat.{from_le_bytes-to_le_bytes_4, le_bytes_4}
use Rattle.std.proofs.lemmas.List.{drop_at, take-append-drop}
use Rattle.std.proofs.lemmas.List.Sums.{sum_by-cons}
use Rattle.tz_model.specs.declared.board.Region.{Region}
use Rattle.tz_model.specs.Board.{in_region, is_region, are_regions, is_apart, apart_from, are_apart, is_multiple}
use Rattle.tz_model.specs.Image.{entries_from}
use Rattle.tz_model.specs.Words.{wrap}
use Rattle.tz_state.specs.Access.{is_mapped}
use Rattle.tz_state.specs.Memory.{Memory, byte_at, word_at, with_byte, with_word}
use Rattle.tz_state.specs.Zeros.{zero_entries, zero_memory}
use Rattle.tz_fields.specs.StateWords.{words_from, memory_words, memory_count}
use Rattle.tz_fields.specs.ReadWords.{with_words, with_regions, AreWords}
use Rattle.tz_snap.proofs.Counts.{from_count}
use Rattle.tz_snap.proofs.Words.{fewer_words}

tied : (q a : ℕ) → q ≡ a → eq_by_cmp nat_cmp q a ≡ true
tied q a e = grind (arith, nat_tests)

untied : (q a : ℕ) → (q ≡ a → ⊥) → eq_by_cmp nat_cmp q a ≡ false
untied q a e = grind (arith, nat_tests)

-- ---- one byte

-- there are bytes at the same addresses
abbrev pub SameAddresses : Memory → Memory → Type 0
SameAddresses m n = (a : ℕ) → is_some (get m a) ≡ is_some (get n a)

pub byte_kept : (m : Memory) (a x : ℕ) → SameAddresses (with_byte m a x) m
unfolding with_byte
byte_kept m a x c = go (get m a) refl where
  at_same : (t : Bool) → eq_by_cmp nat_cmp c a ≡ t → is_some (get m a) ≡ true → is_some (cond t (Some x) (get m c)) ≡ is_some (get m c)
  at_same false e there = refl
  at_same true e there = let same : c ≡ a = grind (arith, nat_tests) in sym (ap (λ (q : ℕ). is_some (get m q)) same ∙ there)

  go : (o : Option ℕ) → get m a ≡ o → is_some (get (cond (is_some o) (insert m a x) m) c) ≡ is_some (get m c)
  go None e = refl
  go (Some y) e = ap is_some (get-insert nat_cmp_total m a x c) ∙ at_same (eq_by_cmp nat_cmp c a) refl (ap is_some e)

byte_here : (m : Memory) (a x : ℕ) → is_some (get m a) ≡ true → byte_at (with_byte m a x) a ≡ x
unfolding with_byte
byte_here m a x there =
    ap (λ (t : Bool). byte_at (if t then insert m a x else m) a) there
    ∙ ap (λ (o : Option ℕ). unwrap_or o 0) (get-insert nat_cmp_total m a x a ∙ ap (λ (t : Bool). cond t (Some x) (get m a)) (tied a a refl))

byte_beside : (m : Memory) (a x c : ℕ) → (c ≡ a → ⊥) → byte_at (with_byte m a x) c ≡ byte_at m c
unfolding with_byte
byte_beside m a x c ne = go (is_some (get m a)) where
  go : (t : Bool) → byte_at (cond t (insert m a x) m) c ≡ byte_at m c
  go false = refl
  go true = ap (λ (o : Option ℕ). unwrap_or o 0) (get-insert nat_cmp_total m a x c ∙ ap (λ (t : Bool). cond t (Some x) (get m c)) (untied c a ne))

-- ---- one word

-- one of four bytes of a word
abbrev part : ℕ → ℕ → ℕ
part w i = slice_index (to_le_bytes w32 w) i

-- where no address is past the last
word_put : (m : Memory) (a w : ℕ) → a + 4 ≤ 2 ^ 32 → with_word m a w ≡ with_byte (with_byte (with_byte (with_byte m a (part w 0)) (a + 1) (part w 1)) (a + 2) (part w 2)) (a + 3) (part w 3)
unfolding with_word
word_put m a w l =
    let one : wrap (a + 1) ≡ a + 1 = omega arith in
    let two : wrap (a + 2) ≡ a + 2 = omega arith in
    let three : wrap (a + 3) ≡ a + 3 = omega arith in
    λ i. with_byte (with_byte (with_byte (with_byte m a (part w 0)) (one i) (part w 1)) (two i) (part w 2)) (three i) (part w 3)

word_kept : (m : Memory) (a w : ℕ) → SameAddresses (with_word m a w) m
unfolding with_word
word_kept m a w c = byte_kept _ (wrap (a + 3)) _ c ∙ byte_kept _ (wrap (a + 2)) _ c ∙ byte_kept _ (wrap (a + 1)) _ c ∙ byte_kept m a _ c

word_beside : (m : Memory) (a w c : ℕ) → a + 4 ≤ 2 ^ 32 → (c < a) ⊎ (a + 4 ≤ c) → byte_at (with_word m a w) c ≡ byte_at m c
word_beside m a w c l out =
    let zero' : c ≡ a → ⊥ = λ e. ⊎_elim (λ (h : c < a). omega arith) (λ (h : a + 4 ≤ c). omega arith) out in
    let one : c ≡ a + 1 → ⊥ = λ e. ⊎_elim (λ (h : c < a). omega arith) (λ (h : a + 4 ≤ c). omega arith) out in
    let two : c ≡ a + 2 → ⊥ = λ e. ⊎_elim (λ (h : c < a). omega arith) (λ (h : a + 4 ≤ c). omega arith) out in
    let three : c ≡ a + 3 → ⊥ = λ e. ⊎_elim (λ (h : c < a). omega arith) (λ (h : a + 4 ≤ c). omega arith) out in
    ap (λ (n : Memory). byte_at n c) (word_put m a w l)
    ∙ byte_beside _ (a + 3) _ c three ∙ byte_beside _ (a + 2) _ c two ∙ byte_beside _ (a + 1) _ c one ∙ byte_beside m a _ c zero'

-- there are bytes at n addresses from one on
abbrev pub AreThere : Memory → ℕ → ℕ → Type 0
AreThere m a n = (c : ℕ) → a ≤ c → c < a + n → is_some (get m c) ≡ true

-- the bytes of a word that was put
record FourBytes (m : Memory) (a w : ℕ) : Type 0 where
  first : byte_at m a ≡ part w 0
  second : byte_at m (a + 1) ≡ part w 1
  third : byte_at m (a + 2) ≡ part w 2
  fourth : byte_at m (a + 3) ≡ part w 3

word_bytes : (m : Memory) (a w : ℕ) → a + 4 ≤ 2 ^ 32 → AreThere m a 4 → FourBytes (with_word m a w) a w
word_bytes m a w l there =
    let m1 = with_byte m a (part w 0) in
    let m2 = with_byte m1 (a + 1) (part w 1) in
    let m3 = with_byte m2 (a + 2) (part w 2) in
    let m4 = with_byte m3 (a + 3) (part w 3) in
    let is : FourBytes m4 a w =
    record {
      first = byte_beside m3 (a + 3) _ a (λ e. omega arith) ∙ byte_beside m2 (a + 2) _ a (λ e. omega arith) ∙ byte_beside m1 (a + 1) _ a (λ e. omega arith)
          ∙ byte_here m a (part w 0) (there a (omega arith) (omega arith));
      second = byte_beside m3 (a + 3) _ (a + 1) (λ e. omega arith) ∙ byte_beside m2 (a + 2) _ (a + 1) (λ e. omega arith)
          ∙ byte_here m1 (a + 1) (part w 1) (byte_kept m a _ (a + 1) ∙ there (a + 1) (omega arith) (omega arith));
      third = byte_beside m3 (a + 3) _ (a + 2) (λ e. omega arith)
          ∙ byte_here m2 (a + 2) (part w 2) (byte_kept m1 (a + 1) _ (a + 2) ∙ byte_kept m a _ (a + 2) ∙ there (a + 2) (omega arith) (omega arith));
      fourth = byte_here m3 (a + 3) (part w 3) (byte_kept m2 (a + 2) _ (a + 3) ∙ byte_kept m1 (a + 1) _ (a + 3) ∙ byte_kept m a _ (a + 3) ∙ there (a + 3) (omega arith) (omega arith));
    }
    in
    subst (λ (n : Memory). FourBytes n a w) (sym (word_put m a w l)) is

-- a word by its bytes, where no address is past the last
word_by : (m : Memory) (a : ℕ) → a + 4 ≤ 2 ^ 32 → word_at m a ≡ from_le_bytes w32 (byte_at m a ∷ byte_at m (a + 1) ∷ byte_at m (a + 2) ∷ byte_at m (a + 3) ∷ [])
unfolding word_at
word_by m a l =
    let one : wrap (a + 1) ≡ a + 1 = omega arith in
    let two : wrap (a + 2) ≡ a + 2 = omega arith in
    let three : wrap (a + 3) ≡ a + 3 = omega arith in
    λ i. from_le_bytes w32 (byte_at m a ∷ byte_at m (one i) ∷ byte_at m (two i) ∷ byte_at m (three i) ∷ [])

word_of_bytes : (m : Memory) (a w : ℕ) → a + 4 ≤ 2 ^ 32 → w < 2 ^ 32 → FourBytes m a w → word_at m a ≡ w
word_of_bytes m a w l small h =
    word_by m a l
    ∙ (λ i. from_le_bytes w32 (h.first i ∷ h.second i ∷ h.third i ∷ h.fourth i ∷ []))
    ∙ from_le_bytes-to_le_bytes_4 w small

same_word : (m n : Memory) (a : ℕ) → a + 4 ≤ 2 ^ 32 → ((c : ℕ) → a ≤ c → c < a + 4 → byte_at m c ≡ byte_at n c) → word_at m a ≡ word_at n a
same_word m n a l same =
    let zero' = same a (omega arith) (omega arith) in
    let one = same (a + 1) (omega arith) (omega arith) in
    let two = same (a + 2) (omega arith) (omega arith) in
    let three = same (a + 3) (omega arith) (omega arith) in
    word_by m a l ∙ (λ i. from_le_bytes w32 (zero' i ∷ one i ∷ two i ∷ three i ∷ [])) ∙ sym (word_by n a l)

-- ---- n words

words_kept : (m : Memory) (a n : ℕ) (ws : List ℕ) → SameAddresses (with_words m a n ws) m
unfolding with_words
words_kept m a zero ws c = refl
words_kept m a (suc n) [] c = refl
words_kept m a (suc n) (w ∷ ws) c = words_kept (with_word m a w) (a + 4) n ws c ∙ word_kept m a w c

words_beside : (m : Memory) (a n : ℕ) (ws : List ℕ) (c : ℕ) → a + 4 * n ≤ 2 ^ 32 → (c < a) ⊎ (a + 4 * n ≤ c) → byte_at (with_words m a n ws) c ≡ byte_at m c
unfolding with_words
words_beside m a zero ws c l out = refl
words_beside m a (suc n) [] c l out = refl
words_beside m a (suc n) (w ∷ ws) c l out =
    words_beside (with_word m a w) (a + 4) n ws c (omega arith) (⊎_elim (λ (h : c < a). inl (omega arith)) (λ (h : a + 4 * suc n ≤ c). inr (omega arith)) out)
    ∙ word_beside m a w c (omega arith) (⊎_elim (λ (h : c < a). inl h) (λ (h : a + 4 * suc n ≤ c). inr (omega arith)) out)

same_words : (m n : Memory) (a k : ℕ) → a + 4 * k ≤ 2 ^ 32 → ((c : ℕ) → a ≤ c → c < a + 4 * k → byte_at m c ≡ byte_at n c) → words_from m a k ≡ words_from n a k
unfolding words_from
same_words m n a zero l same = refl
same_words m n a (suc k) l same =
    let here = same_word m n a (omega arith) (λ c low high. same c low (omega arith)) in
    let more = same_words m n (a + 4) k (omega arith) (λ c low high. same c (omega arith) (omega arith)) in
    λ i. here i ∷ more i

-- words that were put are the words there
words_put : (m : Memory) (a n : ℕ) (ws : List ℕ) → a + 4 * n ≤ 2 ^ 32 → n ≤ length ws → AreWords ws → AreThere m a (4 * n) → words_from (with_words m a n ws) a n ≡ take n ws
unfolding with_words words_from
words_put m a zero ws l long small there = refl
words_put m a (suc n) [] l long small there = absurd (omega arith)
words_put m a (suc n) (w ∷ ws) l long small there =
    let next = with_word m a w in
    let all = with_words next (a + 4) n ws in
    let bytes = word_bytes m a w (omega arith) (λ c low high. there c low (omega arith)) in
    let here : word_at all a ≡ w =
    same_word all next a (omega arith) (λ c low high. words_beside next (a + 4) n ws c (omega arith) (inl (omega arith)))
    ∙ word_of_bytes next a w (omega arith) (small 0 w refl) bytes
    in
    let more : words_from all (a + 4) n ≡ take n ws =
    words_put next (a + 4) n ws (omega arith) (omega arith) (λ k x e. small (suc k) x e) (λ c low high. word_kept m a w c ∙ there c (omega arith) (omega arith))
    in
    λ i. here i ∷ more i

-- ---- the words of another memory

AreSmall : Memory → Type 0
AreSmall m = (a : ℕ) → byte_at m a < 256

four_back : (p q r s : ℕ) → p < 256 → q < 256 → r < 256 → s < 256 → to_le_bytes w32 (from_le_bytes w32 (p ∷ q ∷ r ∷ s ∷ [])) ≡ p ∷ q ∷ r ∷ s ∷ []
four_back p q r s hp hq hr hs = le_bytes_4 (p ∷ q ∷ r ∷ s ∷ []) (from_le_bytes w32 (p ∷ q ∷ r ∷ s ∷ [])) refl each refl where
  each : (i : ℕ) → slice_index (p ∷ q ∷ r ∷ s ∷ []) i < 256
  each zero = hp
  each (suc zero) = hq
  each (suc (suc zero)) = hr
  each (suc (suc (suc zero))) = hs
  each (suc (suc (suc (suc i)))) = omega arith

word_copied : (m n : Memory) (a : ℕ) → a + 4 ≤ 2 ^ 32 → ((c : ℕ) → byte_at n c < 256) → AreThere m a 4 → (c : ℕ) → a ≤ c → c < a + 4 → byte_at (with_word m a (word_at n a)) c ≡ byte_at n c
word_copied m n a l small there c low high =
    let w = word_at n a in
    let bytes = word_bytes m a w l there in
    let parts : to_le_bytes w32 w ≡ byte_at n a ∷ byte_at n (a + 1) ∷ byte_at n (a + 2) ∷ byte_at n (a + 3) ∷ [] =
    ap (to_le_bytes w32) (word_by n a l) ∙ four_back (byte_at n a) (byte_at n (a + 1)) (byte_at n (a + 2)) (byte_at n (a + 3)) (small a) (small (a + 1)) (small (a + 2)) (small (a + 3))
    in
    let put : Memory = with_word m a w in
    by_place put (bytes.first ∙ ap (λ (bs : List ℕ). slice_index bs 0) parts) (bytes.second ∙ ap (λ (bs : List ℕ). slice_index bs 1) parts)
    (bytes.third ∙ ap (λ (bs : List ℕ). slice_index bs 2) parts) (bytes.fourth ∙ ap (λ (bs : List ℕ). slice_index bs 3) parts) (cases_lt c (a + 1)) (cases_lt c (a + 2)) (cases_lt c (a + 3))
  where
    at : (put : Memory) (d e : ℕ) → e ≡ d → byte_at put d ≡ byte_at n d → byte_at put e ≡ byte_at n e
    at put d e same h = subst (λ (x : ℕ). byte_at put x ≡ byte_at n x) (sym same) h

    by_place : (put : Memory) → byte_at put a ≡ byte_at n a → byte_at put (a + 1) ≡ byte_at n (a + 1) → byte_at put (a + 2) ≡ byte_at n (a + 2) → byte_at put (a + 3) ≡ byte_at n (a + 3)
        → (c < a + 1) ⊎ (a + 1 ≤ c) → (c < a + 2) ⊎ (a + 2 ≤ c) → (c < a + 3) ⊎ (a + 3 ≤ c) → byte_at put c ≡ byte_at n c
    by_place put h0 h1 h2 h3 (inl x) y z = at put a c (omega arith) h0
    by_place put h0 h1 h2 h3 (inr x) (inl y) z = at put (a + 1) c (omega arith) h1
    by_place put h0 h1 h2 h3 (inr x) (inr y) (inl z) = at put (a + 2) c (omega arith) h2
    by_place put h0 h1 h2 h3 (inr x) (inr y) (inr z) = at put (a + 3) c (omega arith) h3

words_copied : (m n : Memory) (a k : ℕ) (more : List ℕ) → a + 4 * k ≤ 2 ^ 32 → ((c : ℕ) → byte_at n c < 256) → AreThere m a (4 * k) → (c : ℕ) → a ≤ c → c < a + 4 * k
    → byte_at (with_words m a k (words_from n a k ++ more)) c ≡ byte_at n c
unfolding with_words words_from
words_copied m n a zero more l small there c low high = absurd (omega arith)
words_copied m n a (suc k) more l small there c low high =
    let next = with_word m a (word_at n a) in
    ⊎_elim
    (λ (h : c < a + 4).
    words_beside next (a + 4) k (words_from n (a + 4) k ++ more) c (omega arith) (inl h)
    ∙ word_copied m n a (omega arith) small (λ d from below. there d from (omega arith)) c low h)
    (λ (h : a + 4 ≤ c). words_copied next n (a + 4) k more (omega arith) small (λ d from below. word_kept m a (word_at n a) d ∙ there d (omega arith) (omega arith)) c h (omega arith))
    (cases_lt c (a + 4))

-- ---- regions

-- what is said of a region that takes whole words
record IsBlock (r : Region) : Type 0 where
  words : 4 * (r.size / 4) ≡ r.size
  low : r.base + r.size ≤ 2 ^ 32

block_of : (r : Region) → is_region r ≡ true → IsBlock r
block_of r is =
    let one = and_parts (is_multiple 32 r.base) _ is in
    let two = and_parts (is_multiple 32 r.size) _ one.1 in
    let three = and_parts (nat_le 32 r.size) (nat_le (r.base + r.size) 0xE0000000) two.1 in
    let size = eqb-true (r.size % 32) 0 two.0 in
    let end = leb-true (r.base + r.size) 0xE0000000 three.1 in
    record { words = omega arith; low = omega arith }

within_region : (r : Region) (c : ℕ) → in_region r c ≡ true → (r.base ≤ c) × (c < r.base + r.size)
within_region r c is =
    let parts = and_parts (nat_le r.base c) (nat_lt (c - r.base) r.size) is in
    let low = leb-true r.base c parts.0 in
    let high = ltb-true (c - r.base) r.size parts.1 in
    (omega arith, omega arith)

beside_region : (r : Region) (c : ℕ) → in_region r c ≡ false → (c < r.base) ⊎ (r.base + r.size ≤ c)
beside_region r c out =
    ⊎_elim (λ (h : c < r.base). inl h)
    (λ (h : r.base ≤ c).
    let past = ltb-false (c - r.base) r.size (ap (λ (t : Bool). t && nat_lt (c - r.base) r.size) (sym (le-leb r.base c h)) ∙ out) in
    inr (omega arith))
    (cases_lt c r.base)

not_in : (r : Region) (c : ℕ) → (c < r.base) ⊎ (r.base + r.size ≤ c) → in_region r c ≡ false
not_in r c out = by_test (in_region r c) (λ is.
    let h = within_region r c is in
    ⊎_elim (λ (low : c < r.base). omega arith) (λ (high : r.base + r.size ≤ c). omega arith) out)
  where
    by_test : (t : Bool) → (t ≡ true → ⊥) → t ≡ false
    by_test true h = absurd (h refl)
    by_test false h = refl

-- an address of a region is in none that is apart from it
elsewhere : (r : Region) (qs : List Region) (c : ℕ) → apart_from r qs ≡ true → in_region r c ≡ true → is_mapped qs c ≡ false
unfolding is_mapped
elsewhere r [] c apart is = refl
elsewhere r (q ∷ qs) c apart is =
    let parts = and_parts (is_apart r q) (apart_from r qs) apart in
    let h = within_region r c is in
    ap (λ (t : Bool). if t then true else is_mapped qs c) (not_in q c (by_ends (nat_le (r.base + r.size) q.base) refl parts.0 h.0 h.1)) ∙ elsewhere r qs c parts.1 is
  where
    by_ends : (t : Bool) → nat_le (r.base + r.size) q.base ≡ t → (t || nat_le (q.base + q.size) r.base) ≡ true → r.base ≤ c → c < r.base + r.size → (c < q.base) ⊎ (q.base + q.size ≤ c)
    by_ends true e h low high = let l = leb-true (r.base + r.size) q.base e in inl (omega arith)
    by_ends false e h low high = let l = leb-true (q.base + q.size) r.base h in inr (omega arith)

pub regions_kept : (m : Memory) (rs : List Region) (ws : List ℕ) → SameAddresses (with_regions m rs ws) m
unfolding with_regions
regions_kept m [] ws c = refl
regions_kept m (r ∷ rs) ws c = regions_kept (with_words m r.base (r.size / 4) ws) rs (drop (r.size / 4) ws) c ∙ words_kept m r.base (r.size / 4) ws c

first_mapped : (r : Region) (rs : List Region) (c : ℕ) → in_region r c ≡ true → is_mapped (r ∷ rs) c ≡ true
unfolding is_mapped
first_mapped r rs c is = ap (λ (t : Bool). if t then true else is_mapped rs c) is

later_mapped : (r : Region) (rs : List Region) (c : ℕ) → is_mapped rs c ≡ true → is_mapped (r ∷ rs) c ≡ true
unfolding is_mapped
later_mapped r rs c is = go (in_region r c) where
  go : (t : Bool) → (if t then true else is_mapped rs c) ≡ true
  go true = refl
  go false = is

both_unmapped : (r : Region) (rs : List Region) (c : ℕ) → is_mapped (r ∷ rs) c ≡ false → (in_region r c ≡ false) × (is_mapped rs c ≡ false)
unfolding is_mapped
both_unmapped r rs c out = go (in_region r c) refl out where
  go : (t : Bool) → in_region r c ≡ t → (if t then true else is_mapped rs c) ≡ false → (in_region r c ≡ false) × (is_mapped rs c ≡ false)
  go true e h = cc
  go false e h = (e, h)

in_first : (r : Region) (rs : List Region) (c : ℕ) → is_mapped (r ∷ rs) c ≡ true → is_mapped rs c ≡ false → in_region r c ≡ true
unfolding is_mapped
in_first r rs c is out = go (in_region r c) refl is where
  go : (t : Bool) → in_region r c ≡ t → (if t then true else is_mapped rs c) ≡ true → in_region r c ≡ true
  go true e h = e
  go false e h = cc

regions_beside : (m : Memory) (rs : List Region) (ws : List ℕ) (c : ℕ) → are_regions rs ≡ true → is_mapped rs c ≡ false → byte_at (with_regions m rs ws) c ≡ byte_at m c
unfolding with_regions
regions_beside m [] ws c are out = refl
regions_beside m (r ∷ rs) ws c are out =
    let parts = and_parts (is_region r) (are_regions rs) are in
    let block = block_of r parts.0 in
    let outs = both_unmapped r rs c out in
    let words = block.words in
    let low = block.low in
    regions_beside (with_words m r.base (r.size / 4) ws) rs (drop (r.size / 4) ws) c parts.1 outs.1
    ∙ words_beside m r.base (r.size / 4) ws c (omega arith) (⊎_elim (λ (h : c < r.base). inl h) (λ (h : r.base + r.size ≤ c). inr (omega arith)) (beside_region r c outs.0))

-- there is a byte at each address of regions
abbrev pub AreMapped : Memory → List Region → Type 0
AreMapped m rs = (c : ℕ) → is_mapped rs c ≡ true → is_some (get m c) ≡ true

region_there : (m : Memory) (r : Region) (rs : List Region) → IsBlock r → AreMapped m (r ∷ rs) → AreThere m r.base (4 * (r.size / 4))
region_there m r rs block there c low high =
    let words = block.words in
    there c (first_mapped r rs c (in_is (omega arith)))
  where
    in_is : c < r.base + r.size → in_region r c ≡ true
    in_is h =
        ap (λ (t : Bool). t && nat_lt (c - r.base) r.size) (le-leb r.base c low) ∙ lt-ltb (c - r.base) r.size (omega arith)

-- words that were put into regions are their words
pub regions_put : (m : Memory) (rs : List Region) (ws : List ℕ) → are_regions rs ≡ true → are_apart rs ≡ true → AreMapped m rs → AreWords ws → length ws ≡ memory_count rs
    → memory_words (with_regions m rs ws) rs ≡ ws
unfolding with_regions memory_words
regions_put m [] [] are apart there small long = refl
regions_put m [] (w ∷ ws) are apart there small long = absurd (omega arith)
regions_put m (r ∷ rs) ws are apart there small long =
    let parts = and_parts (is_region r) (are_regions rs) are in
    let aparts = and_parts (apart_from r rs) (are_apart rs) apart in
    let block = block_of r parts.0 in
    let words = block.words in
    let low = block.low in
    let k = r.size / 4 in
    let count = sum_by-cons (λ (q : Region). q.size / 4) r rs in
    let left = length-drop k ws in
    let next = with_words m r.base k ws in
    let all = with_regions next rs (drop k ws) in
    let here : words_from all r.base k ≡ take k ws =
    same_words all next r.base k (omega arith) (λ c from below. regions_beside next rs (drop k ws) c parts.1 (elsewhere r rs c aparts.0 (in_is c from (omega arith))))
    ∙ words_put m r.base k ws (omega arith) (omega arith) small (region_there m r rs block there)
    in
    let more : memory_words all rs ≡ drop k ws =
    regions_put next rs (drop k ws) parts.1 aparts.1 (λ c is. words_kept m r.base k ws c ∙ there c (later_mapped r rs c is)) (fewer_words k ws small) (omega arith)
    in
    (λ i. here i ++ more i) ∙ take-append-drop k ws
  where
    in_is : (c : ℕ) → r.base ≤ c → c < r.base + r.size → in_region r c ≡ true
    in_is c low h =
        ap (λ (t : Bool). t && nat_lt (c - r.base) r.size) (le-leb r.base c low) ∙ lt-ltb (c - r.base) r.size (omega arith)

none_mapped : (c : ℕ) → is_mapped [] c ≡ true → ⊥
unfolding is_mapped
none_mapped c e = cc

-- the words of another memory leave its bytes there
regions_copied : (m n : Memory) (rs : List Region) (c : ℕ) → are_regions rs ≡ true → AreMapped m rs → ((a : ℕ) → byte_at n a < 256) → is_mapped rs c ≡ true
    → byte_at (with_regions m rs (memory_words n rs)) c ≡ byte_at n c
unfolding with_regions memory_words
regions_copied m n [] c are there small is = absurd (none_mapped c is)
regions_copied m n (r ∷ rs) c are there small is =
    let parts = and_parts (is_region r) (are_regions rs) are in
    let block = block_of r parts.0 in
    let words = block.words in
    let low = block.low in
    let k = r.size / 4 in
    let more = memory_words n rs in
    let ws = words_from n r.base k ++ more in
    let next = with_words m r.base k ws in
    let behind : drop k ws ≡ more = drop_at (words_from n r.base k) more k (from_count n r.base k) in
    let mapped : AreMapped next rs = λ a h. words_kept m r.base k ws a ∙ there a (later_mapped r rs a h) in
    ap (λ (xs : List ℕ). byte_at (with_regions next rs xs) c) behind
    ∙ by_later (is_mapped rs c) refl
    (λ h. regions_copied next n rs c parts.1 mapped small h)
    (λ h.
    let inside = within_region r c (in_first r rs c is h) in
    regions_beside next rs more c parts.1 h
    ∙ words_copied m n r.base k more (omega arith) small (region_there m r rs block there) c inside.0 (omega (arith, inside.1, words)))
  where
    by_later : {X : Type 0} (t : Bool) → is_mapped rs c ≡ t → (is_mapped rs c ≡ true → X) → (is_mapped rs c ≡ false → X) → X
    by_later true e f g = f e
    by_later false e f g = g e

-- ---- memory to read into

find_in : (base n c : ℕ) (es : List (ℕ × ℕ)) → base ≤ c → c < base + n → find nat_cmp c (entries_from base (replicate n 0) ++ es) ≡ Some 0
find_in base zero c es low high = absurd (omega arith)
find_in base (suc n) c es low high =
    ⊎_elim
    (λ (e : c ≡ base). ap (λ (t : Bool). cond t (Some 0) (find nat_cmp c (entries_from (base + 1) (replicate n 0) ++ es))) (tied c base e))
    (λ (ne : c ≡ base → ⊥).
    let other : ¬ (c ≡ base) = ne in
    ap (λ (t : Bool). cond t (Some 0) (find nat_cmp c (entries_from (base + 1) (replicate n 0) ++ es))) (untied c base ne) ∙ find_in (base + 1) n c es (omega arith) (omega arith))
    (cases_eq c base)

find_out : (base n c : ℕ) (es : List (ℕ × ℕ)) → (c < base) ⊎ (base + n ≤ c) → find nat_cmp c (entries_from base (replicate n 0) ++ es) ≡ find nat_cmp c es
find_out base zero c es out = refl
find_out base (suc n) c es out =
    ap (λ (t : Bool). cond t (Some 0) (find nat_cmp c (entries_from (base + 1) (replicate n 0) ++ es)))
    (untied c base (λ e. ⊎_elim (λ (h : c < base). omega arith) (λ (h : base + suc n ≤ c). omega arith) out))
    ∙ find_out (base + 1) n c es (⊎_elim (λ (h : c < base). inl (omega arith)) (λ (h : base + suc n ≤ c). inr (omega arith)) out)

find_zero : (rs : List Region) (c : ℕ) → find nat_cmp c (zero_entries rs) ≡ (if is_mapped rs c then Some 0 else None)
unfolding is_mapped
find_zero [] c = refl
find_zero (r ∷ rs) c = go (in_region r c) refl (find_zero rs c) where
  go : (t : Bool) → in_region r c ≡ t → find nat_cmp c (zero_entries rs) ≡ (if is_mapped rs c then Some 0 else None)
      → find nat_cmp c (zero_entries (r ∷ rs)) ≡ (if (if t then true else is_mapped rs c) then Some 0 else None)
  go true e h = let inside = within_region r c e in find_in r.base r.size c (zero_entries rs) inside.0 inside.1
  go false e h = find_out r.base r.size c (zero_entries rs) (beside_region r c e) ∙ h

get_zero : (rs : List Region) (c : ℕ) → get (zero_memory rs) c ≡ (if is_mapped rs c then Some 0 else None)
unfolding zero_memory
get_zero rs c = get-from_entries nat_cmp_total (zero_entries rs) c ∙ find_zero rs c

pub zero_mapped : (rs : List Region) (c : ℕ) → is_some (get (zero_memory rs) c) ≡ is_mapped rs c
zero_mapped rs c = ap is_some (get_zero rs c) ∙ go (is_mapped rs c) where
  go : (t : Bool) → is_some {T = ℕ} (if t then Some 0 else None) ≡ t
  go true = refl
  go false = refl

pub zero_small : (rs : List Region) (c : ℕ) → byte_at (zero_memory rs) c < 256
zero_small rs c = subst (λ (o : Option ℕ). unwrap_or o 0 < 256) (sym (get_zero rs c)) (go (is_mapped rs c)) where
  go : (t : Bool) → unwrap_or (if t then Some 0 else None) 0 < 256
  go true = omega arith
  go false = omega arith

-- ---- bytes stay small

pub byte_small : (m : Memory) (a x : ℕ) → x < 256 → ((c : ℕ) → byte_at m c < 256) → (c : ℕ) → byte_at (with_byte m a x) c < 256
unfolding with_byte
byte_small m a x l small c = go (is_some (get m a)) where
  either : (t : Bool) → unwrap_or (cond t (Some x) (get m c)) 0 < 256
  either true = l
  either false = small c

  go : (t : Bool) → byte_at (cond t (insert m a x) m) c < 256
  go false = small c
  go true = subst (λ (o : Option ℕ). unwrap_or o 0 < 256) (sym (get-insert nat_cmp_total m a x c)) (either (eq_by_cmp nat_cmp c a))

word_small : (m : Memory) (a w : ℕ) → ((c : ℕ) → byte_at m c < 256) → (c : ℕ) → byte_at (with_word m a w) c < 256
unfolding with_word
word_small m a w small =
    byte_small _ (wrap (a + 3)) (part w 3) (omega arith)
    (byte_small _ (wrap (a + 2)) (part w 2) (omega arith) (byte_small _ (wrap (a + 1)) (part w 1) (omega arith) (byte_small m a (part w 0) (omega arith) small)))

words_small : (m : Memory) (a n : ℕ) (ws : List ℕ) → ((c : ℕ) → byte_at m c < 256) → (c : ℕ) → byte_at (with_words m a n ws) c < 256
unfolding with_words
words_small m a zero ws small = small
words_small m a (suc n) [] small = small
words_small m a (suc n) (w ∷ ws) small = words_small (with_word m a w) (a + 4) n ws (word_small m a w small)

regions_small : (m : Memory) (rs : List Region) (ws : List ℕ) → ((c : ℕ) → byte_at m c < 256) → (c : ℕ) → byte_at (with_regions m rs ws) c < 256
unfolding with_regions
regions_small m [] ws small = small
regions_small m (r ∷ rs) ws small = regions_small (with_words m r.base (r.size / 4) ws) rs (drop (r.size / 4) ws) (words_small m r.base (r.size / 4) ws small)

-- ---- both ways

-- what words make of the memory of a board
pub record IsMade (rs : List Region) (ws : List ℕ) (m : Memory) : Type 0 where
  pub words : memory_words m rs ≡ ws
  pub mapped : (a : ℕ) → is_some (get m a) ≡ is_mapped rs a
  pub small : (a : ℕ) → byte_at m a < 256

pub memory_made : (rs : List Region) (ws : List ℕ) → are_regions rs ≡ true → are_apart rs ≡ true → AreWords ws → length ws ≡ memory_count rs → IsMade rs ws (with_regions (zero_memory rs) rs ws)
memory_made rs ws are apart small long = record {
  words = regions_put (zero_memory rs) rs ws are apart (λ c is. zero_mapped rs c ∙ is) small long;
  mapped = λ a. regions_kept (zero_memory rs) rs ws a ∙ zero_mapped rs a;
  small = regions_small (zero_memory rs) rs ws (zero_small rs);
}

same_option : (o p : Option ℕ) → is_some o ≡ is_some p → (is_some o ≡ true → unwrap_or o 0 ≡ unwrap_or p 0) → o ≡ p
same_option None None e h = refl
same_option None (Some y) e h = cc
same_option (Some x) None e h = cc
same_option (Some x) (Some y) e h = ap Some (h refl)

-- the words of a memory make it again
pub memory_back : (rs : List Region) (n : Memory) → are_regions rs ≡ true → ((a : ℕ) → is_some (get n a) ≡ is_mapped rs a) → ((a : ℕ) → byte_at n a < 256)
    → with_regions (zero_memory rs) rs (memory_words n rs) ≡ n
memory_back rs n are mapped small =
    let m = with_regions (zero_memory rs) rs (memory_words n rs) in
    let there : (a : ℕ) → is_some (get m a) ≡ is_mapped rs a = λ a. regions_kept (zero_memory rs) rs (memory_words n rs) a ∙ zero_mapped rs a in
    same_map nat_cmp_total nat_cmp-IsAntisymmetric m n (λ a. same_option (get m a) (get n a) (there a ∙ sym (mapped a)) (λ is.
    regions_copied (zero_memory rs) n rs a are (λ c h. zero_mapped rs c ∙ h) small (sym (there a) ∙ is)))
