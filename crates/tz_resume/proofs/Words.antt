-- Words that are read where words were written.
use Rattle.std.proofs.Common.{◌≡◌, ◌≢◌, ℕ, ◌+◌, ◌^◌, ◌<◌, Bool, true, false, cond, [], ◌∷◌, Some, refl, ap, ◌∙◌, arith}
use Rattle.std.specs.Prelude.{is_some, slice_index}
use Rattle.std.specs.FinMap.{get, insert, get-insert}
use Rattle.std.specs.Ordering.{nat_cmp, eq_by_cmp}
use Rattle.std.specs.Cmp.{nat_cmp_total}
use Rattle.std.specs.Int.{w32, from_le_bytes, to_le_bytes}
use Rattle.std.proofs.lemmas.Bool.Decides.{nat_tests}
use Rattle.std.proofs.lemmas.Nat.{from_le_bytes-to_le_bytes_4}
use Rattle.tz_model.specs.Words.{wrap}
use Rattle.tz_state.specs.Memory.{Memory, word_at, with_byte, with_word}

-- ---- a byte

tied : (q a : ℕ) → q ≡ a → eq_by_cmp nat_cmp q a ≡ true
tied q a e = grind (arith, nat_tests)

untied : (q a : ℕ) → q ≢ a → eq_by_cmp nat_cmp q a ≡ false
untied q a e = grind (arith, nat_tests)

pub byte_away : (m : Memory) (a b q : ℕ) → q ≢ a → get (with_byte m a b) q ≡ get m q
unfolding with_byte
byte_away m a b q ne = go (is_some (get m a)) where
  go : (t : Bool) → get (cond t (insert m a b) m) q ≡ get m q
  go false = refl
  go true = get-insert nat_cmp_total m a b q ∙ rw (untied q a ne) refl

pub byte_here : (m : Memory) (a b : ℕ) → is_some (get m a) ≡ true → get (with_byte m a b) a ≡ Some b
unfolding with_byte
byte_here m a b there = rw there (get-insert nat_cmp_total m a b a ∙ rw (tied a a refl) refl)

-- no byte comes or goes
pub byte_stays : (m : Memory) (a b q : ℕ) → is_some (get m q) ≡ true → is_some (get (with_byte m a b) q) ≡ true
unfolding with_byte
byte_stays m a b q there = go (is_some (get m a)) where
  go : (t : Bool) → is_some (get (cond t (insert m a b) m) q) ≡ true
  go false = there
  go true = ap (is_some {T = ℕ}) (get-insert nat_cmp_total m a b q) ∙ pick (eq_by_cmp nat_cmp q a) where
    pick : (t : Bool) → is_some (cond t (Some b) (get m q)) ≡ true
    pick false = there
    pick true = refl

-- ---- a word

pub word_away : (m : Memory) (a n q : ℕ) → q ≢ a → q ≢ wrap (a + 1) → q ≢ wrap (a + 2) → q ≢ wrap (a + 3) → get (with_word m a n) q ≡ get m q
unfolding with_word
word_away m a n q n0 n1 n2 n3 = byte_away _ _ _ q n3 ∙ byte_away _ _ _ q n2 ∙ byte_away _ _ _ q n1 ∙ byte_away m a _ q n0

pub word_stays : (m : Memory) (a n q : ℕ) → is_some (get m q) ≡ true → is_some (get (with_word m a n) q) ≡ true
unfolding with_word
word_stays m a n q there = byte_stays _ _ _ q (byte_stays _ _ _ q (byte_stays _ _ _ q (byte_stays m a _ q there)))

spelled : (n : ℕ) → slice_index (to_le_bytes w32 n) 0 ∷ slice_index (to_le_bytes w32 n) 1 ∷ slice_index (to_le_bytes w32 n) 2 ∷ slice_index (to_le_bytes w32 n) 3 ∷ [] ≡ to_le_bytes w32 n
spelled n = refl

pub word_here : (m : Memory) (a n : ℕ) → a < 2 ^ 32 → n < 2 ^ 32 → is_some (get m a) ≡ true → is_some (get m (wrap (a + 1))) ≡ true → is_some (get m (wrap (a + 2))) ≡ true → is_some (get m (wrap (a + 3))) ≡ true
    → word_at (with_word m a n) a ≡ n
unfolding with_word word_at
word_here m a n fits small i0 i1 i2 i3 =
    let bs = to_le_bytes w32 n in
    let m1 = with_byte m a (slice_index bs 0) in
    let m2 = with_byte m1 (wrap (a + 1)) (slice_index bs 1) in
    let m3 = with_byte m2 (wrap (a + 2)) (slice_index bs 2) in
    let m4 = with_byte m3 (wrap (a + 3)) (slice_index bs 3) in
    let e0 : get m4 a ≡ Some (slice_index bs 0) = byte_away m3 _ _ a (omega arith) ∙ byte_away m2 _ _ a (omega arith) ∙ byte_away m1 _ _ a (omega arith) ∙ byte_here m a _ i0 in
    let e1 : get m4 (wrap (a + 1)) ≡ Some (slice_index bs 1) = byte_away m3 _ _ _ (omega arith) ∙ byte_away m2 _ _ _ (omega arith) ∙ byte_here m1 _ _ (byte_stays m a _ _ i1) in
    let e2 : get m4 (wrap (a + 2)) ≡ Some (slice_index bs 2) = byte_away m3 _ _ _ (omega arith) ∙ byte_here m2 _ _ (byte_stays m1 _ _ _ (byte_stays m a _ _ i2)) in
    let e3 : get m4 (wrap (a + 3)) ≡ Some (slice_index bs 3) = byte_here m3 _ _ (byte_stays m2 _ _ _ (byte_stays m1 _ _ _ (byte_stays m a _ _ i3))) in
    rw (e0, e1, e2, e3) (ap (from_le_bytes w32) (spelled n) ∙ from_le_bytes-to_le_bytes_4 n small)
