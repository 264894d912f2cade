-- What a store overwrote, put back where it stood, gives memory as it was.
use Rattle.std.proofs.Common.{◌≡◌, ◌≢◌, ℕ, zero, suc, ◌+◌, ◌%◌, ◌^◌, ◌<◌, Bool, true, false, cond, List, [], ◌∷◌, ◌++◌, length, take, Option, Some, None, get_or, refl, sym, ap, ◌∙◌, arith}
use Rattle.std.specs.Prelude.{is_some, unwrap_or}
use Rattle.std.specs.FinMap.{get, insert, get-insert, same_map, nat_cmp-IsAntisymmetric}
use Rattle.std.specs.Ordering.{nat_cmp, eq_by_cmp}
use Rattle.std.specs.Cmp.{nat_cmp_total}
use Rattle.std.specs.Int.{w16, w32, from_le_bytes, to_le_bytes}
use Rattle.std.proofs.lemmas.Bool.Decides.{nat_tests}
use Rattle.std.proofs.lemmas.Nat.{le_bytes_2, le_bytes_4}
use Rattle.tz_table.specs.declared.units.Size.{Size}
use Rattle.tz_table.specs.declared.units.Size.TheVariants.{Byte, Half, Word}
use Rattle.tz_model.specs.Words.{wrap}
use Rattle.tz_state.specs.Memory.{Memory, byte_at, half_at, word_at, value_at, with_byte, with_half, with_word, with_value}
use Rattle.tz_access.specs.declared.written.Was.{Was}
use Rattle.tz_access.specs.Written.{put_back, undone}

-- ---- a byte

-- the byte of a map after a replacement
abbrev replaced : Option ℕ → ℕ → Option ℕ
replaced None v = None
replaced (Some x) v = Some v

get-with_byte : (m : Memory) (a v q : ℕ) → get (with_byte m a v) q ≡ cond (eq_by_cmp nat_cmp q a) (replaced (get m a) v) (get m q)
unfolding with_byte
get-with_byte m a v q = go (get m a) refl where
  none_there : (t : Bool) → eq_by_cmp nat_cmp q a ≡ t → get m a ≡ None → get m q ≡ cond t None (get m q)
  none_there false e none = refl
  none_there true e none = let same : q ≡ a = grind (arith, nat_tests) in ap (get m) same ∙ none

  go : (o : Option ℕ) → get m a ≡ o → get (cond (is_some o) (insert m a v) m) q ≡ cond (eq_by_cmp nat_cmp q a) (replaced o v) (get m q)
  go None e = none_there (eq_by_cmp nat_cmp q a) refl e
  go (Some x) e = get-insert nat_cmp_total m a v q

tied : (q a : ℕ) → q ≡ a → eq_by_cmp nat_cmp q a ≡ true
tied q a e = grind (arith, nat_tests)

untied : (q a : ℕ) → q ≢ a → eq_by_cmp nat_cmp q a ≡ false
untied q a e = grind (arith, nat_tests)

same_bytes : (m n : Memory) → ((q : ℕ) → get m q ≡ get n q) → m ≡ n
same_bytes m n is = same_map nat_cmp_total nat_cmp-IsAntisymmetric m n is

-- the last of two writes of a byte counts
byte_over : (m : Memory) (a x y : ℕ) → with_byte (with_byte m a x) a y ≡ with_byte m a y
byte_over m a x y = same_bytes _ _ (λ q.
    get-with_byte (with_byte m a x) a y q
    ∙ ap (λ o. cond (eq_by_cmp nat_cmp q a) (replaced o y) (get (with_byte m a x) q)) (here (get m a))
    ∙ either q (eq_by_cmp nat_cmp q a) (get-with_byte m a x q)
    ∙ sym (get-with_byte m a y q)) where
      twice : (o : Option ℕ) → replaced (replaced o x) y ≡ replaced o y
      twice None = refl
      twice (Some z) = refl

      here : (o : Option ℕ) → get (with_byte m a x) a ≡ replaced (get m a) x
      here o = get-with_byte m a x a ∙ ap (λ t. cond t (replaced (get m a) x) (get m a)) (tied a a refl)

      either : (q : ℕ) (t : Bool) → get (with_byte m a x) q ≡ cond t (replaced (get m a) x) (get m q)
          → cond t (replaced (replaced (get m a) x) y) (get (with_byte m a x) q) ≡ cond t (replaced (get m a) y) (get m q)
      either q true e = twice (get m a)
      either q false e = e

-- bytes at two addresses are written in either order
byte_swap : (m : Memory) (a b x y : ℕ) → a ≢ b → with_byte (with_byte m a x) b y ≡ with_byte (with_byte m b y) a x
byte_swap m a b x y apart = same_bytes _ _ (λ q.
    get-with_byte (with_byte m a x) b y q
    ∙ ap (λ o. cond (eq_by_cmp nat_cmp q b) (replaced o y) (get (with_byte m a x) q)) (away m a b x (λ e. apart (sym e)))
    ∙ ap (λ o. cond (eq_by_cmp nat_cmp q b) (replaced (get m b) y) o) (get-with_byte m a x q)
    ∙ order q (eq_by_cmp nat_cmp q a) (eq_by_cmp nat_cmp q b) refl refl
    ∙ sym (ap (λ o. cond (eq_by_cmp nat_cmp q a) (replaced (get m a) x) o) (get-with_byte m b y q))
    ∙ sym (ap (λ o. cond (eq_by_cmp nat_cmp q a) (replaced o x) (get (with_byte m b y) q)) (away m b a y apart))
    ∙ sym (get-with_byte (with_byte m b y) a x q)) where
      away : (n : Memory) (c d z : ℕ) → d ≢ c → get (with_byte n c z) d ≡ get n d
      away n c d z ne = get-with_byte n c z d ∙ ap (λ t. cond t (replaced (get n c) z) (get n d)) (untied d c ne)

      order : (q : ℕ) (s t : Bool) → eq_by_cmp nat_cmp q a ≡ s → eq_by_cmp nat_cmp q b ≡ t
          → cond t (replaced (get m b) y) (cond s (replaced (get m a) x) (get m q)) ≡ cond s (replaced (get m a) x) (cond t (replaced (get m b) y) (get m q))
      order q false t e f = refl
      order q true false e f = refl
      order q true true e f =
          let at : q ≡ a = grind (arith, nat_tests) in
          let too : q ≡ b = grind (arith, nat_tests) in
          absurd (apart (sym at ∙ too))

-- a byte that stands there, written, changes nothing
byte_back : (m : Memory) (a y : ℕ) → y ≡ byte_at m a → with_byte m a y ≡ m
byte_back m a y e = same_bytes _ _ (λ q. get-with_byte m a y q ∙ at q (eq_by_cmp nat_cmp q a) refl) where
  stands : (o : Option ℕ) → y ≡ unwrap_or o 0 → replaced o y ≡ o
  stands None f = refl
  stands (Some z) f = ap Some f

  at : (q : ℕ) (t : Bool) → eq_by_cmp nat_cmp q a ≡ t → cond t (replaced (get m a) y) (get m q) ≡ get m q
  at q false f = refl
  at q true f =
      let same : q ≡ a = grind (arith, nat_tests) in
      stands (get m a) e ∙ ap (get m) (sym same)

-- ---- a byte put back over writes of others

back_1 : (m : Memory) (a x y : ℕ) → y ≡ byte_at m a → with_byte (with_byte m a x) a y ≡ m
back_1 m a x y e = byte_over m a x y ∙ byte_back m a y e

back_2 : (m : Memory) (a b x v y : ℕ) → y ≡ byte_at m a → a ≢ b → with_byte (with_byte (with_byte m a x) b v) a y ≡ with_byte m b v
back_2 m a b x v y e ab = byte_swap (with_byte m a x) b a v y (λ f. ab (sym f)) ∙ ap (λ n. with_byte n b v) (back_1 m a x y e)

back_3 : (m : Memory) (a b c x v w y : ℕ) → y ≡ byte_at m a → a ≢ b → a ≢ c → with_byte (with_byte (with_byte (with_byte m a x) b v) c w) a y ≡ with_byte (with_byte m b v) c w
back_3 m a b c x v w y e ab ac = byte_swap (with_byte (with_byte m a x) b v) c a w y (λ f. ac (sym f)) ∙ ap (λ n. with_byte n c w) (back_2 m a b x v y e ab)

back_4 : (m : Memory) (a b c d x v w z y : ℕ) → y ≡ byte_at m a → a ≢ b → a ≢ c → a ≢ d
    → with_byte (with_byte (with_byte (with_byte (with_byte m a x) b v) c w) d z) a y ≡ with_byte (with_byte (with_byte m b v) c w) d z
back_4 m a b c d x v w z y e ab ac ad = byte_swap (with_byte (with_byte (with_byte m a x) b v) c w) d a z y (λ f. ad (sym f)) ∙ ap (λ n. with_byte n d z) (back_3 m a b c x v w y e ab ac)

-- ---- numbers

pairs : (m : Memory) (a b x v y z : ℕ) → y ≡ byte_at m a → z ≡ byte_at m b → a ≢ b → with_byte (with_byte (with_byte (with_byte m a x) b v) a y) b z ≡ m
pairs m a b x v y z e f ab = ap (λ n. with_byte n b z) (back_2 m a b x v y e ab) ∙ back_1 m b v z f

fours : (m : Memory) (a b c d x v w u y z s t : ℕ) → y ≡ byte_at m a → z ≡ byte_at m b → s ≡ byte_at m c → t ≡ byte_at m d → a ≢ b → a ≢ c → a ≢ d → b ≢ c → b ≢ d → c ≢ d
    → with_byte (with_byte (with_byte (with_byte (with_byte (with_byte (with_byte (with_byte m a x) b v) c w) d u) a y) b z) c s) d t ≡ m
fours m a b c d x v w u y z s t ey ez es et ab ac ad bc bd cd =
    ap (λ n. with_byte (with_byte (with_byte n b z) c s) d t) (back_4 m a b c d x v w u y ey ab ac ad)
    ∙ ap (λ n. with_byte (with_byte n c s) d t) (back_3 m b c d v w u z ez bc bd)
    ∙ pairs m c d w u s t es et cd

half_back : (m : Memory) (a v : ℕ) → byte_at m a < 2 ^ 8 → byte_at m (wrap (a + 1)) < 2 ^ 8 → with_half (with_half m a v) a (half_at m a % 2 ^ 16) ≡ m
unfolding with_half half_at
half_back m a v h0 h1 =
    let p = byte_at m a in
    let q = byte_at m (wrap (a + 1)) in
    let n = from_le_bytes w16 (p ∷ q ∷ []) in
    let small : n % 2 ^ 16 ≡ n = omega arith in
    let back : to_le_bytes w16 (n % 2 ^ 16) ≡ p ∷ q ∷ [] = le_bytes_2 (p ∷ q ∷ []) (n % 2 ^ 16) refl each small in
    let first : get_or (to_le_bytes w16 (n % 2 ^ 16)) 0 0 ≡ p = ap (λ bs. get_or bs 0 0) back in
    let second : get_or (to_le_bytes w16 (n % 2 ^ 16)) 1 0 ≡ q = ap (λ bs. get_or bs 1 0) back in
    pairs m a (wrap (a + 1)) _ _ _ _ first second (omega arith) where
      each : (i : ℕ) → get_or (byte_at m a ∷ byte_at m (wrap (a + 1)) ∷ []) i 0 < 256
      each zero = h0
      each (suc zero) = h1
      each (suc (suc i)) = omega arith

word_back : (m : Memory) (a v : ℕ) → byte_at m a < 2 ^ 8 → byte_at m (wrap (a + 1)) < 2 ^ 8 → byte_at m (wrap (a + 2)) < 2 ^ 8 → byte_at m (wrap (a + 3)) < 2 ^ 8 → with_word (with_word m a v) a (word_at m a) ≡ m
unfolding with_word word_at
word_back m a v h0 h1 h2 h3 =
    let bs = byte_at m a ∷ byte_at m (wrap (a + 1)) ∷ byte_at m (wrap (a + 2)) ∷ byte_at m (wrap (a + 3)) ∷ [] in
    let back : to_le_bytes w32 (from_le_bytes w32 bs) ≡ bs = le_bytes_4 bs (from_le_bytes w32 bs) refl each refl in
    fours m a (wrap (a + 1)) (wrap (a + 2)) (wrap (a + 3)) _ _ _ _ _ _ _ _
    (ap (λ xs. get_or xs 0 0) back) (ap (λ xs. get_or xs 1 0) back) (ap (λ xs. get_or xs 2 0) back) (ap (λ xs. get_or xs 3 0) back)
    (omega arith) (omega arith) (omega arith) (omega arith) (omega arith) (omega arith) where
      each : (i : ℕ) → get_or (byte_at m a ∷ byte_at m (wrap (a + 1)) ∷ byte_at m (wrap (a + 2)) ∷ byte_at m (wrap (a + 3)) ∷ []) i 0 < 256
      each zero = h0
      each (suc zero) = h1
      each (suc (suc zero)) = h2
      each (suc (suc (suc zero))) = h3
      each (suc (suc (suc (suc i)))) = omega arith

-- a number put back where another was written
pub value_back : (m : Memory) (size : Size) (a v : ℕ) → byte_at m a < 2 ^ 8 → byte_at m (wrap (a + 1)) < 2 ^ 8 → byte_at m (wrap (a + 2)) < 2 ^ 8 → byte_at m (wrap (a + 3)) < 2 ^ 8
    → with_value (with_value m size a v) size a (value_at m size a) ≡ m
value_back m Byte a v h0 h1 h2 h3 = back_1 m a _ _ (omega arith)
value_back m Half a v h0 h1 h2 h3 = half_back m a _ h0 h1
value_back m Word a v h0 h1 h2 h3 = word_back m a v h0 h1 h2 h3

-- ---- lists

pub undone_last : (ws : List Was) (w : Was) (m : Memory) → undone (ws ++ w ∷ []) m ≡ undone ws (put_back w m)
unfolding undone
undone_last [] w m = refl
undone_last (x ∷ ws) w m = ap (put_back x) (undone_last ws w m)

-- what the last store overwrote is put back first
pub undone_store : (ws : List Was) (m : Memory) (size : Size) (a v n : ℕ) → n ≡ value_at m size a → byte_at m a < 2 ^ 8 → byte_at m (wrap (a + 1)) < 2 ^ 8 → byte_at m (wrap (a + 2)) < 2 ^ 8 → byte_at m (wrap (a + 3)) < 2 ^ 8
    → undone (ws ++ record { addr = a; size = size; value = n } ∷ []) (with_value m size a v) ≡ undone ws m
undone_store ws m size a v n e h0 h1 h2 h3 =
    undone_last ws _ (with_value m size a v)
    ∙ ap (λ x. undone ws (with_value (with_value m size a v) size a x)) e
    ∙ ap (undone ws) (value_back m size a v h0 h1 h2 h3)

-- one less is left to be put back
pub undone_take : (ws : List Was) (j : ℕ) (w : Was) (m : Memory) → j < length ws → w ≡ get_or ws j w → undone (take (suc j) ws) m ≡ undone (take j ws) (put_back w m)
unfolding undone
undone_take [] j w m l is = absurd (omega arith)
undone_take (x ∷ ws) zero w m l is = ap (λ y. put_back y m) (sym is)
undone_take (x ∷ ws) (suc j) w m l is = ap (put_back x) (undone_take ws j w m (omega arith) is)

pub undone_next : (ws : List Was) (j : ℕ) (w : Was) (m : Memory) → j < length ws → w ≡ get_or ws j w → undone (take (j + 1) ws) m ≡ undone (take j ws) (put_back w m)
undone_next ws j w m l is = let one : j + 1 ≡ suc j = omega arith in ap (λ n. undone (take n ws) m) one ∙ undone_take ws j w m l is

pub undone_none : (ws : List Was) (m : Memory) → undone (take 0 ws) m ≡ m
unfolding undone
undone_none ws m = refl

pub taken_all : (ws : List Was) (n : ℕ) → n ≡ length ws → take n ws ≡ ws
taken_all [] zero e = refl
taken_all [] (suc n) e = refl
taken_all (x ∷ ws) zero e = absurd (omega arith)
taken_all (x ∷ ws) (suc n) e = ap (λ xs. x ∷ xs) (taken_all ws n (omega arith))
