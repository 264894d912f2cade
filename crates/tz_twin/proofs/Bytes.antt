-- Bytes under attribution: memories that are the same to Non-secure code, and memories that keep all else.
use Rattle.std.proofs.Common.{◌≡◌, ℕ, ◌+◌, Bool, true, false, ◌&&◌, cond, Option, Some, None, refl, sym, ap, ◌∙◌, arith}
use Rattle.std.specs.Prelude.{unwrap_or}
use Rattle.std.specs.Option.{is_some}
use Rattle.std.specs.FinMap.{get, insert, get-insert}
use Rattle.std.specs.Ordering.{nat_cmp, eq_by_cmp}
use Rattle.std.specs.Cmp.{nat_cmp_total}
use Rattle.std.proofs.lemmas.Bool.Decides.{nat_tests}
use Rattle.tz_table.specs.declared.units.Size.{Size}
use Rattle.tz_table.specs.declared.units.Size.TheVariants.{Byte, Half, Word}
use Rattle.tz_model.specs.Words.{wrap}
use Rattle.tz_state.specs.Memory.{Memory, every, byte_at, half_at, word_at, value_at, with_byte, with_half, with_word, with_value}
use Rattle.tz_state.specs.Attribution.{MapState, is_open}
use Rattle.tz_twin.specs.Seen.{open_bytes}
use Rattle.tz_twin.specs.Integrity.{KeepsBytes}

-- the Non-secure bytes of two memories are the same
abbrev pub SameOpen : MapState → Memory → Memory → Type 0
SameOpen m n n' = (a : ℕ) → open_bytes m n a ≡ open_bytes m n' a

pub and_first : (p q : Bool) → (p && q) ≡ true → p ≡ true
and_first true q e = refl
and_first false q e = cc

pub and_second : (p q : Bool) → (p && q) ≡ true → q ≡ true
and_second true q e = e
and_second false q e = cc

get_same : (m : MapState) (n n' : Memory) (a : ℕ) → SameOpen m n n' → is_open m a ≡ true → get n a ≡ get n' a
get_same m n n' a same is = let e = same a in rw is at e

byte_same : (m : MapState) (n n' : Memory) (a : ℕ) → SameOpen m n n' → is_open m a ≡ true → byte_at n a ≡ byte_at n' a
byte_same m n n' a same is = ap (λ (o : Option ℕ). unwrap_or o 0) (get_same m n n' a same is)

pub half_same : (m : MapState) (n n' : Memory) (a : ℕ) → SameOpen m n n' → is_open m a ≡ true → is_open m (wrap (a + 1)) ≡ true → half_at n a ≡ half_at n' a
unfolding half_at
half_same m n n' a same is is' =
    let e0 = byte_same m n n' a same is in
    let e1 = byte_same m n n' (wrap (a + 1)) same is' in
    rw (e0, e1) refl

word_same : (m : MapState) (n n' : Memory) (a : ℕ) → SameOpen m n n' → every (is_open m) a Word ≡ true → word_at n a ≡ word_at n' a
unfolding word_at
word_same m n n' a same is =
    let r1 = and_second _ _ is in
    let r2 = and_second _ _ r1 in
    let e0 = byte_same m n n' a same (and_first _ _ is) in
    let e1 = byte_same m n n' (wrap (a + 1)) same (and_first _ _ r1) in
    let e2 = byte_same m n n' (wrap (a + 2)) same (and_first _ _ r2) in
    let e3 = byte_same m n n' (wrap (a + 3)) same (and_second _ _ r2) in
    rw (e0, e1, e2, e3) refl

-- a number whose bytes Non-secure code may read is the same in both
pub value_same : (m : MapState) (n n' : Memory) (size : Size) (a : ℕ) → SameOpen m n n' → every (is_open m) a size ≡ true → value_at n size a ≡ value_at n' size a
value_same m n n' Byte a same is = byte_same m n n' a same is
value_same m n n' Half a same is = half_same m n n' a same (and_first _ _ is) (and_second _ _ is)
value_same m n n' Word a same is = word_same m n n' a same is

-- ---- writes of the same number

-- the byte of a map after a replacement
pub replaced : Option ℕ → ℕ → Option ℕ
replaced None v = None
replaced (Some x) v = Some v

tied : (q a : ℕ) → q ≡ a → eq_by_cmp nat_cmp q a ≡ true
tied q a e = grind (arith, nat_tests)

pub get-with_byte : (n : Memory) (a v q : ℕ) → get (with_byte n a v) q ≡ cond (eq_by_cmp nat_cmp q a) (replaced (get n a) v) (get n q)
unfolding with_byte replaced
get-with_byte n a v q = go (get n a) refl where
  none_there : (t : Bool) → eq_by_cmp nat_cmp q a ≡ t → get n a ≡ None → get n q ≡ cond t None (get n q)
  none_there false e none = refl
  none_there true e none = let same : q ≡ a = grind (arith, nat_tests) in ap (get n) same ∙ none

  go : (o : Option ℕ) → get n a ≡ o → get (cond (is_some o) (insert n a v) n) q ≡ cond (eq_by_cmp nat_cmp q a) (replaced o v) (get n q)
  go None e = none_there (eq_by_cmp nat_cmp q a) refl e
  go (Some x) e = get-insert nat_cmp_total n a v q

-- a write of the same byte leaves them the same, wherever it goes
byte_write_same : (m : MapState) (n n' : Memory) (a v : ℕ) → SameOpen m n n' → SameOpen m (with_byte n a v) (with_byte n' a v)
byte_write_same m n n' a v same q =
    rw (get-with_byte n a v q, get-with_byte n' a v q) (go (eq_by_cmp nat_cmp q a) refl (is_open m q) refl (same q))
  where
    go : (t : Bool) → eq_by_cmp nat_cmp q a ≡ t → (shown : Bool) → is_open m q ≡ shown → cond shown (get n q) None ≡ cond shown (get n' q) None
        → cond shown (cond t (replaced (get n a) v) (get n q)) None ≡ cond shown (cond t (replaced (get n' a) v) (get n' q)) None
    go t e false is h = refl
    go false e true is h = h
    go true e true is h =
        let at : q ≡ a = grind (arith, nat_tests) in
        ap (λ o. replaced o v) (ap (get n) (sym at) ∙ h ∙ ap (get n') at)

half_write_same : (m : MapState) (n n' : Memory) (a v : ℕ) → SameOpen m n n' → SameOpen m (with_half n a v) (with_half n' a v)
unfolding with_half
half_write_same m n n' a v same = byte_write_same m _ _ _ _ (byte_write_same m n n' a _ same)

word_write_same : (m : MapState) (n n' : Memory) (a v : ℕ) → SameOpen m n n' → SameOpen m (with_word n a v) (with_word n' a v)
unfolding with_word
word_write_same m n n' a v same = byte_write_same m _ _ _ _ (byte_write_same m _ _ _ _ (byte_write_same m _ _ _ _ (byte_write_same m n n' a _ same)))

pub write_same : (m : MapState) (n n' : Memory) (size : Size) (a v : ℕ) → SameOpen m n n' → SameOpen m (with_value n size a v) (with_value n' size a v)
write_same m n n' Byte a v same = byte_write_same m n n' a _ same
write_same m n n' Half a v same = half_write_same m n n' a _ same
write_same m n n' Word a v same = word_write_same m n n' a v same

-- ---- writes to Non-secure bytes

byte_write_kept : (m : MapState) (n : Memory) (a v : ℕ) → is_open m a ≡ true → KeepsBytes m n (with_byte n a v)
byte_write_kept m n a v is q closed = get-with_byte n a v q ∙ go (eq_by_cmp nat_cmp q a) refl where
  go : (t : Bool) → eq_by_cmp nat_cmp q a ≡ t → cond t (replaced (get n a) v) (get n q) ≡ get n q
  go false e = refl
  go true e =
      let at : q ≡ a = grind (arith, nat_tests) in
      let both : true ≡ false = sym is ∙ ap (is_open m) (sym at) ∙ closed in
      cc

pub keeps_nothing_changed : (m : MapState) (n : Memory) → KeepsBytes m n n
keeps_nothing_changed m n q closed = refl

-- what is kept twice is kept
pub keeps_then : (m : MapState) (n1 n2 n3 : Memory) → KeepsBytes m n1 n2 → KeepsBytes m n2 n3 → KeepsBytes m n1 n3
keeps_then m n1 n2 n3 h k q closed = k q closed ∙ h q closed

half_write_kept : (m : MapState) (n : Memory) (a v : ℕ) → is_open m a ≡ true → is_open m (wrap (a + 1)) ≡ true → KeepsBytes m n (with_half n a v)
unfolding with_half
half_write_kept m n a v is is' = keeps_then m n _ _ (byte_write_kept m n a _ is) (byte_write_kept m _ (wrap (a + 1)) _ is')

word_write_kept : (m : MapState) (n : Memory) (a v : ℕ) → every (is_open m) a Word ≡ true → KeepsBytes m n (with_word n a v)
unfolding with_word
word_write_kept m n a v is =
    let r1 = and_second _ _ is in
    let r2 = and_second _ _ r1 in
    keeps_then m n _ _ (byte_write_kept m n a _ (and_first _ _ is))
    (keeps_then m _ _ _ (byte_write_kept m _ (wrap (a + 1)) _ (and_first _ _ r1))
    (keeps_then m _ _ _ (byte_write_kept m _ (wrap (a + 2)) _ (and_first _ _ r2))
    (byte_write_kept m _ (wrap (a + 3)) _ (and_second _ _ r2))))

-- a write to Non-secure bytes alone keeps all others
pub write_kept : (m : MapState) (n : Memory) (size : Size) (a v : ℕ) → every (is_open m) a size ≡ true → KeepsBytes m n (with_value n size a v)
write_kept m n Byte a v is = byte_write_kept m n a _ is
write_kept m n Half a v is = half_write_kept m n a _ (and_first _ _ is) (and_second _ _ is)
write_kept m n Word a v is = word_write_kept m n a v is
