-- Marks: what was marked stays so, and what isn't marked is beside all stores and frames.
use Rattle.std.proofs.Common.{◌≡◌, ℕ, zero, suc, ◌+◌, ◌-◌, ◌/◌, ◌^◌, ◌==◌, ◌<◌, ◌≤◌, ◌⊎◌, inl, inr, Bool, true, false, ◌&&◌, ◌||◌, not, List, [], ◌∷◌, ◌++◌, length, drop, get_or, refl, sym, ap, ◌∙◌, subst, arith}
use Rattle.std.specs.Prelude.{nat_lt, slice_set, slice_index_or}
use Rattle.std.specs.List.{refill}
use Rattle.std.proofs.lemmas.Grind.{common_steps}
use Rattle.std.proofs.lemmas.List.{drop_all}
use Rattle.std.proofs.Math.Seq.{drop-cons}
use Rattle.std.proofs.lemmas.Bool.{ltb-true}
use Rattle.std.proofs.lemmas.Bool.Decides.{nat_tests}
use Rattle.tz_table.specs.declared.units.Size.{Size}
use Rattle.tz_table.specs.declared.units.Size.TheVariants.{Byte, Half, Word}
use Rattle.tz_model.specs.declared.report.Store.{Store}
use Rattle.tz_model.specs.Words.{wrap}
use Rattle.tz_state.specs.Access.{is_private}
use Rattle.tz_state.specs.Memory.{every}
use Rattle.tz_access.specs.Checks.{last_of}
use Rattle.tz_twin.specs.Writing.{is_beside, are_beside, are_in_memory, distance, is_within}
use Rattle.tz_iso.specs.declared.marks.Blocks.{Blocks}
use Rattle.tz_iso.specs.declared.marks.Marks.{Marks}
use Rattle.tz_iso.specs.Marks.{is_among, are_among, marks_block, marks_byte, Grows}

pub or_first : (p q : Bool) → (p || q) ≡ false → p ≡ false
or_first true q e = cc
or_first false q e = refl

pub or_second : (p q : Bool) → (p || q) ≡ false → q ≡ false
or_second true q e = cc
or_second false q e = e

or_neither : (p q : Bool) → p ≡ false → q ≡ false → (p || q) ≡ false
or_neither true q e h = e
or_neither false q e h = h

or_right : (p q : Bool) → q ≡ true → (p || q) ≡ true
or_right true q e = refl
or_right false q e = e

pub true_or_false : {P : Type 0} (t : Bool) → t ≡ true → t ≡ false → P
true_or_false true e f = cc
true_or_false false e f = cc

-- ---- what stays marked

pub grows_itself : (m : Marks) → Grows m m
grows_itself m = record { all = λ e. e; exceptions = λ e. e; blocks = λ block e. e }

pub grows_then : (m m' m'' : Marks) → Grows m m' → Grows m' m'' → Grows m m''
grows_then m m' m'' h k = record {
  all = λ e. h.all (k.all e);
  exceptions = λ e. h.exceptions (k.exceptions e);
  blocks = λ block e. h.blocks block (k.blocks block e);
}

pub stays : (m m' : Marks) (block : ℕ) → Grows m m' → marks_block m block ≡ true → marks_block m' block ≡ true
stays m m' block h e = go (marks_block m' block) refl where
  go : (t : Bool) → marks_block m' block ≡ t → t ≡ true
  go true is = refl
  go false is = true_or_false (marks_block m block) e (h.blocks block is)

-- ---- a block

pub are_among_last : (rs : List Blocks) (r : Blocks) (block : ℕ) → are_among (rs ++ r ∷ []) block ≡ (are_among rs block || is_among r block)
unfolding are_among
are_among_last [] r block = or_false (is_among r block) where
  or_false : (t : Bool) → (t || false) ≡ t
  or_false true = refl
  or_false false = refl
are_among_last (q ∷ rs) r block = ap (λ t. is_among q block || t) (are_among_last rs r block) ∙ assoc (is_among q block) (are_among rs block) (is_among r block) where
  assoc : (p q r : Bool) → (p || (q || r)) ≡ ((p || q) || r)
  assoc true q r = refl
  assoc false q r = refl

no_blocks : Blocks
no_blocks = record { first = 0; last = 0 }

-- a range in the place of one that holds less
pub set_more : (rs : List Blocks) (i : ℕ) (d r : Blocks) → ((block : ℕ) → is_among r block ≡ false → is_among (slice_index_or rs i d) block ≡ false)
    → (block : ℕ) → are_among (slice_set rs i r) block ≡ false → are_among rs block ≡ false
unfolding are_among
set_more [] i d r more block e = refl
set_more (q ∷ rs) zero d r more block e = or_neither (is_among q block) (are_among rs block) (more block (or_first (is_among r block) _ e)) (or_second (is_among r block) _ e)
set_more (q ∷ rs) (suc i) d r more block e =
    or_neither (is_among q block) (are_among rs block) (or_first (is_among q block) _ e) (set_more rs i d r more block (or_second (is_among q block) _ e))

pub set_there : (rs : List Blocks) (i : ℕ) (r : Blocks) (block : ℕ) → i < length rs → is_among r block ≡ true → are_among (slice_set rs i r) block ≡ true
unfolding are_among
set_there [] i r block l e = absurd (omega arith)
set_there (q ∷ rs) zero r block l e = rw e refl
set_there (q ∷ rs) (suc i) r block l e = or_right (is_among q block) _ (set_there rs i r block (omega arith) e)

-- marks with other ranges
grows_by : (m m' : Marks) → m'.all ≡ m.all → m'.exceptions ≡ m.exceptions → ((block : ℕ) → are_among m'.ranges.items block ≡ false → are_among m.ranges.items block ≡ false) → Grows m m'
grows_by m m' all exceptions blocks = record {
  all = λ e. sym all ∙ e;
  exceptions = λ e. sym exceptions ∙ e;
  blocks = λ block e. or_neither m.all _ (sym all ∙ or_first m'.all _ e) (blocks block (or_second m'.all _ e));
}

-- with one more
pub pushed_grows : (m m' : Marks) (r : Blocks) → m'.all ≡ m.all → m'.exceptions ≡ m.exceptions → m'.ranges.items ≡ m.ranges.items ++ r ∷ [] → Grows m m'
pushed_grows m m' r all exceptions ranges =
    grows_by m m' all exceptions
    (λ block e. or_first (are_among m.ranges.items block) (is_among r block) (sym (are_among_last m.ranges.items r block) ∙ sym (ap (λ rs. are_among rs block) ranges) ∙ e))

among_itself : (block : ℕ) → is_among (record { first = block; last = block }) block ≡ true
among_itself block = grind (arith, nat_tests)

pub pushed_marks : (all : Bool) (rs rs' : List Blocks) (block : ℕ) → rs' ≡ rs ++ record { first = block; last = block } ∷ [] → (all || are_among rs' block) ≡ true
pushed_marks all rs rs' block ranges =
    let r : Blocks = record { first = block; last = block } in
    or_right all _ (ap (λ xs. are_among xs block) ranges ∙ are_among_last rs r block ∙ or_right (are_among rs block) _ (among_itself block))

-- with one that is wider
pub widened_grows : (m m' : Marks) (i : ℕ) (d r : Blocks) → m'.all ≡ m.all → m'.exceptions ≡ m.exceptions → m'.ranges.items ≡ slice_set m.ranges.items i r
    → ((block : ℕ) → is_among r block ≡ false → is_among (slice_index_or m.ranges.items i d) block ≡ false) → Grows m m'
widened_grows m m' i d r all exceptions ranges more =
    grows_by m m' all exceptions (λ block e. set_more m.ranges.items i d r more block (sym (ap (λ rs. are_among rs block) ranges) ∙ e))

pub widened_marks : (all : Bool) (rs rs' : List Blocks) (i : ℕ) (r : Blocks) (block : ℕ) → i < length rs → rs' ≡ slice_set rs i r → is_among r block ≡ true → (all || are_among rs' block) ≡ true
widened_marks all rs rs' i r block l ranges is = or_right all _ (ap (λ xs. are_among xs block) ranges ∙ set_there rs i r block l is)

refilled : (xs : List Blocks) (i : ℕ) (r : Blocks) → refill (length xs) xs (slice_set xs i r) ≡ slice_set xs i r
refilled xs i r = grind (arith, common_steps)

-- as a write through the slice leaves it
pub written_through : (xs ys : List Blocks) (i : ℕ) (r : Blocks) → ys ≡ xs → refill (length xs) xs (slice_set ys i r) ≡ slice_set xs i r
written_through xs ys i r e = ap (λ zs. refill (length xs) xs (slice_set zs i r)) e ∙ refilled xs i r

-- ---- stores in turn

-- no stores are told
pub none_in_memory : (xs : List Store) → length xs ≡ 0 → are_in_memory xs ≡ true
unfolding are_in_memory
none_in_memory [] e = refl
none_in_memory (x ∷ xs) e = absurd (omega (arith, e))

pub none_beside : (xs : List Store) (a : ℕ) → length xs ≡ 0 → are_beside xs a ≡ true
unfolding are_beside
none_beside [] a e = refl
none_beside (x ∷ xs) a e = absurd (omega (arith, e))

-- the next one isn't to a system register
pub in_memory_next : (xs : List Store) (i : ℕ) (d : Store) (all : Bool) → i < length xs → is_private (get_or xs i d).addr ≡ false → are_in_memory (drop i xs) ≡ all → are_in_memory (drop (i + 1) xs) ≡ all
unfolding are_in_memory
in_memory_next xs i d all l out e =
    let next : i + 1 ≡ suc i = omega arith in
    ap (λ k. are_in_memory (drop k xs)) next ∙ sym (ap (λ t. not t && are_in_memory (drop (suc i) xs)) out) ∙ ap are_in_memory (sym (drop-cons xs i d l)) ∙ e

pub in_memory_end : (xs : List Store) (i : ℕ) (all : Bool) → length xs ≤ i → are_in_memory (drop i xs) ≡ all → all ≡ true
unfolding are_in_memory
in_memory_end xs i all past e = sym e ∙ ap are_in_memory (drop_all i xs past)

-- the next one leaves an address out
pub beside_next : (xs : List Store) (i : ℕ) (d : Store) (a : ℕ) (all : Bool) → i < length xs → is_beside (get_or xs i d) a ≡ true → are_beside (drop i xs) a ≡ all → are_beside (drop (i + 1) xs) a ≡ all
unfolding are_beside
beside_next xs i d a all l out e =
    let next : i + 1 ≡ suc i = omega arith in
    ap (λ k. are_beside (drop k xs) a) next ∙ sym (ap (λ t. t && are_beside (drop (suc i) xs) a) out) ∙ ap (λ ys. are_beside ys a) (sym (drop-cons xs i d l)) ∙ e

pub beside_end : (xs : List Store) (i a : ℕ) (all : Bool) → length xs ≤ i → are_beside (drop i xs) a ≡ all → all ≡ true
unfolding are_beside
beside_end xs i a all past e = sym e ∙ ap (λ ys. are_beside ys a) (drop_all i xs past)

-- ---- a store

not_at : (m : Marks) (a b : ℕ) → marks_block m (b / 32) ≡ true → marks_byte m a ≡ false → not (b == a) ≡ true
not_at m a b is out = go (b == a) refl where
  go : (t : Bool) → (b == a) ≡ t → not t ≡ true
  go false e = refl
  go true e =
      let at : b ≡ a = grind (arith, nat_tests) in
      true_or_false (marks_block m (a / 32)) (subst (λ x. marks_block m (x / 32) ≡ true) at is) out

-- a block of one of two
either : (m : Marks) (x y b : ℕ) → marks_block m (x / 32) ≡ true → marks_block m (y / 32) ≡ true → (b / 32 ≡ x / 32) ⊎ (b / 32 ≡ y / 32) → marks_block m (b / 32) ≡ true
either m x y b first last (inl e) = subst (λ n. marks_block m n ≡ true) (sym e) first
either m x y b first last (inr e) = subst (λ n. marks_block m n ≡ true) (sym e) last

second_byte : (a : ℕ) → a < 2 ^ 32 → (wrap (a + 1) / 32 ≡ a / 32) ⊎ (wrap (a + 1) / 32 ≡ wrap (a + 3) / 32)
second_byte a below = grind (arith, nat_tests)

third_byte : (a : ℕ) → a < 2 ^ 32 → (wrap (a + 2) / 32 ≡ a / 32) ⊎ (wrap (a + 2) / 32 ≡ wrap (a + 3) / 32)
third_byte a below = grind (arith, nat_tests)

all_four : (p q r s : Bool) → p ≡ true → q ≡ true → r ≡ true → s ≡ true → (p && (q && (r && s))) ≡ true
all_four true true true true a b c d = refl
all_four true true true false a b c d = d
all_four true true false s a b c d = c
all_four true false r s a b c d = b
all_four false q r s a b c d = a

both_true : (p q : Bool) → p ≡ true → q ≡ true → (p && q) ≡ true
both_true true q e h = h
both_true false q e h = e

-- the first and the last byte tell the blocks of all
pub beside_unmarked : (m : Marks) (size : Size) (addr a : ℕ) → addr < 2 ^ 32 → marks_block m (addr / 32) ≡ true → marks_block m (last_of size addr / 32) ≡ true → marks_byte m a ≡ false
    → every (λ b. not (b == a)) addr size ≡ true
beside_unmarked m Byte addr a below first last out = not_at m a addr first out
beside_unmarked m Half addr a below first last out = both_true _ _ (not_at m a addr first out) (not_at m a (wrap (addr + 1)) last out)
beside_unmarked m Word addr a below first last out =
    all_four _ _ _ _ (not_at m a addr first out) (not_at m a (wrap (addr + 1)) (either m addr (wrap (addr + 3)) (wrap (addr + 1)) first last (second_byte addr below)) out)
    (not_at m a (wrap (addr + 2)) (either m addr (wrap (addr + 3)) (wrap (addr + 2)) first last (third_byte addr below)) out) (not_at m a (wrap (addr + 3)) last out)

-- ---- frames

-- an address by its distance
placed : (sp a : ℕ) → sp < 2 ^ 32 → a < 2 ^ 32 → wrap (sp + distance sp a) ≡ a
placed sp a below address = omega (arith, below, address)

-- so many bytes on it is in one block or in another
one_or_next : (x d e : ℕ) → x < 2 ^ 32 → d ≤ e → e ≤ 32 → (wrap (x + d) / 32 ≡ x / 32) ⊎ (wrap (x + d) / 32 ≡ wrap (x + e) / 32)
one_or_next x d e below few most = grind (arith, nat_tests)

moved : (sp d k : ℕ) → k ≤ d → wrap (wrap (sp + k) + (d - k)) ≡ wrap (sp + d)
moved sp d k few = omega arith

wrapped : (n : ℕ) → wrap n < 2 ^ 32
wrapped n = omega arith

twice : (sp k e : ℕ) → wrap (wrap (sp + k) + e) ≡ wrap (sp + (k + e))
twice sp k e = omega arith

below_or_above : (d k : ℕ) → (d < k) ⊎ (k ≤ d)
below_or_above d k = grind arith

-- the block of each byte of both frames is one of four
among_four : (m : Marks) (sp d : ℕ) → sp < 2 ^ 32 → d < 72 → marks_block m (sp / 32) ≡ true → marks_block m (wrap (sp + 32) / 32) ≡ true → marks_block m (wrap (sp + 64) / 32) ≡ true
    → marks_block m (wrap (sp + 71) / 32) ≡ true → marks_block m (wrap (sp + d) / 32) ≡ true
among_four m sp d below few h0 h1 h2 h3 = by_first (below_or_above d 32) where
  up : (k d e : ℕ) → k ≤ d → d - k ≤ e → e ≤ 32 → marks_block m (wrap (sp + k) / 32) ≡ true → marks_block m (wrap (sp + (k + e)) / 32) ≡ true → marks_block m (wrap (sp + d) / 32) ≡ true
  up k d e from to most first last =
      subst (λ x. marks_block m (x / 32) ≡ true) (moved sp d k from)
      (either m (wrap (sp + k)) (wrap (wrap (sp + k) + e)) (wrap (wrap (sp + k) + (d - k))) first
      (subst (λ x. marks_block m (x / 32) ≡ true) (sym (twice sp k e)) last)
      (one_or_next (wrap (sp + k)) (d - k) e (wrapped (sp + k)) to most))

  by_second : (d < 64) ⊎ (64 ≤ d) → 32 ≤ d → marks_block m (wrap (sp + d) / 32) ≡ true
  by_second (inl l) from = up 32 d 32 from (omega arith) (omega arith) h1 h2
  by_second (inr g) from = up 64 d 7 g (omega arith) (omega arith) h2 h3

  by_first : (d < 32) ⊎ (32 ≤ d) → marks_block m (wrap (sp + d) / 32) ≡ true
  by_first (inl l) = either m sp (wrap (sp + 32)) (wrap (sp + d)) h0 h1 (one_or_next sp d 32 below (omega arith) (omega arith))
  by_first (inr g) = by_second (below_or_above d 64) g

pub frames_unmarked : (m : Marks) (sp a : ℕ) → sp < 2 ^ 32 → marks_block m (sp / 32) ≡ true → marks_block m (wrap (sp + 32) / 32) ≡ true → marks_block m (wrap (sp + 64) / 32) ≡ true
    → marks_block m (wrap (sp + 71) / 32) ≡ true → marks_byte m a ≡ false → is_within 72 sp a ≡ false
frames_unmarked m sp a below h0 h1 h2 h3 out = go (nat_lt a (2 ^ 32)) refl (nat_lt (distance sp a) 72) refl where
  go : (t : Bool) → nat_lt a (2 ^ 32) ≡ t → (u : Bool) → nat_lt (distance sp a) 72 ≡ u → (t && u) ≡ false
  go false is u near = refl
  go true is false near = refl
  go true is true near =
      let d = distance sp a in
      let block = among_four m sp d below (ltb-true d 72 near) h0 h1 h2 h3 in
      true_or_false (marks_block m (a / 32)) (subst (λ x. marks_block m (x / 32) ≡ true) (placed sp a below (ltb-true a (2 ^ 32) is)) block) out
