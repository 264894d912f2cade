-- Bytes that are compared at marked blocks alone.
use Rattle.std.proofs.Common.{◌≡◌, ℕ, zero, suc, ◌+◌, ◌-◌, ◌*◌, ◌/◌, ◌<◌, ◌≤◌, Bool, true, false, not, List, [], ◌∷◌, length, drop, get_or, Option, Some, None, refl, sym, ap, ◌∙◌, subst, arith}
use Rattle.std.specs.FinMap.{get}
use Rattle.std.proofs.Math.Seq.{drop-cons}
use Rattle.std.proofs.lemmas.List.{drop_all}
use Rattle.std.proofs.lemmas.Bool.Decides.{nat_tests}
use Rattle.tz_mem.specs.Difference.{some_from}
use Rattle.tz_state.specs.Attribution.{is_open}
use Rattle.tz_state.specs.State.{Bus, map_in}
use Rattle.tz_state.specs.Difference.{is_same_byte, byte_differs, open_byte_differs, open_bytes_differ}
use Rattle.tz_state.proofs.Difference.{differs_nowhere}
use Rattle.tz_twin.proofs.Bytes.{and_first, and_second}
use Rattle.tz_iso.specs.declared.marks.Blocks.{Blocks}
use Rattle.tz_iso.specs.declared.marks.Marks.{Marks}
use Rattle.tz_iso.specs.Marks.{is_among, are_among, marks_byte, AreMarked}
use Rattle.tz_iso.proofs.Marking.{or_first, or_second, true_or_false}
use Rattle.tz_iso.proofs.Same as same

-- ---- a block

none_at : (p : ℕ → Bool) (a n t : ℕ) → some_from p a n ≡ false → t < n → p (a + t) ≡ false
unfolding some_from
none_at p a zero t e l = absurd (omega arith)
none_at p a (suc n) zero e l = ap p (omega arith) ∙ or_first (p a) (some_from p (a + 1) n) e
none_at p a (suc n) (suc t) e l = ap p (omega arith) ∙ none_at p (a + 1) n t (or_second (p a) (some_from p (a + 1) n) e) (omega arith)

in_block : (a : ℕ) → a / 32 * 32 + (a - a / 32 * 32) ≡ a
in_block a = omega arith

below_32 : (a : ℕ) → a - a / 32 * 32 < 32
below_32 a = omega arith

pub none_of_block : (p : ℕ → Bool) (block a : ℕ) → some_from p (block * 32) 32 ≡ false → a / 32 ≡ block → p a ≡ false
none_of_block p block a e is =
    ap p (sym (in_block a))
    ∙ none_at p (a / 32 * 32) 32 (a - a / 32 * 32) (subst (λ n. some_from p (n * 32) 32 ≡ false) (sym is) e) (below_32 a)

last_or_before : (n block : ℕ) → n < block + 1 → (n ≡ block → ⊥) → n < block
last_or_before n block l apart = grind arith

-- one more block
pub none_further : (p : ℕ → Bool) (first block : ℕ) → ((a : ℕ) → first ≤ a / 32 → a / 32 < block → p a ≡ false) → some_from p (block * 32) 32 ≡ false
    → (a : ℕ) → first ≤ a / 32 → a / 32 < block + 1 → p a ≡ false
none_further p first block before e a from l = go (p a) refl where
  go : (t : Bool) → p a ≡ t → t ≡ false
  go false is = refl
  go true is =
      true_or_false (p a) is (before a from (last_or_before (a / 32) block l (λ at. true_or_false (p a) is (none_of_block p block a e at))))

pub among_from : (r : Blocks) (n : ℕ) → is_among r n ≡ true → r.first ≤ n
among_from r n e = grind (arith, nat_tests)

pub among_to : (r : Blocks) (n : ℕ) → is_among r n ≡ true → n < r.last + 1
among_to r n e = grind (arith, nat_tests)

-- a block that differs, where one does
pub none_past : (p : ℕ → Bool) (r : Blocks) (block : ℕ) → ((a : ℕ) → r.first ≤ a / 32 → a / 32 < block → p a ≡ false) → r.last + 1 ≤ block → (a : ℕ) → is_among r (a / 32) ≡ true → p a ≡ false
none_past p r block before past a is = before a (among_from r (a / 32) is) (trans (a / 32) (r.last + 1) block (among_to r (a / 32) is) past) where
  trans : (x y z : ℕ) → x < y → y ≤ z → x < z
  trans x y z h k = omega arith

pub none_before : {P : Type 0} (from n : ℕ) → from ≤ n → n < from → P
none_before from n h k = absurd (omega arith)

-- ---- all ranges

-- a byte that differs is in none of the ranges before
pub not_in_first : (rs : List Blocks) (r : Blocks) (n : ℕ) → is_among r n ≡ false → are_among (r ∷ rs) n ≡ are_among rs n
unfolding are_among
not_in_first rs r n e = rw e refl

pub among_none : (n : ℕ) → are_among [] n ≡ false
unfolding are_among
among_none n = refl

-- where none passes in the next range
pub still_out : (rs : List Blocks) (i : ℕ) (d : Blocks) (n : ℕ) (all : Bool) → i < length rs → is_among (get_or rs i d) n ≡ false → are_among (drop i rs) n ≡ all → are_among (drop (i + 1) rs) n ≡ all
still_out rs i d n all l out e =
    let next : i + 1 ≡ suc i = omega arith in
    ap (λ k. are_among (drop k rs) n) next ∙ sym (not_in_first (drop (suc i) rs) (get_or rs i d) n out) ∙ ap (λ xs. are_among xs n) (sym (drop-cons rs i d l)) ∙ e

-- so a byte that passes is in none of the ranges so far
pub passes_later : (p : ℕ → Bool) (xs rs : List Blocks) (i : ℕ) (d : Blocks) → xs ≡ rs → i < length xs → ((a : ℕ) → is_among (get_or xs i d) (a / 32) ≡ true → p a ≡ false)
    → ((a : ℕ) → p a ≡ true → are_among (drop i rs) (a / 32) ≡ are_among rs (a / 32)) → (a : ℕ) → p a ≡ true → are_among (drop (i + 1) rs) (a / 32) ≡ are_among rs (a / 32)
passes_later p xs rs i d e l none before a is =
    still_out rs i d (a / 32) (are_among rs (a / 32)) (subst (λ (ys : List Blocks). i < length ys) e l)
    (subst (λ (ys : List Blocks). is_among (get_or ys i d) (a / 32) ≡ false) e (go (is_among (get_or xs i d) (a / 32)) refl)) (before a is)
  where
    go : (t : Bool) → is_among (get_or xs i d) (a / 32) ≡ t → t ≡ false
    go false out = refl
    go true inside = true_or_false (p a) is (none a inside)

pub out_at_end : (rs : List Blocks) (i n : ℕ) (all : Bool) → length rs ≤ i → are_among (drop i rs) n ≡ all → all ≡ false
out_at_end rs i n all past e = sym e ∙ ap (λ xs. are_among xs n) (drop_all i rs past) ∙ among_none n

byte_alike : (o q : Option ℕ) → o ≡ q → is_same_byte o q ≡ true
byte_alike o q e = subst (λ x. is_same_byte o x ≡ true) e (itself o) where
  itself : (x : Option ℕ) → is_same_byte x x ≡ true
  itself None = refl
  itself (Some x) = same.number_itself x

-- where what differs isn't marked nothing differs
pub none_marked : (m : Marks) (b c : Bus) → m.all ≡ false → AreMarked m b c → ((a : ℕ) → open_byte_differs b c a ≡ true → are_among m.ranges.items (a / 32) ≡ false) → open_bytes_differ b c ≡ false
none_marked m b c all h none = differs_nowhere b c (λ a. go a (open_byte_differs b c a) refl) where
  go : (a : ℕ) (t : Bool) → open_byte_differs b c a ≡ t → open_byte_differs b c a ≡ false
  go a false is = is
  go a true is =
      let shown = and_first (is_open (map_in b) a) _ is in
      let differs = and_second (is_open (map_in c) a) _ (and_second (is_open (map_in b) a) _ is) in
      let unmarked : marks_byte m a ≡ false = rw (all, none a is) refl in
      true_or_false (byte_differs b.memory c.memory a) differs (ap not (byte_alike (get b.memory a) (get c.memory a) (h a shown unmarked)))
