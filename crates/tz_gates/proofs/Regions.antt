-- The first bytes that regions hold from an address on.
use Rattle.std.proofs.Common.{◌≡◌, ℕ, zero, suc, length, get_or, take, subst, ◌+◌, ◌%◌, ◌^◌, ◌<◌, ◌≤◌, Bool, true, false, cond, List, [], ◌∷◌, ◌++◌, Option, Some, None, refl, sym, ap, arith}
use Rattle.std.proofs.lemmas.Bool.{and_parts}
use Rattle.std.proofs.lemmas.Bool.Decides.{nat_tests}
use Rattle.std.specs.Prelude.{◌==◌, nat_le}
use Rattle.std.proofs.lemmas.List.{take_more}
use Rattle.tz_model.specs.declared.board.Region.{Region}
use Rattle.tz_model.specs.Board.{in_region, is_region, are_regions}
use Rattle.tz_state.specs.Access.{is_mapped}
use Rattle.tz_gates.specs.Scanned.{IsGap, IsNext, IsNextOf}

-- ---- one region

one_unmapped : (r : Region) (a : ℕ) → in_region r a ≡ false → is_mapped (r ∷ []) a ≡ false
unfolding is_mapped
one_unmapped r a isnt = ap (λ (t : Bool). cond t true false) isnt

above_end : (r : Region) (a : ℕ) → r.base + r.size ≤ a → in_region r a ≡ false
above_end r a l = grind (arith, nat_tests)

below_base : (r : Region) (a : ℕ) → a < r.base → in_region r a ≡ false
below_base r a l = grind (arith, nat_tests)

-- what a region is made of, in words
pub record IsMade (r : Region) : Type 0 where
  pub base : r.base % 32 ≡ 0
  pub size : r.size % 32 ≡ 0
  pub some : 32 ≤ r.size
  pub low : r.base + r.size ≤ 0xE0000000

pub made : (r : Region) → is_region r ≡ true → IsMade r
made r is =
    let p = and_parts (r.base % 32 == 0) _ is in
    let q = and_parts (r.size % 32 == 0) _ p.1 in
    let s = and_parts (nat_le 32 r.size) (nat_le (r.base + r.size) 0xE0000000) q.1 in
    let p0 : (r.base % 32 == 0) ≡ true = p.0 in
    let q0 : (r.size % 32 == 0) ≡ true = q.0 in
    let s0 : nat_le 32 r.size ≡ true = s.0 in
    let s1 : nat_le (r.base + r.size) 0xE0000000 ≡ true = s.1 in
    record { base = grind (arith, nat_tests); size = grind (arith, nat_tests); some = grind (arith, nat_tests); low = grind (arith, nat_tests) }

pub past_region : (r : Region) (from : ℕ) → r.base + r.size ≤ from → IsNextOf (r ∷ []) from None
past_region r from l a le lt = one_unmapped r a (above_end r a (omega arith))

pub rest_of_region : (r : Region) (from : ℕ) → is_region r ≡ true → from % 32 ≡ 0 → r.base < from → from < r.base + r.size → IsNextOf (r ∷ []) from (Some (from, r.base + r.size))
rest_of_region r from is block below some =
    let m = made r is in
    let base : r.base % 32 ≡ 0 = m.base in
    let size : r.size % 32 ≡ 0 = m.size in
    record { above = omega arith; some = some; low = m.low; first_block = block; end_block = omega arith; gap = λ a le lt. absurd (omega arith) }

pub whole_region : (r : Region) (from : ℕ) → is_region r ≡ true → from ≤ r.base → IsNextOf (r ∷ []) from (Some (r.base, r.base + r.size))
whole_region r from is above =
    let m = made r is in
    let base : r.base % 32 ≡ 0 = m.base in
    let size : r.size % 32 ≡ 0 = m.size in
    let some : 32 ≤ r.size = m.some in
    record { above = above; some = omega arith; low = m.low; first_block = m.base; end_block = omega arith; gap = λ a le lt. one_unmapped r a (below_base r a lt) }

-- ---- more regions

pub unmapped_append : (rs qs : List Region) (a : ℕ) → is_mapped rs a ≡ false → is_mapped qs a ≡ false → is_mapped (rs ++ qs) a ≡ false
unfolding is_mapped
unmapped_append [] qs a isnt other = other
unmapped_append (r ∷ rs) qs a isnt other = go (in_region r a) (λ e. unmapped_append rs qs a e other) isnt where
  go : (t : Bool) → (is_mapped rs a ≡ false → is_mapped (rs ++ qs) a ≡ false) → cond t true (is_mapped rs a) ≡ false → cond t true (is_mapped (rs ++ qs) a) ≡ false
  go true more e = e
  go false more e = more e

gap_both : (rs qs : List Region) (from to end : ℕ) → to ≤ end → IsGap rs from to → IsGap qs from end → IsGap (rs ++ qs) from to
gap_both rs qs from to end l p q a le lt = unmapped_append rs qs a (p a le lt) (q a le (omega arith))

gap_other : (rs qs : List Region) (from to end : ℕ) → to ≤ end → IsGap rs from end → IsGap qs from to → IsGap (rs ++ qs) from to
gap_other rs qs from to end l p q a le lt = unmapped_append rs qs a (p a le (omega arith)) (q a le lt)

-- the gap before the bytes may be shorter where there are other regions
with_gap : (rs qs : List Region) (from first end : ℕ) → IsNext rs from first end → IsGap qs from first → IsNext qs from first end
with_gap rs qs from first end h gap =
    record { above = h.above; some = h.some; low = h.low; first_block = h.first_block; end_block = h.end_block; gap = gap }

low_first : (rs : List Region) (from first end : ℕ) → IsNext rs from first end → first ≤ 2 ^ 32
low_first rs from first end h = let a = h.some in let b = h.low in omega arith

pub next_other : (rs qs : List Region) (from : ℕ) (other : Option (ℕ × ℕ)) → IsNextOf rs from None → IsNextOf qs from other → IsNextOf (rs ++ qs) from other
next_other rs qs from None p q = gap_both rs qs from (2 ^ 32) (2 ^ 32) (omega arith) p q
next_other rs qs from (Some x) p q = with_gap qs (rs ++ qs) from x.0 x.1 q (gap_other rs qs from x.0 (2 ^ 32) (low_first qs from x.0 x.1 q) p q.gap)

pub next_one : (rs qs : List Region) (from : ℕ) (x : ℕ × ℕ) → IsNextOf rs from (Some x) → IsNextOf qs from None → IsNextOf (rs ++ qs) from (Some x)
next_one rs qs from x p q = with_gap rs (rs ++ qs) from x.0 x.1 p (gap_both rs qs from x.0 (2 ^ 32) (low_first rs from x.0 x.1 p) p.gap q)

pub next_first : (rs qs : List Region) (from : ℕ) (x y : ℕ × ℕ) → x.0 ≤ y.0 → IsNextOf rs from (Some x) → IsNextOf qs from (Some y) → IsNextOf (rs ++ qs) from (Some x)
next_first rs qs from x y l p q = with_gap rs (rs ++ qs) from x.0 x.1 p (gap_both rs qs from x.0 y.0 l p.gap q.gap)

pub next_second : (rs qs : List Region) (from : ℕ) (x y : ℕ × ℕ) → y.0 < x.0 → IsNextOf rs from (Some x) → IsNextOf qs from (Some y) → IsNextOf (rs ++ qs) from (Some y)
next_second rs qs from x y l p q = with_gap qs (rs ++ qs) from y.0 y.1 q (gap_other rs qs from y.0 x.0 (omega arith) p.gap q.gap)

pub next_none : (from : ℕ) → IsNextOf [] from None
unfolding is_mapped
next_none from a le lt = refl

-- each region of a board is made so
pub region_at : (rs : List Region) (i : ℕ) (r : Region) → are_regions rs ≡ true → i < length rs → is_region (get_or rs i r) ≡ true
region_at [] i r all l = absurd (omega arith)
region_at (q ∷ rs) zero r all l = (and_parts (is_region q) (are_regions rs) all).0
region_at (q ∷ rs) (suc i) r all l = region_at rs i r (and_parts (is_region q) (are_regions rs) all).1 (omega arith)

-- one region more
pub next_more : (rs : List Region) (i : ℕ) (d : Region) (from : ℕ) (old part new : Option (ℕ × ℕ)) → i < length rs
    → ((ps qs : List Region) (from : ℕ) → IsNextOf ps from old → IsNextOf qs from part → IsNextOf (ps ++ qs) from new) → IsNextOf (take i rs) from old → IsNextOf (get_or rs i d ∷ []) from part
    → IsNextOf (take (i + 1) rs) from new
next_more rs i d from old part new l both p q =
    subst (λ (xs : List Region). IsNextOf xs from new) (sym (take_more rs i d l)) (both (take i rs) (get_or rs i d ∷ []) from p q)
