-- Bytes of two memories that differ and are open in both: in a block, in a region, and at all.
use Rattle.std.proofs.Common.{◌≡◌, ℕ, zero, suc, ◌+◌, ◌-◌, ◌*◌, ◌/◌, ◌%◌, ◌<◌, ◌≤◌, Bool, true, false, ◌&&◌, ◌||◌, List, [], ◌∷◌, length, take, refl, sym, ap, ◌∙◌, subst, arith}
use Rattle.std.specs.Prelude.{is_some, None, Option, Some}
use Rattle.std.specs.List.{list_any}
use Rattle.std.specs.FinMap.{get}
use Rattle.std.proofs.Math.Bool.{or_assoc}
use Rattle.std.proofs.lemmas.Bool.{and_parts, or_parts}
use Rattle.std.proofs.lemmas.Bool.Decides.{nat_tests}
use Rattle.tz_model.specs.declared.board.Region.{Region}
use Rattle.tz_model.specs.declared.board.RegionSide.{RegionSide}
use Rattle.tz_model.specs.declared.board.RegionSide.TheVariants.{Secure, Nsc, NonSecure}
use Rattle.tz_model.specs.Board.{in_region, is_region, are_regions, is_apart, apart_from, are_apart, is_nonsecure}
use Rattle.tz_state.specs.Attribution.{MapState, more_secure, sau_side, idau_side, mapped_side, is_exempt, data_attribution, is_open}
use Rattle.tz_state.specs.Access.{is_mapped}
use Rattle.tz_state.specs.State.{Bus, map_in}
use Rattle.tz_state.specs.Difference.{is_same_byte, byte_differs, open_byte_differs, open_bytes_differ}
use Rattle.tz_state.proofs.Difference.{none_differs, differs_nowhere}
use Rattle.tz_mem.specs.Values.{MemoryValue}
use Rattle.tz_mem.specs.Difference.{some_from, region_at, IsFilled}
use Rattle.tz_access.specs.Checks.{IsByBlocks}
use Rattle.tz_access.proofs.Blocks.{mapped_blocks}

-- ---- addresses from one on

-- so many addresses and more of them
split : (p : ℕ → Bool) (a n m : ℕ) → some_from p a (n + m) ≡ (some_from p a n || some_from p (a + n) m)
unfolding some_from
split p a zero m =
    let all : 0 + m ≡ m = omega arith in
    let first : a ≡ a + 0 = omega arith in
    ap (some_from p a) all ∙ ap (λ x. some_from p x m) first
split p a (suc n) m =
    let all : suc n + m ≡ suc (n + m) = omega arith in
    let next : a + 1 + n ≡ a + suc n = omega arith in
    ap (some_from p a) all
    ∙ ap (λ x. p a || x) (split p (a + 1) n m ∙ ap (λ x. some_from p (a + 1) n || some_from p x m) next)
    ∙ sym (or_assoc (p a) (some_from p (a + 1) n) (some_from p (a + suc n) m))

none_from : (p : ℕ → Bool) (a n : ℕ) → ((x : ℕ) → p x ≡ false) → some_from p a n ≡ false
unfolding some_from
none_from p a zero none = refl
none_from p a (suc n) none = rw (none a) (none_from p (a + 1) n none)

none_at : (p : ℕ → Bool) (a n t : ℕ) → some_from p a n ≡ false → t < n → p (a + t) ≡ false
unfolding some_from
none_at p a zero t e l = absurd (omega arith)
none_at p a (suc n) zero e l = ap p (omega arith) ∙ (or_parts (p a) (some_from p (a + 1) n) e).0
none_at p a (suc n) (suc t) e l = ap p (omega arith) ∙ none_at p (a + 1) n t (or_parts (p a) (some_from p (a + 1) n) e).1 (omega arith)

-- a test that asks another first
none_under : (p d : ℕ → Bool) (a n : ℕ) → ((x : ℕ) → d x ≡ false → p x ≡ false) → some_from d a n ≡ false → some_from p a n ≡ false
unfolding some_from
none_under p d a zero under e = refl
none_under p d a (suc n) under e =
    let parts = or_parts (d a) (some_from d (a + 1) n) e in
    rw (under a parts.0) (none_under p d (a + 1) n under parts.1)

-- and one that has the same answer at all these addresses
one_answer : (p d : ℕ → Bool) (o : Bool) (a n : ℕ) → ((t : ℕ) → t < n → p (a + t) ≡ (o && d (a + t))) → some_from p a n ≡ (o && some_from d a n)
unfolding some_from
one_answer p d true a zero same = refl
one_answer p d false a zero same = refl
one_answer p d o a (suc n) same =
    let first : p a ≡ (o && d a) = subst (λ x. p x ≡ (o && d x)) (omega arith) (same 0 (omega arith)) in
    let rest = one_answer p d o (a + 1) n (λ t l. subst (λ x. p x ≡ (o && d x)) (omega arith) (same (suc t) (omega arith))) in
    rw (first, rest) (shared o (d a) (some_from d (a + 1) n))
  where
    shared : (x y z : Bool) → ((x && y) || (x && z)) ≡ (x && (y || z))
    shared true y z = refl
    shared false y z = refl

-- ---- a block

closed : (p q r : Bool) → r ≡ false → (p && (q && r)) ≡ false
closed true true r e = e
closed true false r e = refl
closed false q r e = refl

-- what has the same bytes has no open ones that differ
pub none_open : (b c : Bus) (a n : ℕ) → some_from (byte_differs b.memory c.memory) a n ≡ false → some_from (open_byte_differs b c) a n ≡ false
none_open b c a n e =
    none_under (open_byte_differs b c) (byte_differs b.memory c.memory) a n
    (λ x none. closed (is_open (map_in b) x) (is_open (map_in c) x) (byte_differs b.memory c.memory x) none) e

both_open : (p q r : Bool) → (p && (q && r)) ≡ ((p && q) && r)
both_open true q r = refl
both_open false q r = refl

-- in a block whose bytes differ, whether it is open tells
pub some_open : (b c : Bus) (a : ℕ) → IsByBlocks (is_open (map_in b)) → IsByBlocks (is_open (map_in c)) → a % 32 ≡ 0 → some_from (byte_differs b.memory c.memory) a 32 ≡ true
    → some_from (open_byte_differs b c) a 32 ≡ (is_open (map_in b) a && is_open (map_in c) a)
some_open b c a mine others whole some =
    one_answer (open_byte_differs b c) (byte_differs b.memory c.memory) (is_open (map_in b) a && is_open (map_in c) a) a 32
    (λ t l.
    let block : (a + t) / 32 ≡ a / 32 = omega (arith, whole, l) in
    rw (mine.same (a + t) a block, others.same (a + t) a block) (both_open (is_open (map_in b) a) (is_open (map_in c) a) (byte_differs b.memory c.memory (a + t))))
    ∙ ap (λ x. (is_open (map_in b) a && is_open (map_in c) a) && x) some
    ∙ and_true (is_open (map_in b) a && is_open (map_in c) a)
  where
    and_true : (x : Bool) → (x && true) ≡ x
    and_true true = refl
    and_true false = refl

whole_block : (r : Region) (k : ℕ) → is_region r ≡ true → (r.base + k * 32) % 32 ≡ 0
whole_block r k is = grind (arith, nat_tests)

-- what is answered of a block whose bytes differ
pub block_answer : (b c : Bus) (r : Region) (k addr : ℕ) (mine others : Bool) → is_region r ≡ true → addr ≡ r.base + k * 32
    → mine ≡ is_open (map_in b) addr → IsByBlocks (is_open (map_in b)) → others ≡ is_open (map_in c) addr → IsByBlocks (is_open (map_in c))
    → true ≡ some_from (byte_differs b.memory c.memory) (r.base + k * 32) 32
    → (mine && others) ≡ some_from (open_byte_differs b c) (r.base + k * 32) 32
block_answer b c r k addr mine others is at first by_first second by_second some =
    ap (λ x. x && others) (first ∙ ap (is_open (map_in b)) at)
    ∙ ap (λ x. is_open (map_in b) (r.base + k * 32) && x) (second ∙ ap (is_open (map_in c)) at)
    ∙ sym (some_open b c (r.base + k * 32) by_first by_second (whole_block r k is) (sym some))

-- ---- a region

pub region_whole : (rs : List Region) (i : ℕ) → are_regions rs ≡ true → i < length rs → is_region (region_at rs i) ≡ true
region_whole [] i is l = absurd (omega arith)
region_whole (r ∷ rs) zero is l = (and_parts (is_region r) (are_regions rs) is).0
region_whole (r ∷ rs) (suc i) is l = region_whole rs i (and_parts (is_region r) (are_regions rs) is).1 (omega arith)

none_within : (p : ℕ → Bool) (a n : ℕ) → ((t : ℕ) → t < n → p (a + t) ≡ false) → some_from p a n ≡ false
unfolding some_from
none_within p a zero none = refl
none_within p a (suc n) none =
    let first : p a ≡ false = subst (λ x. p x ≡ false) (omega arith) (none 0 (omega arith)) in
    rw first (none_within p (a + 1) n (λ t l. subst (λ x. p x ≡ false) (omega arith) (none (suc t) (omega arith))))

apart_there : (r : Region) (rs : List Region) (i : ℕ) → apart_from r rs ≡ true → i < length rs → is_apart r (region_at rs i) ≡ true
apart_there r [] i apart l = absurd (omega arith)
apart_there r (q ∷ rs) zero apart l = (and_parts (is_apart r q) (apart_from r rs) apart).0
apart_there r (q ∷ rs) (suc i) apart l = apart_there r rs i (and_parts (is_apart r q) (apart_from r rs) apart).1 (omega arith)

out_of_other : (r q : Region) (a : ℕ) → is_apart r q ≡ true → in_region q a ≡ true → in_region r a ≡ false
out_of_other r q a apart is = grind (arith, nat_tests)

-- of regions that share no byte each decides at its own addresses
idau_there : (rs : List Region) (i a : ℕ) → are_apart rs ≡ true → i < length rs → in_region (region_at rs i) a ≡ true → idau_side rs a ≡ (region_at rs i).side
unfolding idau_side
idau_there [] i a apart l is = absurd (omega arith)
idau_there (r ∷ rs) zero a apart l is = rw is refl
idau_there (r ∷ rs) (suc i) a apart l is =
    let parts = and_parts (apart_from r rs) (are_apart rs) apart in
    rw (out_of_other r (region_at rs i) a (apart_there r rs i parts.0 (omega arith)) is) (idau_there rs i a parts.1 (omega arith) is)

secure_side : (s t : RegionSide) → is_nonsecure t ≡ false → is_nonsecure (more_secure s t) ≡ false
secure_side Secure t e = refl
secure_side Nsc Secure e = refl
secure_side Nsc Nsc e = refl
secure_side Nsc NonSecure e = refl
secure_side NonSecure t e = e

below_private : (r : Region) (a : ℕ) → is_region r ≡ true → in_region r a ≡ true → is_exempt a ≡ false
below_private r a whole is = grind (arith, nat_tests)

closed_there : (m : MapState) (i a : ℕ) → are_regions m.regions ≡ true → are_apart m.regions ≡ true → i < length m.regions → in_region (region_at m.regions i) a ≡ true
    → is_nonsecure (region_at m.regions i).side ≡ false → is_open m a ≡ false
unfolding is_open data_attribution mapped_side
closed_there m i a whole apart l is secure =
    rw (below_private (region_at m.regions i) a (region_whole m.regions i whole l) is, idau_there m.regions i a apart l is)
    (secure_side (sau_side m.sau a) (region_at m.regions i).side secure)

-- no byte is open in a region that the board makes Secure
pub none_secure : (b c : Bus) (i : ℕ) → are_regions b.board.regions ≡ true → are_apart b.board.regions ≡ true → i < length b.board.regions
    → false ≡ is_nonsecure (region_at b.board.regions i).side → false ≡ some_from (open_byte_differs b c) (region_at b.board.regions i).base (region_at b.board.regions i).size
none_secure b c i whole apart l secure =
    let r = region_at b.board.regions i in
    sym (none_within (open_byte_differs b c) r.base r.size (λ t below.
    let is : in_region r (r.base + t) ≡ true = grind (arith, nat_tests) in
    rw (closed_there (map_in b) i (r.base + t) whole apart l is (sym secure)) refl))

-- nor in a block of it
pub none_secure_block : (b c : Bus) (i k : ℕ) → are_regions b.board.regions ≡ true → are_apart b.board.regions ≡ true → i < length b.board.regions
    → (k + 1) * 32 ≤ (region_at b.board.regions i).size → false ≡ is_nonsecure (region_at b.board.regions i).side
    → false ≡ some_from (open_byte_differs b c) ((region_at b.board.regions i).base + k * 32) 32
none_secure_block b c i k whole apart l fit secure =
    let r = region_at b.board.regions i in
    sym (none_within (open_byte_differs b c) (r.base + k * 32) 32 (λ t below.
    let is : in_region r (r.base + k * 32 + t) ≡ true = grind (arith, nat_tests) in
    rw (closed_there (map_in b) i (r.base + k * 32 + t) whole apart l is (sym secure)) refl))

-- the bytes of a whole region
pub none_whole : (b c : Bus) (a n m : ℕ) → n ≡ m → false ≡ some_from (byte_differs b.memory c.memory) (a + 0) n → false ≡ some_from (open_byte_differs b c) a m
none_whole b c a n m e none =
    let at : a + 0 ≡ a = omega arith in
    sym (ap (some_from (open_byte_differs b c) a) (sym e) ∙ none_open b c a n (ap (λ x. some_from (byte_differs b.memory c.memory) x n) (sym at) ∙ sym none))

pub none_of_nothing : (p : ℕ → Bool) (a : ℕ) → some_from p a 0 ≡ false
unfolding some_from
none_of_nothing p a = refl

-- a block passes in the region that holds it
pub some_in_block : (p : ℕ → Bool) (a n k : ℕ) → (k + 1) * 32 ≤ n → some_from p (a + k * 32) 32 ≡ true → some_from p a n ≡ true
some_in_block p a n k fit some =
    let parts : n ≡ k * 32 + (32 + (n - (k * 32 + 32))) = omega arith in
    ap (some_from p a) parts ∙ split p a (k * 32) (32 + (n - (k * 32 + 32)))
    ∙ ap (λ x. some_from p a (k * 32) || x) (split p (a + k * 32) 32 (n - (k * 32 + 32)) ∙ ap (λ x. x || some_from p (a + k * 32 + 32) (n - (k * 32 + 32))) some)
    ∙ or_true (some_from p a (k * 32))
  where
    or_true : (x : Bool) → (x || true) ≡ true
    or_true true = refl
    or_true false = refl

-- one more block
pub none_in_block : (p : ℕ → Bool) (a k : ℕ) → some_from p a (k * 32) ≡ false → some_from p (a + k * 32) 32 ≡ false → some_from p a ((k + 1) * 32) ≡ false
none_in_block p a k before none =
    let parts : (k + 1) * 32 ≡ k * 32 + 32 = omega arith in
    ap (some_from p a) parts ∙ split p a (k * 32) 32 ∙ rw (before, none) refl

-- ---- all regions

-- some address of a region passes
abbrev pub region_passes : (ℕ → Bool) → Region → Bool
region_passes p r = some_from p r.base r.size

none_mapped : (p : ℕ → Bool) (rs : List Region) (a : ℕ) → list_any (region_passes p) rs ≡ false → is_mapped rs a ≡ true → p a ≡ false
unfolding is_mapped
none_mapped p [] a e is = absurd cc
none_mapped p (r ∷ rs) a e is =
    let parts = or_parts (region_passes p r) (list_any (region_passes p) rs) e in
    elim (in_region r a) as (λ b. in_region r a ≡ b → p a ≡ false) [
      | true ↦ λ is.
          let place : (r.base + (a - r.base) ≡ a) × (a - r.base < r.size) = grind (arith, nat_tests) in
          ap p (sym place.0) ∙ none_at p r.base r.size (a - r.base) parts.0 place.1
      | false ↦ λ out.
          let is' : is_mapped rs a ≡ true = rw out at is in
          none_mapped p rs a parts.1 is'
    ] refl

-- the regions below a number past the last are all
pub none_in_all : (p : ℕ → Bool) (rs : List Region) (i : ℕ) → length rs ≤ i → list_any (region_passes p) (take i rs) ≡ false → list_any (region_passes p) rs ≡ false
none_in_all p rs i past e = subst (λ (x : List Region). list_any (region_passes p) x ≡ false) (take_all rs i past) e
  where
    take_all : (rs : List Region) (i : ℕ) → length rs ≤ i → take i rs ≡ rs
    take_all [] zero past = refl
    take_all [] (suc i) past = refl
    take_all (r ∷ rs) zero past = absurd (omega arith)
    take_all (r ∷ rs) (suc i) past = ap (λ x. r ∷ x) (take_all rs i (omega arith))

no_bytes : (o q : Option ℕ) → is_some o ≡ false → is_some q ≡ false → is_same_byte o q ≡ true
no_bytes None None e f = refl
no_bytes None (Some y) e f = absurd cc
no_bytes (Some x) q e f = absurd cc

-- the regions of a bus, and its bytes
abbrev memory_in : Bus → MemoryValue
memory_in b = record { regions = b.board.regions; bytes = b.memory }

none_unmapped : (b c : Bus) (a : ℕ) → IsFilled (memory_in b) → IsFilled (memory_in c) → b.board.regions ≡ c.board.regions → is_mapped b.board.regions a ≡ false
    → byte_differs b.memory c.memory a ≡ false
none_unmapped b c a mine others same out =
    rw (no_bytes (get b.memory a) (get c.memory a) (mine.there a ∙ out) (others.there a ∙ ap (λ rs. is_mapped rs a) (sym same) ∙ out)) refl

-- ---- a block by its number

-- in a region that holds it, it is a whole block
pub held_fits : (r : Region) (block : ℕ) → is_region r ≡ true → in_region r (block * 32) ≡ true → (block - r.base / 32 + 1) * 32 ≤ r.size
held_fits r block whole is = grind (arith, nat_tests)

pub held_from : (r : Region) (block : ℕ) → is_region r ≡ true → in_region r (block * 32) ≡ true → r.base / 32 ≤ block
held_from r block whole is = grind (arith, nat_tests)

pub held_at : (r : Region) (block : ℕ) → is_region r ≡ true → in_region r (block * 32) ≡ true → r.base + (block - r.base / 32) * 32 ≡ block * 32
held_at r block whole is = grind (arith, nat_tests)

-- no region of these holds an address
not_mapped : (rs : List Region) (a : ℕ) → ((i : ℕ) → i < length rs → in_region (region_at rs i) a ≡ false) → is_mapped rs a ≡ false
unfolding is_mapped
not_mapped [] a none = refl
not_mapped (r ∷ rs) a none =
    let first : in_region r a ≡ false = none 0 (omega arith) in
    rw first (not_mapped rs a (λ i l. none (suc i) (omega arith)))

-- a block that no region holds has no byte
pub none_held : (b c : Bus) (block : ℕ) → IsFilled (memory_in b) → IsFilled (memory_in c) → b.board.regions ≡ c.board.regions → are_regions b.board.regions ≡ true
    → ((i : ℕ) → i < length b.board.regions → in_region (region_at b.board.regions i) (block * 32) ≡ false) → some_from (open_byte_differs b c) (block * 32) 32 ≡ false
none_held b c block mine others same whole none =
    none_within (open_byte_differs b c) (block * 32) 32
    (λ t l.
    let one : (block * 32 + t) / 32 ≡ block * 32 / 32 = omega (arith, l) in
    closed (is_open (map_in b) (block * 32 + t)) (is_open (map_in c) (block * 32 + t)) (byte_differs b.memory c.memory (block * 32 + t))
    (none_unmapped b c (block * 32 + t) mine others same (mapped_blocks b.board.regions (block * 32 + t) (block * 32) whole one ∙ not_mapped b.board.regions (block * 32) none)))

-- where no region has an open byte that differs, there is none
pub none_anywhere : (b c : Bus) → IsFilled (memory_in b) → IsFilled (memory_in c) → b.board.regions ≡ c.board.regions
    → list_any (region_passes (open_byte_differs b c)) b.board.regions ≡ false → open_bytes_differ b c ≡ false
none_anywhere b c mine others same none =
    differs_nowhere b c (λ a. elim (is_mapped b.board.regions a) as (λ t. is_mapped b.board.regions a ≡ t → open_byte_differs b c a ≡ false) [
      | true ↦ λ is. none_mapped (open_byte_differs b c) b.board.regions a none is
      | false ↦ λ out. closed (is_open (map_in b) a) (is_open (map_in c) a) (byte_differs b.memory c.memory a) (none_unmapped b c a mine others same out)
    ] refl)

-- where one has, there is
pub some_anywhere : (b c : Bus) (a n : ℕ) → some_from (open_byte_differs b c) a n ≡ true → open_bytes_differ b c ≡ true
some_anywhere b c a n some =
    elim (open_bytes_differ b c) as (λ t. open_bytes_differ b c ≡ t → open_bytes_differ b c ≡ true) [
      | true ↦ λ is. is
      | false ↦ λ none. let e : some_from (open_byte_differs b c) a n ≡ false = none_from (open_byte_differs b c) a n (none_differs b c none) in absurd cc
    ] refl
