-- What stands in a ring of places after one more, and after one less.
use Rattle.std.proofs.Common.{◌≡◌, ℕ, zero, suc, ◌+◌, ◌-◌, ◌<◌, ◌≤◌, List, [], ◌∷◌, ◌++◌, length, take, drop, reverse, set, get_or, refl, sym, ap, ◌∙◌, append_assoc, add-one, subst, arith}
use Rattle.std.proofs.lemmas.List.{reverse-append, length-reverse, take_at, drop_at, length-take-le, length-drop, set_split, set-get_or}
use Rattle.std.proofs.lemmas.Grind.{common_steps, elements, reverse_onto}
use Rattle.tz_undo.specs.Ring.{place_after, place_before, from_newest, standing}

-- places in two parts
parts : {A : Type 0} (a b : List A) (n : ℕ) → length a ≡ n → from_newest (a ++ b) n ≡ reverse a ++ reverse b
parts a b n e = rw (take_at a b n e, drop_at a b n e) refl

-- one more at the end of the first part
more : {A : Type 0} (a b : List A) (x : A) (n : ℕ) → length a + 1 ≡ n → from_newest (a ++ x ∷ b) n ≡ x ∷ (reverse a ++ reverse b)
more a b x n e =
    subst (λ l. from_newest l n ≡ x ∷ (reverse a ++ reverse b)) (append_assoc a (x ∷ []) b)
    (parts (a ++ x ∷ []) b n (grind (arith, common_steps)) ∙ ap (λ l. l ++ reverse b) (reverse-append a (x ∷ [])))

-- one at the front of the second part, which is the oldest
less : {A : Type 0} (a b : List A) (y : A) (n k : ℕ) → length a ≡ n → n + length b ≡ k → take k (from_newest (a ++ y ∷ b) n) ≡ reverse a ++ reverse b
less a b y n k e f =
    let old : from_newest (a ++ y ∷ b) n ≡ (reverse a ++ reverse b) ++ y ∷ [] =
    parts a (y ∷ b) n e ∙ ap (λ l. reverse a ++ l) (reverse_onto b y []) ∙ sym (append_assoc (reverse a) (reverse b) (y ∷ [])) in
    ap (take k) old ∙ take_at (reverse a ++ reverse b) (y ∷ []) k (grind (arith, common_steps, length-reverse))

-- one more in the place of the oldest
turned : {A : Type 0} (a b : List A) (x y : A) (n k : ℕ) → length a ≡ n → n + length b + 1 ≡ k
    → from_newest (a ++ x ∷ b) (place_after k n) ≡ x ∷ take (k - 1) (from_newest (a ++ y ∷ b) n)
turned a [] x y n k e f =
    let end : place_after k n ≡ 0 = grind (arith, common_steps) in
    rw (end, less a [] y n (k - 1) e (omega arith)) (grind (arith, common_steps, elements, reverse-append))
turned a (z ∷ b) x y n k e f =
    let further : place_after k n ≡ n + 1 = grind (arith, common_steps) in
    rw (further, less a (z ∷ b) y n (k - 1) e (omega arith)) (more a (z ∷ b) x (n + 1) (omega arith))

-- the places round one of them
split : {A : Type 0} (places : List A) (n : ℕ) (d : A) → n < length places → places ≡ take n places ++ get_or places n d ∷ drop (suc n) places
split places n d h = sym (set-get_or places n d) ∙ set_split places n (get_or places n d) h

-- what is put in the place of the oldest is the newest
pub newer : {A : Type 0} (places : List A) (n : ℕ) (x : A) → n < length places
    → from_newest (set places n x) (place_after (length places) n) ≡ x ∷ take (length places - 1) (from_newest places n)
newer places n x h =
    let e : length (take n places) ≡ n = length-take-le n places (omega arith) in
    let f : n + length (drop (suc n) places) + 1 ≡ length places = grind (arith, common_steps, length-drop) in
    ap (λ l. from_newest l (place_after (length places) n)) (set_split places n x h)
    ∙ turned (take n places) (drop (suc n) places) x (get_or places n x) n (length places) e f
    ∙ ap (λ l. x ∷ take (length places - 1) (from_newest l n)) (sym (split places n x h))

-- the place before one is the one that this is after
after_before : (k n : ℕ) → n < k → place_after k (place_before k n) ≡ n
after_before k zero h = grind (arith, common_steps)
after_before k (suc n) h = grind (arith, common_steps)

before_fits : (k n : ℕ) → n < k → place_before k n < k
before_fits k zero h = grind (arith, common_steps)
before_fits k (suc n) h = grind (arith, common_steps)

-- the newest stands in the place before
pub newest : {A : Type 0} (places : List A) (n : ℕ) (d : A) → n < length places
    → from_newest places n ≡ get_or places (place_before (length places) n) d ∷ take (length places - 1) (from_newest places (place_before (length places) n))
newest places n d h =
    let p = place_before (length places) n in
    let x = get_or places p d in
    sym (ap (λ l. from_newest l n) (set-get_or places p d))
    ∙ ap (λ m. from_newest (set places p x) m) (sym (after_before (length places) n h))
    ∙ newer places p x (before_fits (length places) n h)

-- ---- those that stand

take_within : {A : Type 0} (n m : ℕ) (l : List A) → n ≤ m → take n (take m l) ≡ take n l
take_within zero m l h = refl
take_within (suc n) zero l h = absurd (omega arith)
take_within (suc n) (suc m) [] h = refl
take_within (suc n) (suc m) (x ∷ l) h = ap (λ k. x ∷ k) (take_within n m l (omega arith))

take_beyond : {A : Type 0} (n m : ℕ) (l : List A) → n ≤ m → take m (take n l) ≡ take n l
take_beyond zero m l h = grind (arith, common_steps)
take_beyond (suc n) zero l h = absurd (omega arith)
take_beyond (suc n) (suc m) [] h = refl
take_beyond (suc n) (suc m) (x ∷ l) h = ap (λ k. x ∷ k) (take_beyond n m l (omega arith))

-- one more of those that stand, of which the ring has so many at most
onto : {A : Type 0} (k c : ℕ) (x : A) (l : List A) → c ≤ k → take (c + 1) (x ∷ take k l) ≡ take (suc k) (x ∷ take c l)
onto k c x l h = rw add-one (ap (λ m. x ∷ m) (take_within c k l h ∙ sym (take_beyond c k l h)))

-- the oldest goes
over : {A : Type 0} (k : ℕ) (x : A) (l : List A) → take (suc k) (x ∷ take k l) ≡ take (suc k) (x ∷ take (suc k) l)
over k x l = ap (λ m. x ∷ m) (take_within k k l (omega arith) ∙ sym (take_within k (suc k) l (omega arith)))

-- one that the ring has room for
pub one_more : {A : Type 0} (places : List A) (n c : ℕ) (x : A) → n < length places → c < length places
    → standing (set places n x) (place_after (length places) n) (c + 1) ≡ take (length places) (x ∷ standing places n c)
one_more places n c x h room =
    let e : suc (length places - 1) ≡ length places = omega arith in
    ap (take (c + 1)) (newer places n x h) ∙ onto (length places - 1) c x (from_newest places n) (omega arith)
    ∙ ap (λ m. take m (x ∷ standing places n c)) e

-- one that takes the place of the oldest that stands
pub one_over : {A : Type 0} (places : List A) (n c : ℕ) (x : A) → n < length places → c ≡ length places
    → standing (set places n x) (place_after (length places) n) c ≡ take (length places) (x ∷ standing places n c)
one_over places n c x h full =
    let e : suc (length places - 1) ≡ length places = omega arith in
    rw full (ap (take (length places)) (newer places n x h)
    ∙ subst (λ m. take m (x ∷ take (length places - 1) (from_newest places n)) ≡ take m (x ∷ take m (from_newest places n))) e (over (length places - 1) x (from_newest places n)))

-- the newest, and those that stand before it
pub one_less : {A : Type 0} (places : List A) (n c : ℕ) (d : A) → n < length places → c < length places
    → standing places n (suc c) ≡ get_or places (place_before (length places) n) d ∷ standing places (place_before (length places) n) c
one_less places n c d h room =
    ap (take (suc c)) (newest places n d h)
    ∙ ap (λ m. get_or places (place_before (length places) n) d ∷ m) (take_within c (length places - 1) (from_newest places (place_before (length places) n)) (omega arith))

-- so many stand
pub length_standing : {A : Type 0} (places : List A) (n c : ℕ) → c ≤ length places → length (standing places n c) ≡ c
length_standing places n c few =
    length-take-le c (from_newest places n) (grind (arith, common_steps, length-reverse, length-drop))
