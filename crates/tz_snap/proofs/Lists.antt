-- Elements of lists by their index.
use Rattle.std.proofs.Common.{◌≡◌, ◌≢◌, ℕ, zero, suc, ◌+◌, ◌-◌, ◌<◌, ◌≤◌, ◌==◌, Bool, true, false, not, ◌&&◌, eqb, get_or, List, [], ◌∷◌, ◌++◌, length, drop, Option, Some, None, refl, sym, ap, ◌∙◌, arith}
use Rattle.std.specs.Prelude.{slice_get}
use Rattle.std.specs.Option.{option_eq}
use Rattle.std.proofs.lemmas.Bool.{and_parts, eqb-true, eq-eqb, not-false, not-true, true≢false}
use Rattle.std.proofs.lemmas.Option.{slice_get-get_or}
use Rattle.tz_snap.specs.StateFile.{begins_with}

pub get_left : (xs ys : List ℕ) (i : ℕ) → i < length xs → slice_get (xs ++ ys) i ≡ slice_get xs i
get_left [] ys i l = absurd (omega arith)
get_left (x ∷ xs) ys zero l = refl
get_left (x ∷ xs) ys (suc i) l = get_left xs ys i (omega arith)

pub get_right : (xs ys : List ℕ) (i : ℕ) → length xs ≤ i → slice_get (xs ++ ys) i ≡ slice_get ys (i - length xs)
get_right [] ys i l = let e : i ≡ i - 0 = omega arith in ap (slice_get ys) e
get_right (x ∷ xs) ys zero l = absurd (omega arith)
get_right (x ∷ xs) ys (suc i) l = let e : i - length xs ≡ suc i - suc (length xs) = omega arith in get_right xs ys i (omega arith) ∙ ap (slice_get ys) e

-- what is left from an index on
pub drop_some : (xs : List ℕ) (i w : ℕ) → slice_get xs i ≡ Some w → drop i xs ≡ w ∷ drop (i + 1) xs
drop_some [] i w e = cc
drop_some (x ∷ xs) zero w e = let same : x ≡ w = cc in ap (λ (y : ℕ). y ∷ xs) same
drop_some (x ∷ xs) (suc i) w e =
    let k : suc (i + 1) ≡ suc i + 1 = omega arith in
    let front : drop i xs ≡ w ∷ drop (i + 1) xs = drop_some xs i w e in
    front ∙ ap (λ (n : ℕ). w ∷ drop n (x ∷ xs)) k

pub drop_none : (xs : List ℕ) (i : ℕ) → slice_get xs i ≡ None → drop i xs ≡ []
drop_none [] zero e = refl
drop_none [] (suc i) e = refl
drop_none (x ∷ xs) zero e = cc
drop_none (x ∷ xs) (suc i) e = drop_none xs i e

pub get_drop : (n : ℕ) (xs : List ℕ) (i : ℕ) → slice_get (drop n xs) i ≡ slice_get xs (n + i)
get_drop zero xs i = let e : i ≡ 0 + i = omega arith in ap (slice_get xs) e
get_drop (suc n) [] i = refl
get_drop (suc n) (x ∷ xs) i = let e : suc (n + i) ≡ suc n + i = omega arith in get_drop n xs i ∙ ap (slice_get (x ∷ xs)) e

-- ---- a list at the front of another

pub same_front : (w : ℕ) (ws xs : List ℕ) → begins_with (w ∷ ws) (w ∷ xs) ≡ begins_with ws xs
same_front w ws xs = ap (λ (b : Bool). b && begins_with ws xs) (eq-eqb w w refl)

-- one word of both on, and the words are the same
pub front_more : (ws xs : List ℕ) (i w : ℕ) → slice_get ws i ≡ Some w → slice_get xs i ≡ Some w → begins_with (drop i ws) (drop i xs) ≡ begins_with (drop (i + 1) ws) (drop (i + 1) xs)
front_more ws xs i w e f =
    ap (λ (l : List ℕ). begins_with l (drop i xs)) (drop_some ws i w e)
    ∙ ap (begins_with (w ∷ drop (i + 1) ws)) (drop_some xs i w f)
    ∙ same_front w (drop (i + 1) ws) (drop (i + 1) xs)

by_test : (b : Bool) → (b ≡ true → ⊥) → b ≡ false
by_test true h = absurd (h refl)
by_test false h = refl

differ : (w x : ℕ) → Some x ≢ Some w → (w == x) ≡ false
differ w x n = by_test (w == x) (λ e. n (ap Some (sym (eqb-true w x e))))

-- a word that isn't there, or is another
other_word : (w : ℕ) (ws xs : List ℕ) → slice_get xs 0 ≢ Some w → begins_with (w ∷ ws) xs ≡ false
other_word w ws [] n = refl
other_word w ws (x ∷ xs) n = ap (λ (b : Bool). b && begins_with ws xs) (differ w x n)

pub front_other : (ws xs : List ℕ) (i w : ℕ) → slice_get ws i ≡ Some w → slice_get xs i ≢ Some w → begins_with (drop i ws) (drop i xs) ≡ false
front_other ws xs i w e n =
    ap (λ (l : List ℕ). begins_with l (drop i xs)) (drop_some ws i w e)
    ∙ other_word w (drop (i + 1) ws) (drop i xs) (λ f. let k : i ≡ i + 0 = omega arith in n (ap (slice_get xs) k ∙ sym (get_drop i xs 0) ∙ f))

-- what a comparison of two words by their indices tells
same_option : (a b : Option ℕ) → option_eq eqb a b ≡ true → a ≡ b
same_option None None e = refl
same_option None (Some w) e = cc
same_option (Some x) None e = cc
same_option (Some x) (Some w) e = ap Some (eqb-true x w e)

equal_option : (a : Option ℕ) → option_eq eqb a a ≡ true
equal_option None = refl
equal_option (Some w) = eq-eqb w w refl

-- the words of a list and those of another behind its first two are the same at an index
pub compared_same : (ws words : List ℕ) (i : ℕ) (a b : Option ℕ) (t : Bool) → i < length ws → a ≡ slice_get words (i + 2) → b ≡ slice_get ws i → t ≡ not (option_eq eqb a b) → t ≡ false
    → begins_with (drop i ws) (drop i (drop 2 words)) ≡ begins_with (drop (i + 1) ws) (drop (i + 1) (drop 2 words))
compared_same ws words i a b t l at here test false' =
    let w = get_or ws i 0 in
    let some : slice_get ws i ≡ Some w = slice_get-get_or ws i 0 l in
    let same : a ≡ b = same_option a b (not-false (option_eq eqb a b) (sym test ∙ false')) in
    let place : 2 + i ≡ i + 2 = omega arith in
    front_more ws (drop 2 words) i w some (get_drop 2 words i ∙ ap (slice_get words) place ∙ sym at ∙ same ∙ here ∙ some)

-- or another
pub compared_other : (ws words : List ℕ) (i : ℕ) (a b : Option ℕ) (t : Bool) → i < length ws → a ≡ slice_get words (i + 2) → b ≡ slice_get ws i → t ≡ not (option_eq eqb a b) → t ≡ true
    → begins_with (drop i ws) (drop i (drop 2 words)) ≡ false
compared_other ws words i a b t l at here test true' =
    let w = get_or ws i 0 in
    let some : slice_get ws i ≡ Some w = slice_get-get_or ws i 0 l in
    let place : i + 2 ≡ 2 + i = omega arith in
    let differ' : option_eq eqb a b ≡ false = not-true (option_eq eqb a b) (sym test ∙ true') in
    front_other ws (drop 2 words) i w some (λ f.
    let same : a ≡ b = at ∙ ap (slice_get words) place ∙ sym (get_drop 2 words i) ∙ f ∙ sym some ∙ sym here in
    true≢false (sym (equal_option a) ∙ ap (option_eq eqb a) same ∙ differ'))

pub front_end : (ws xs : List ℕ) (i : ℕ) → slice_get ws i ≡ None → begins_with (drop i ws) (drop i xs) ≡ true
front_end ws xs i e = ap (λ (l : List ℕ). begins_with l (drop i xs)) (drop_none ws i e)

pub front_of_both : (ws xs : List ℕ) → begins_with ws (ws ++ xs) ≡ true
front_of_both [] xs = refl
front_of_both (w ∷ ws) xs = same_front w ws (ws ++ xs) ∙ front_of_both ws xs

pub front_split : (ws xs : List ℕ) → begins_with ws xs ≡ true → xs ≡ ws ++ drop (length ws) xs
front_split [] xs e = refl
front_split (w ∷ ws) [] e = cc
front_split (w ∷ ws) (x ∷ xs) e =
    let parts = and_parts (w == x) (begins_with ws xs) e in
    ap (λ (l : List ℕ). x ∷ l) (front_split ws xs parts.1) ∙ ap (λ (n : ℕ). n ∷ (ws ++ drop (length ws) xs)) (sym (eqb-true w x parts.0))
