-- Texts in a line, byte by byte.
use Rattle.std.proofs.Common.{◌≡◌, ◌∙◌, ◌<◌, ◌≤◌, ◌+◌, ◌==◌, ℕ, Bool, true, false, refl, sym, ap, List, [], ◌∷◌, ◌++◌, append_assoc, length, take, drop, get_or, eq-eqb, Option, Some, None}
use Rattle.std.proofs.lemmas.Bool.{ne_eqb}
use Rattle.std.proofs.lemmas.List.{append-nil, drop_all, drop_more, take_more}
use Rattle.tz_asm.specs.Texts.{after_turn, onto_read, quoted_at, text_from, turn_of}
use Rattle.tz_asm.specs.declared.source.text.Turn.{Turn}
use Rattle.tz_asm.specs.declared.source.text.Turn.TheVariants.{Ends, Escapes, Puts, Fails}

-- some bytes before what was read first
abbrev pub all_onto : List ℕ → Option (List ℕ × List ℕ) → Option (List ℕ × List ℕ)
all_onto bytes None = None
all_onto bytes (Some read) = Some (bytes ++ read.0, read.1)

-- one byte more
onto_more : (bytes : List ℕ) (b : ℕ) (o : Option (List ℕ × List ℕ)) → all_onto bytes (onto_read b o) ≡ all_onto (bytes ++ b ∷ []) o
onto_more bytes b None = refl
onto_more bytes b (Some read) = ap (λ (xs : List ℕ). Some (xs, read.1)) (sym (append_assoc bytes (b ∷ []) read.0))

pub onto_none : (o : Option (List ℕ × List ℕ)) → all_onto [] o ≡ o
onto_none None = refl
onto_none (Some read) = refl

-- ---- up to the first `"`

pub quote_more : (xs : List ℕ) (i : ℕ) → i < length xs → (get_or xs i 0 ≡ 59 → ⊥) → (get_or xs i 0 ≡ 34 → ⊥)
    → all_onto (take i xs) (quoted_at (drop i xs)) ≡ all_onto (take (i + 1) xs) (quoted_at (drop (i + 1) xs))
unfolding quoted_at
quote_more xs i h ne nq =
    let other : (get_or xs i 0 == 59) ≡ false = ne_eqb (get_or xs i 0) 59 ne in
    let apart : (get_or xs i 0 == 34) ≡ false = ne_eqb (get_or xs i 0) 34 nq in
    rw (drop_more xs i 0 h, take_more xs i 0 h, other, apart) (onto_more (take i xs) (get_or xs i 0) (quoted_at (drop (i + 1) xs)))

pub quote_here : (xs : List ℕ) (i : ℕ) → i < length xs → (get_or xs i 0 ≡ 59 → ⊥) → get_or xs i 0 ≡ 34
    → all_onto (take i xs) (quoted_at (drop i xs)) ≡ Some (take i xs, drop (i + 1) xs)
unfolding quoted_at
quote_here xs i h ne is =
    let other : (get_or xs i 0 == 59) ≡ false = ne_eqb (get_or xs i 0) 59 ne in
    let here : (get_or xs i 0 == 34) ≡ true = eq-eqb (get_or xs i 0) 34 is in
    rw (drop_more xs i 0 h, other, here) (ap (λ (head : List ℕ). Some (head, drop (i + 1) xs)) (append-nil (take i xs)))

pub quote_comment : (xs : List ℕ) (i : ℕ) → i < length xs → get_or xs i 0 ≡ 59 → all_onto (take i xs) (quoted_at (drop i xs)) ≡ None
unfolding quoted_at
quote_comment xs i h is =
    let here : (get_or xs i 0 == 59) ≡ true = eq-eqb (get_or xs i 0) 59 is in
    rw (drop_more xs i 0 h, here) refl

pub quote_none : (xs : List ℕ) (i : ℕ) → length xs ≤ i → all_onto (take i xs) (quoted_at (drop i xs)) ≡ None
unfolding quoted_at
quote_none xs i h = rw (drop_all i xs h) refl

-- ---- a text

-- one character of a text
turned : (xs bytes : List ℕ) (escaped : Bool) (i : ℕ) (t : Turn) → i < length xs → turn_of escaped (get_or xs i 0) ≡ t
    → all_onto bytes (text_from escaped (drop i xs)) ≡ all_onto bytes (after_turn t (drop (i + 1) xs) (text_from true (drop (i + 1) xs)) (text_from false (drop (i + 1) xs)))
unfolding text_from
turned xs bytes escaped i t h is = rw (drop_more xs i 0 h, is) refl

pub turn_ends : (xs bytes : List ℕ) (escaped : Bool) (i : ℕ) → i < length xs → turn_of escaped (get_or xs i 0) ≡ Ends
    → all_onto bytes (text_from escaped (drop i xs)) ≡ Some (bytes, drop (i + 1) xs)
turn_ends xs bytes escaped i h is = turned xs bytes escaped i Ends h is ∙ ap (λ (read : List ℕ). Some (read, drop (i + 1) xs)) (append-nil bytes)

pub turn_escapes : (xs bytes : List ℕ) (escaped : Bool) (i : ℕ) → i < length xs → turn_of escaped (get_or xs i 0) ≡ Escapes
    → all_onto bytes (text_from escaped (drop i xs)) ≡ all_onto bytes (text_from true (drop (i + 1) xs))
turn_escapes xs bytes escaped i h is = turned xs bytes escaped i Escapes h is

pub turn_puts : (xs bytes : List ℕ) (escaped : Bool) (i b : ℕ) → i < length xs → turn_of escaped (get_or xs i 0) ≡ Puts b
    → all_onto bytes (text_from escaped (drop i xs)) ≡ all_onto (bytes ++ b ∷ []) (text_from false (drop (i + 1) xs))
turn_puts xs bytes escaped i b h is = turned xs bytes escaped i (Puts b) h is ∙ onto_more bytes b (text_from false (drop (i + 1) xs))

pub turn_fails : (xs bytes : List ℕ) (escaped : Bool) (i : ℕ) → i < length xs → turn_of escaped (get_or xs i 0) ≡ Fails
    → all_onto bytes (text_from escaped (drop i xs)) ≡ None
turn_fails xs bytes escaped i h is = turned xs bytes escaped i Fails h is

pub turn_none : (xs bytes : List ℕ) (escaped : Bool) (i : ℕ) → length xs ≤ i → all_onto bytes (text_from escaped (drop i xs)) ≡ None
unfolding text_from
turn_none xs bytes escaped i h = rw (drop_all i xs h) refl
