-- Texts cut at their first separator, and the pieces, lines and parts that this gives.
use Rattle.std.proofs.Common.{◌≡◌, ◌∙◌, ◌<◌, ◌≤◌, ◌+◌, ◌-◌, ◌==◌, ℕ, zero, suc, refl, sym, ap, arith, Bool, true, false, ◌||◌, ◌&&◌, if◌then◌else◌, List, [], ◌∷◌, ◌++◌, length, drop, take, get_or, filter}
use Rattle.std.proofs.lemmas.Bool.{and_right, ne_eqb, eq-eqb, or_parts}
use Rattle.std.proofs.lemmas.List.{drop_more, length-drop, nil_from_length, take-append-drop}
use Rattle.std.proofs.Math.Seq.{take-length}
use Rattle.tz_board.specs.Scripts.{is_part, script_lines, parts_of, pieces, without_returns}
use Rattle.tz_board.specs.Text.{chomp, has}

-- a text in front of whose index no byte is the separator
has-take : (s : ℕ) (xs : List ℕ) (i : ℕ) → ((k : ℕ) → k < i → (get_or xs k 0 == s) ≡ false) → i ≤ length xs → has s (take i xs) ≡ false
has-take s xs zero before h = refl
has-take s [] (suc i) before h = refl
has-take s (x ∷ xs) (suc i) before h =
    rw (before 0 (omega arith)) (has-take s xs i (λ k lt. before (suc k) (omega arith)) (omega arith))

-- a text at whose index the separator stands for the first time
pub cut_at : (s : ℕ) (xs : List ℕ) (i : ℕ) → i < length xs → get_or xs i 0 ≡ s → ((k : ℕ) → k < i → (get_or xs k 0 == s) ≡ false) → (xs ≡ take i xs ++ s ∷ drop (i + 1) xs) × (has s (take i xs) ≡ false)
cut_at s xs i lt here before =
    let parts : xs ≡ take i xs ++ drop i xs = sym (take-append-drop i xs) in
    let back : drop i xs ≡ s ∷ drop (i + 1) xs = drop_more xs i 0 lt ∙ ap (λ (b : ℕ). b ∷ drop (i + 1) xs) here in
    (parts ∙ ap (λ (ys : List ℕ). take i xs ++ ys) back, has-take s xs i before (omega arith))

pub not_cut : (s : ℕ) (xs : List ℕ) → ((k : ℕ) → k < length xs → (get_or xs k 0 == s) ≡ false) → has s xs ≡ false
not_cut s xs before = rw (sym (take-length xs)) (has-take s xs (length xs) before (omega arith))

-- the rest of a text, as a slice to its end gives it
pub to_end : (xs : List ℕ) (n : ℕ) → take (length xs - n) (drop n xs) ≡ drop n xs
to_end xs n = rw (sym (length-drop n xs)) (take-length (drop n xs))

pub pieces-none : (s : ℕ) (xs : List ℕ) → has s xs ≡ false → pieces s xs ≡ xs ∷ []
unfolding pieces
pieces-none s [] h = refl
pieces-none s (x ∷ xs) h =
    let no = or_parts (x == s) (has s xs) h in
    rw (no.0, pieces-none s xs no.1)

pub pieces-cut : (s : ℕ) (xs more : List ℕ) → has s xs ≡ false → pieces s (xs ++ s ∷ more) ≡ xs ∷ pieces s more
unfolding pieces
pieces-cut s [] more h = rw (eq-eqb s s refl)
pieces-cut s (x ∷ xs) more h =
    let no = or_parts (x == s) (has s xs) h in
    rw (no.0, pieces-cut s xs more no.1)

feed-first : (more : List ℕ) → without_returns (10 ∷ more) ≡ 10 ∷ without_returns more
unfolding without_returns
feed-first [] = refl
feed-first (c ∷ more) = refl

last_byte : (b : Bool) (x : ℕ) (more : List ℕ) → (if b && true then more else x ∷ more) ≡ (if b then [] else x ∷ []) ++ more
last_byte true x more = refl
last_byte false x more = refl

has_last : (b : Bool) (x : ℕ) → has 10 (x ∷ []) ≡ false → has 10 (if b then [] else x ∷ []) ≡ false
has_last true x h = refl
has_last false x h = h

-- the same byte in front of either
in_front : (b : Bool) (x : ℕ) (xs ys : List ℕ) → x ∷ (if b then xs else ys) ≡ (if b then x ∷ xs else x ∷ ys)
in_front true x xs ys = refl
in_front false x xs ys = refl

-- the end of a line: the carriage return before the line feed goes
without_returns-cut : (xs more : List ℕ) → has 10 xs ≡ false → without_returns (xs ++ 10 ∷ more) ≡ chomp xs ++ 10 ∷ without_returns more
unfolding without_returns chomp
without_returns-cut [] [] h = refl
without_returns-cut [] (c ∷ more) h = refl
without_returns-cut (x ∷ []) more h = rw (feed-first more) (last_byte (x == 13) x (10 ∷ without_returns more))
without_returns-cut (x ∷ y ∷ xs) more h =
    let no = or_parts (x == 10) (has 10 (y ∷ xs)) h in
    let stays : ((x == 13) && (y == 10)) ≡ false = and_right (x == 13) (y == 10) (or_parts (y == 10) (has 10 xs) no.1).0 in
    rw stays (ap (λ (l : List ℕ). x ∷ l) (without_returns-cut (y ∷ xs) more no.1))

without_returns-none : (xs : List ℕ) → has 10 xs ≡ false → without_returns xs ≡ xs
unfolding without_returns
without_returns-none [] h = refl
without_returns-none (x ∷ []) h = refl
without_returns-none (x ∷ y ∷ xs) h =
    let no = or_parts (x == 10) (has 10 (y ∷ xs)) h in
    let stays : ((x == 13) && (y == 10)) ≡ false = and_right (x == 13) (y == 10) (or_parts (y == 10) (has 10 xs) no.1).0 in
    rw stays (ap (λ (l : List ℕ). x ∷ l) (without_returns-none (y ∷ xs) no.1))

has-chomp : (xs : List ℕ) → has 10 xs ≡ false → has 10 (chomp xs) ≡ false
unfolding chomp
has-chomp [] h = refl
has-chomp (x ∷ []) h = has_last (x == 13) x h
has-chomp (x ∷ y ∷ xs) h =
    let no = or_parts (x == 10) (has 10 (y ∷ xs)) h in
    rw no.0 (has-chomp (y ∷ xs) no.1)

pub script_lines-cut : (xs more : List ℕ) → has 10 xs ≡ false → script_lines (xs ++ 10 ∷ more) ≡ chomp xs ∷ script_lines more
unfolding script_lines
script_lines-cut xs more h = rw (without_returns-cut xs more h) (pieces-cut 10 (chomp xs) (without_returns more) (has-chomp xs h))

pub script_lines-last : (xs : List ℕ) → has 10 xs ≡ false → script_lines xs ≡ xs ∷ []
unfolding script_lines
script_lines-last xs h = rw (without_returns-none xs h) (pieces-none 10 xs h)

part_first : (xs : List ℕ) (ps : List (List ℕ)) → 0 < length xs → filter is_part (xs ∷ ps) ≡ xs ∷ filter is_part ps
part_first [] ps h = absurd (omega arith)
part_first (x ∷ xs) ps h = refl

pub parts_of-cut : (xs more : List ℕ) → has 32 xs ≡ false → 0 < length xs → parts_of (xs ++ 32 ∷ more) ≡ xs ∷ parts_of more
unfolding parts_of
parts_of-cut xs more h some = ap (filter is_part) (pieces-cut 32 xs more h) ∙ part_first xs (pieces 32 more) some

pub parts_of-last : (xs : List ℕ) → has 32 xs ≡ false → 0 < length xs → parts_of xs ≡ xs ∷ parts_of []
unfolding parts_of pieces
parts_of-last xs h some = ap (filter is_part) (pieces-none 32 xs h) ∙ part_first xs [] some

-- a line that ends in a byte
pub chomp-ends : (xs : List ℕ) (b : ℕ) → chomp (xs ++ b ∷ []) ≡ (if b == 13 then xs else xs ++ b ∷ [])
unfolding chomp
chomp-ends [] b = refl
chomp-ends (x ∷ []) b = in_front (b == 13) x [] (b ∷ [])
chomp-ends (x ∷ y ∷ xs) b = ap (λ (l : List ℕ). x ∷ l) (chomp-ends (y ∷ xs) b) ∙ in_front (b == 13) x (y ∷ xs) (y ∷ (xs ++ b ∷ []))

pub chomp-empty : (xs : List ℕ) → length xs ≡ 0 → chomp xs ≡ xs
unfolding chomp
chomp-empty xs h = rw (nil_from_length xs h)

pub chomp-return : (xs front : List ℕ) (b : ℕ) → xs ≡ front ++ b ∷ [] → b ≡ 13 → chomp xs ≡ front
chomp-return xs front b at is = ap chomp at ∙ chomp-ends front b ∙ rw (eq-eqb b 13 is)

pub chomp-other : (xs front : List ℕ) (b : ℕ) → xs ≡ front ++ b ∷ [] → (b ≡ 13 → ⊥) → chomp xs ≡ xs
chomp-other xs front b at is = ap chomp at ∙ chomp-ends front b ∙ rw (ne_eqb b 13 is) (sym at)

-- an empty piece is no part
pub parts_of-skip : (xs more : List ℕ) → length xs ≡ 0 → parts_of (xs ++ 32 ∷ more) ≡ parts_of more
unfolding parts_of
parts_of-skip xs more h = rw (nil_from_length xs h) (ap (filter is_part) (pieces-cut 32 [] more refl))

pub parts_of-none : (xs : List ℕ) → length xs ≡ 0 → parts_of xs ≡ []
unfolding parts_of pieces
parts_of-none xs h = rw (nil_from_length xs h)
