-- The numbers of names by the data's names.
use Rattle.std.proofs.Common.{◌≡◌, ◌∙◌, ℕ, ◌+◌, List, Some, None, Option, option_map, ap, sym, refl}
use Rattle.std.specs.Option.{option_or}
use Rattle.tz_syntax.specs.Names.{registers, conditions, shifts, specials, nonsecure_specials}
use Rattle.tz_syntax.specs.Spelling.{place_in, register_of, condition_of, shift_of, special_of}

pub register_of_is : (names : List (List ℕ)) (w : List ℕ) → names ≡ registers → place_in names w ≡ register_of w
unfolding register_of
register_of_is names w h = ap (λ xs. place_in xs w) h

pub condition_of_is : (names : List (List ℕ)) (w : List ℕ) → names ≡ conditions → place_in names w ≡ condition_of w
unfolding condition_of
condition_of_is names w h = ap (λ xs. place_in xs w) h

pub shift_of_is : (names : List (List ℕ)) (w : List ℕ) → names ≡ shifts → place_in names w ≡ shift_of w
unfolding shift_of
shift_of_is names w h = ap (λ xs. place_in xs w) h

-- both lists, by what each has
abbrev pub of_both : Option ℕ → Option ℕ → Option ℕ
of_both o p = option_or o (option_map (λ k. 0x88 + k) p)

pub special_of_is : (names others : List (List ℕ)) (w : List ℕ) → names ≡ specials → others ≡ nonsecure_specials → of_both (place_in names w) (place_in others w) ≡ special_of w
unfolding special_of
special_of_is names others w h k = ap (λ xs. of_both (place_in xs w) (place_in others w)) h ∙ ap (λ xs. of_both (place_in specials w) (place_in xs w)) k

pub special_first : (names : List (List ℕ)) (w : List ℕ) (k : ℕ) → names ≡ specials → Some k ≡ place_in names w → Some k ≡ special_of w
unfolding special_of
special_first names w k h e = let same : place_in specials w ≡ Some k = ap (λ xs. place_in xs w) (sym h) ∙ sym e in rw same refl

pub special_later : (names others : List (List ℕ)) (w : List ℕ) (p : Option ℕ) → names ≡ specials → others ≡ nonsecure_specials → None ≡ place_in names w → p ≡ place_in others w → option_map (λ k. 0x88 + k) p ≡ special_of w
special_later names others w p h k e f = ap (λ x. of_both None x) f ∙ ap (λ x. of_both x (place_in others w)) e ∙ special_of_is names others w h k
