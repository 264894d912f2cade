-- The rows of a mnemonic are all in its part.
use Rattle.std.proofs.Common.{◌≡◌, ℕ, zero, suc, ◌+◌, ◌==◌, ◌<◌, Bool, true, ◌&&◌, if◌then◌else◌, List, [], ◌∷◌, Option, Some, None, length, map, drop, filter, filter_map, slice_get, is_some, refl, ap, sym, ◌∙◌, add-one, arith, codes}
use Rattle.std.proofs.lemmas.Bool.{and_parts, eq-eqb}
use Rattle.std.proofs.lemmas.Slice.Eq.{bytes_eq-Decides}
use Rattle.std.proofs.lemmas.Str.Ascii.{lowercase-lowercase}
use Rattle.std.specs.List.{list_all}
use Rattle.std.specs.Str.{bytes_eq}
use Rattle.tz_syntax.specs.Rows.{TextRowValue}
use Rattle.tz_syntax.specs.Text.{texts}
use Rattle.tz_asm.specs.Index.{between, letter_sum, part_in, part_of, rows_at, named_at}
use Rattle.tz_asm.specs.Mnemonics.{behind, ends_well, is_named, lettered, texts_of}
use Rattle.tz_asm.specs.declared.code.index.TheConstants.{PARTS, PLACES}

-- ---- the parts hold the numbers of the rows that are in them

-- the numbers of the rows that pass a test, from number k on
abbrev pub places_of : (TextRowValue → Bool) → ℕ → List TextRowValue → List ℕ
places_of p k [] = []
places_of p k (r ∷ rs) = if p r then k ∷ places_of p (k + 1) rs else places_of p (k + 1) rs

abbrev pub in_part : ℕ → TextRowValue → Bool
in_part k r = part_of r.mnemonic == k

abbrev pub parts_hold : List TextRowValue → ℕ → List (List ℕ) → Bool
parts_hold rows k [] = true
parts_hold rows k (places ∷ parts) = bytes_eq places (places_of (in_part k) 0 rows) && parts_hold rows (k + 1) parts

abbrev pub parts : List (List ℕ)
parts = map (between PLACES) PARTS

parts_hold_here : parts_hold texts 0 parts ≡ true
unfolding texts
parts_hold_here = refl

part_holds : (rows : List TextRowValue) (ps : List (List ℕ)) (k j n : ℕ) → k + j ≡ n → parts_hold rows k ps ≡ true → j < length ps → part_in ps j ≡ places_of (in_part n) 0 rows
part_holds rows [] k j n e h l = absurd (omega arith)
part_holds rows (p ∷ ps) k zero n e h l =
    let same : k ≡ n = omega arith in
    let both : (bytes_eq p (places_of (in_part k) 0 rows) ≡ true) × (parts_hold rows (k + 1) ps ≡ true) = and_parts (bytes_eq p (places_of (in_part k) 0 rows)) (parts_hold rows (k + 1) ps) h in
    (bytes_eq-Decides p (places_of (in_part k) 0 rows)).0 both.0 ∙ ap (λ m. places_of (in_part m) 0 rows) same
part_holds rows (p ∷ ps) k (suc j) n e h l =
    let both : (bytes_eq p (places_of (in_part k) 0 rows) ≡ true) × (parts_hold rows (k + 1) ps ≡ true) = and_parts (bytes_eq p (places_of (in_part k) 0 rows)) (parts_hold rows (k + 1) ps) h in
    part_holds rows ps (k + 1) j n (omega arith) both.1 (omega arith)

-- ---- the rows with these numbers

drop_here : (all rs : List TextRowValue) (k : ℕ) (r : TextRowValue) → drop k all ≡ r ∷ rs → (slice_get all k ≡ Some r) × (drop (k + 1) all ≡ rs)
drop_here [] rs zero r h = cc
drop_here [] rs (suc k) r h = cc
drop_here (x ∷ xs) rs zero r h = (cc, cc)
drop_here (x ∷ xs) rs (suc k) r h =
    let later = drop_here xs rs k r h in
    let behind : drop (suc k) xs ≡ rs = rw add-one at later.1 in
    (later.0, rw add-one behind)

rows_of_places : (all : List TextRowValue) (p : TextRowValue → Bool) (k : ℕ) (rs : List TextRowValue) → drop k all ≡ rs → filter_map (λ j. slice_get all j) (places_of p k rs) ≡ filter p rs
rows_of_places all p k [] h = refl
rows_of_places all p k (r ∷ rs) h =
    let here = drop_here all rs k r h in
    let later = rows_of_places all p (k + 1) rs here.1 in
    grind (arith, here.0, later)

-- ---- a word and its mnemonic are in one part

pub same_behind : (p m w : List ℕ) → behind m w ≡ Some [] → is_some (behind p m) ≡ is_some (behind p w)
same_behind [] m w h = refl
same_behind (q ∷ p) [] w h = let none : w ≡ [] = cc in rw none
same_behind (q ∷ p) (n ∷ m) [] h = cc
same_behind (q ∷ p) (n ∷ m) (b ∷ w) h = grind (arith, lowercase-lowercase b, same_behind p m w)

same_sum : (m w : List ℕ) → behind m w ≡ Some [] → letter_sum m ≡ letter_sum w
same_sum [] w h = let none : w ≡ [] = cc in rw none
same_sum (n ∷ m) [] h = cc
same_sum (n ∷ m) (b ∷ w) h = grind (arith, lowercase-lowercase b, same_sum m w)

same_part : (m w : List ℕ) → behind m w ≡ Some [] → part_of m ≡ part_of w
same_part m w h = rw (same_behind (codes "it") m w h, same_sum m w h)

-- only `it` has letters behind it
abbrev pub fine_by : Option (ℕ × ℕ) → List ℕ → Bool
fine_by None m = true
fine_by (Some places) m = bytes_eq m (codes "it")

abbrev pub fine : TextRowValue → Bool
fine r = fine_by (lettered r.pieces) r.mnemonic

all_fine : list_all fine texts ≡ true
unfolding texts
all_fine = refl

part_of_it : (w bytes : List ℕ) → behind (codes "it") w ≡ Some bytes → part_of (codes "it") ≡ part_of w
part_of_it w bytes h = rw h

named_plain : (m w : List ℕ) (o : Option (List ℕ)) → behind m w ≡ o → ends_well None o ≡ true → part_of m ≡ part_of w
named_plain m w None e h = cc
named_plain m w (Some []) e h = same_part m w e
named_plain m w (Some (b ∷ bytes)) e h = grind arith

named_lettered : (places : ℕ × ℕ) (m w : List ℕ) (o : Option (List ℕ)) → m ≡ codes "it" → behind m w ≡ o → ends_well (Some places) o ≡ true → part_of m ≡ part_of w
named_lettered places m w None same e h = cc
named_lettered places m w (Some bytes) same e h = ap part_of same ∙ part_of_it w bytes (ap (λ n. behind n w) (sym same) ∙ e)

named_part : (places : Option (ℕ × ℕ)) (m w : List ℕ) → fine_by places m ≡ true → ends_well places (behind m w) ≡ true → part_of m ≡ part_of w
named_part None m w f h = named_plain m w (behind m w) refl h
named_part (Some places) m w f h = named_lettered places m w (behind m w) ((bytes_eq-Decides m (codes "it")).0 f) refl h

-- ---- so its rows are all there

filter_one : (p q : TextRowValue → Bool) (r : TextRowValue) (rows : List TextRowValue) → (p r ≡ true → q r ≡ true) → filter p (filter q rows) ≡ filter p rows → filter p (filter q (r ∷ rows)) ≡ filter p (r ∷ rows)
filter_one p q r rows here later = grind arith

filter_filter : (p q : TextRowValue → Bool) (rows : List TextRowValue) → ((r : TextRowValue) → fine r ≡ true → p r ≡ true → q r ≡ true) → list_all fine rows ≡ true → filter p (filter q rows) ≡ filter p rows
filter_filter p q [] along h = refl
filter_filter p q (r ∷ rows) along h =
    let parts : (fine r ≡ true) × (list_all fine rows ≡ true) = and_parts (fine r) (list_all fine rows) h in
    let later : filter p (filter q rows) ≡ filter p rows = filter_filter p q rows along parts.1 in
    let here : p r ≡ true → q r ≡ true = along r parts.0 in
    filter_one p q r rows here later

named_in_part : (w : List ℕ) (r : TextRowValue) → fine r ≡ true → is_named w r ≡ true → in_part (part_of w) r ≡ true
named_in_part w r f h = eq-eqb _ _ (named_part (lettered r.pieces) r.mnemonic w f h)

rows_of_part : (k : ℕ) → rows_at (places_of (in_part k) 0 texts) ≡ filter (in_part k) texts
rows_of_part k = rows_of_places texts (in_part k) 0 texts refl

-- the rows of the mnemonic among those of its part are all that it has
part_has_all : (w : List ℕ) → part_of w < 65 → named_at w (part_in parts (part_of w)) ≡ texts_of w
unfolding texts_of
part_has_all w l =
    ap (named_at w) (part_holds texts parts 0 (part_of w) (part_of w) (omega arith) parts_hold_here l)
    ∙ ap (filter (is_named w)) (rows_of_part (part_of w))
    ∙ filter_filter (is_named w) (in_part (part_of w)) texts (named_in_part w) all_fine

pub parts_are : map (between PLACES) PARTS ≡ parts
parts_are = refl

-- the same of what a look-up gives
pub part_rows : (ps : List (List ℕ)) (w places : List ℕ) (k : ℕ) → places ≡ part_in ps k → k ≡ part_of w → k < 65 → ps ≡ parts → named_at w places ≡ texts_of w
part_rows ps w places k h same l e =
    ap (named_at w) (h ∙ ap (λ xs. part_in xs k) e ∙ ap (part_in parts) same) ∙ part_has_all w (omega arith)
