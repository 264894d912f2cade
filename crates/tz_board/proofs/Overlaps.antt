-- The first overlap of a list of regions, step by step, and what it means that there is none.
use Rattle.std.proofs.Common.{◌≡◌, ◌<◌, ◌≤◌, ◌+◌, ℕ, refl, ap, arith, Bool, true, false, ◌&&◌, if◌then◌else◌, List, [], ◌∷◌, ◌++◌, length, drop, take, get_or, Option, Some, None}
use Rattle.std.proofs.lemmas.Bool.{and_from, and_parts}
use Rattle.std.proofs.lemmas.List.{drop_all, drop_more, length-take-le, take_more}
use Rattle.tz_model.specs.Board.{apart_from, are_apart, is_apart}
use Rattle.tz_model.specs.declared.board.Region.{Region}
use Rattle.tz_model.specs.declared.board.RegionKind.TheVariants.{Rom}
use Rattle.tz_model.specs.declared.board.RegionSide.TheVariants.{Secure}
use Rattle.tz_board.specs.Boards.{first_overlap, first_shared, shared_first}

-- what an index past a list of regions gives
abbrev pub no_region : Region
no_region = record { base = 0; size = 0; kind = Rom; side = Secure }

pub shares_here : (rs : List Region) (i : ℕ) (r : Region) → i < length rs → is_apart (get_or rs i no_region) r ≡ false → first_shared i (drop i rs) r ≡ Some i
unfolding first_shared
shares_here rs i r h is = rw (drop_more rs i no_region h, is)

pub shares_later : (rs : List Region) (i : ℕ) (r : Region) → i < length rs → is_apart (get_or rs i no_region) r ≡ true → first_shared i (drop i rs) r ≡ first_shared (i + 1) (drop (i + 1) rs) r
unfolding first_shared
shares_later rs i r h is = rw (drop_more rs i no_region h, is)

pub shares_none : (rs : List Region) (i : ℕ) (r : Region) → length rs ≤ i → first_shared i (drop i rs) r ≡ None
unfolding first_shared
shares_none rs i r h = rw (drop_all i rs h)

length-take_within : (rs : List Region) (j : ℕ) → j < length rs → length (take j rs) ≡ j
length-take_within rs j h = length-take-le j rs (omega arith)

pub overlaps_here : (rs : List Region) (i j : ℕ) → j < length rs → first_shared 0 (take j rs) (get_or rs j no_region) ≡ Some i → first_overlap (take j rs) (drop j rs) ≡ Some (i, j)
unfolding first_overlap
overlaps_here rs i j h is = rw (drop_more rs j no_region h, is) (ap (λ (n : ℕ). Some (i, n)) (length-take_within rs j h))

pub overlaps_later : (rs : List Region) (j : ℕ) → j < length rs → first_shared 0 (take j rs) (get_or rs j no_region) ≡ None → first_overlap (take j rs) (drop j rs) ≡ first_overlap (take (j + 1) rs) (drop (j + 1) rs)
unfolding first_overlap
overlaps_later rs j h is = rw (drop_more rs j no_region h, is, take_more rs j no_region h)

pub overlaps_none : (rs : List Region) (j : ℕ) → length rs ≤ j → first_overlap (take j rs) (drop j rs) ≡ None
unfolding first_overlap
overlaps_none rs j h = rw (drop_all j rs h)

-- a region that shares no byte with any of some regions
apart_of_all : List Region → Region → Bool
apart_of_all [] r = true
apart_of_all (q ∷ qs) r = is_apart q r && apart_of_all qs r

shared_parts : (i : Option ℕ) (j : ℕ) (later : Option (ℕ × ℕ)) → shared_first i j later ≡ None → (i ≡ None) × (later ≡ None)
shared_parts None j later h = (refl, h)
shared_parts (Some i) j later h = cc

none_parts : (b : Bool) (i : ℕ) (later : Option ℕ) → (if b then later else Some i) ≡ None → (b ≡ true) × (later ≡ None)
none_parts true i later h = (refl, h)
none_parts false i later h = cc

apart_if_none : (i : ℕ) (qs : List Region) (r : Region) → first_shared i qs r ≡ None → apart_of_all qs r ≡ true
unfolding first_shared apart_of_all
apart_if_none i [] r h = refl
apart_if_none i (q ∷ qs) r h =
    let parts = none_parts (is_apart q r) i (first_shared (i + 1) qs r) h in
    and_from (is_apart q r) (apart_of_all qs r) parts.0 (apart_if_none (i + 1) qs r parts.1)

-- each of some regions shares no byte with any of some others
all_apart : List Region → List Region → Bool
all_apart [] more = true
all_apart (q ∷ qs) more = apart_from q more && all_apart qs more

all_apart-none : (done : List Region) → all_apart done [] ≡ true
unfolding all_apart
all_apart-none [] = refl
all_apart-none (q ∷ qs) = all_apart-none qs

-- a region before the others
all_apart-first : (done : List Region) (r : Region) (rs : List Region) → apart_of_all done r ≡ true → all_apart (done ++ r ∷ []) rs ≡ true → (apart_from r rs ≡ true) × (all_apart done (r ∷ rs) ≡ true)
unfolding all_apart apart_of_all
all_apart-first [] r rs a h = ((and_parts (apart_from r rs) true h).0, refl)
all_apart-first (q ∷ qs) r rs a h =
    let here = and_parts (is_apart q r) (apart_of_all qs r) a in
    let there = and_parts (apart_from q rs) (all_apart (qs ++ r ∷ []) rs) h in
    let rest = all_apart-first qs r rs here.1 there.1 in
    (rest.0, and_from (is_apart q r && apart_from q rs) (all_apart qs (r ∷ rs)) (and_from (is_apart q r) (apart_from q rs) here.0 there.0) rest.1)

none_overlaps : (done rs : List Region) → first_overlap done rs ≡ None → (are_apart rs ≡ true) × (all_apart done rs ≡ true)
unfolding first_overlap
none_overlaps done [] h = (refl, all_apart-none done)
none_overlaps done (r ∷ rs) h =
    let parts = shared_parts (first_shared 0 done r) (length done) (first_overlap (done ++ r ∷ []) rs) h in
    let rest = none_overlaps (done ++ r ∷ []) rs parts.1 in
    let first = all_apart-first done r rs (apart_if_none 0 done r parts.0) rest.1 in
    (and_from (apart_from r rs) (are_apart rs) first.0 rest.0, first.1)

-- with no overlap, no two regions share a byte
pub no_overlap : (rs : List Region) → first_overlap [] rs ≡ None → are_apart rs ≡ true
no_overlap rs h = (none_overlaps [] rs h).0
