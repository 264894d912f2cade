-- The regions of a board that is accepted lie where regions can lie.
use Rattle.std.proofs.Common.{◌≡◌, ℕ, ◌+◌, ◌-◌, ◌%◌, ◌&&◌, Bool, true, false, cond, List, [], ◌∷◌, Option, Some, None, Ok, Err, refl, ap, ◌∙◌, subst, arith}
use Rattle.std.specs.Prelude.{◌==◌, nat_le, nat_lt, ℤ, pos, negsuc}
use Rattle.std.proofs.lemmas.Bool.{and_from, and_parts}
use Rattle.std.proofs.lemmas.Bool.Decides.{nat_tests}
use Rattle.toml.specs.Data.{Data, Members, as_integer}
use Rattle.tz_model.specs.Board.{BoardValue, are_regions, is_region, within}
use Rattle.tz_model.specs.declared.board.Region.{Region}
use Rattle.tz_model.specs.declared.board.RegionKind.{RegionKind}
use Rattle.tz_model.specs.declared.board.RegionSide.{RegionSide}
use Rattle.tz_model.specs.declared.board.SauRegion.{SauRegion}
use Rattle.tz_model.specs.declared.board.Profile.{Profile}
use Rattle.tz_model.specs.Outside.{Held}
use Rattle.tz_board.specs.Boards.{Read, Place, Top, InRegion, ◌>>=◌, required, found_at, of_kind, in_range, bounded_number_at, kind_at, side_at, region_in, tables_in, some_table, each, regions_listed, regions_at, sau_at, numbers_at, Numbers, profile_at, mover_at, first_overlap, is_small, without_overlap, within_limits, board_with, board_in, document_of, documented, board_of}
use Rattle.tz_board.specs.Boards as keys
use Rattle.tz_board.specs.Demo.{demo}
use Rattle.tz_words.specs.StartWords.{StartWords}
use Rattle.tz_files.specs.Told.{Told, Unknown, Stops, Gives, TooManySteps, BadBoard, told_then, graded, is_demo, board_file, board_told, board_limit, file_with, step_limit}
use Rattle.tz_files.specs.Reads.{Settled}
use Rattle.tz_files.specs.Starts.{Start, board_files, secure_files, nonsecure_files, start_files, begin_told}

-- ---- what is read of a file, where something is read

abbrev Holds : {A : Type 0} → (A → Type 0) → Read A → Type 0
Holds P (Ok x) = P x
Holds P (Err e) = Unit {0}

then_holds : {A B : Type 0} (P : A → Type 0) (Q : B → Type 0) (r : Read A) (next : A → Read B) → Holds P r → ((x : A) → P x → Holds Q (next x)) → Holds Q (r >>= next)
then_holds P Q (Ok x) next h more = more x h
then_holds P Q (Err e) next h more = tt

abbrev Any : {A : Type 0} → A → Type 0
Any x = Unit {0}

any_holds : {A : Type 0} (r : Read A) → Holds Any r
any_holds (Ok x) = tt
any_holds (Err e) = tt

then_any : {A B : Type 0} (Q : B → Type 0) (r : Read A) (next : A → Read B) → ((x : A) → Holds Q (next x)) → Holds Q (r >>= next)
then_any Q (Ok x) next more = more x
then_any Q (Err e) next more = tt

-- a number within its bounds
abbrev IsWithin : ℕ → ℕ → ℕ → ℕ → Type 0
IsWithin low high unit n = (within low high n && n % unit == 0) ≡ true

number_by : (place : Place) (low high unit n : ℕ) (t : Bool) (e : Read ℕ) → (within low high n && n % unit == 0) ≡ t → Holds (IsWithin low high unit) e → Holds (IsWithin low high unit) (cond t (Ok n) e)
number_by place low high unit n true e is other = is
number_by place low high unit n false e is other = other

range_holds : (place : Place) (low high unit : ℕ) (z : ℤ) → Holds (IsWithin low high unit) (in_range place low high unit z)
range_holds place low high unit (pos n) = number_by place low high unit n (within low high n && n % unit == 0) _ refl tt
range_holds place low high unit (negsuc n) = tt

number_holds : (place : Place) (low high unit : ℕ) (ms : Members) → Holds (IsWithin low high unit) (bounded_number_at place low high unit ms)
number_holds place low high unit ms =
    then_any (IsWithin low high unit) (required place (found_at place ms)) (λ (d : Data). of_kind place (as_integer d) >>= (λ (z : ℤ). in_range place low high unit z)) (λ d.
    then_any (IsWithin low high unit) (of_kind place (as_integer d)) (λ (z : ℤ). in_range place low high unit z) (λ z. range_holds place low high unit z))

-- ---- regions

fits_below : (base size : ℕ) → nat_le size (0xE0000000 - base) ≡ true → nat_le 32 size ≡ true → nat_le (base + size) 0xE0000000 ≡ true
fits_below base size h l = grind (arith, nat_tests)

is_region_of : (base size : ℕ) (kind : RegionKind) (side : RegionSide) → IsWithin 0 0xFFFFFFFF 32 base → IsWithin 32 (0xE0000000 - base) 32 size
    → is_region (record { base = base; size = size; kind = kind; side = side }) ≡ true
is_region_of base size kind side hb hs =
    let b = and_parts (within 0 0xFFFFFFFF base) (base % 32 == 0) hb in
    let s = and_parts (within 32 (0xE0000000 - base) size) (size % 32 == 0) hs in
    let w = and_parts (nat_le 32 size) (nat_le size (0xE0000000 - base)) s.0 in
    and_from (base % 32 == 0) _ b.1 (and_from (size % 32 == 0) _ s.1 (and_from (nat_le 32 size) (nat_le (base + size) 0xE0000000) w.0 (fits_below base size w.1 w.0)))

abbrev IsRegion : Region → Type 0
IsRegion r = is_region r ≡ true

-- a region behind its base, its size, and its kind
module _ (index : ℕ) (ms : Members) where
  abbrev sided : ℕ → ℕ → RegionKind → RegionSide → Read Region
  sided base size kind side = Ok (record { base = base; size = size; kind = kind; side = side })

  abbrev with_kind : ℕ → ℕ → RegionKind → Read Region
  with_kind base size kind = side_at (InRegion index keys.Side) ms >>= sided base size kind

  abbrev with_size : ℕ → ℕ → Read Region
  with_size base size = kind_at (InRegion index keys.Kind) ms >>= with_kind base size

  abbrev with_base : ℕ → Read Region
  with_base base = bounded_number_at (InRegion index keys.Size) 32 (0xE0000000 - base) 32 ms >>= with_size base

  region_holds : Holds IsRegion (region_in index ms)
  region_holds =
      then_holds (IsWithin 0 0xFFFFFFFF 32) IsRegion (bounded_number_at (InRegion index keys.Base) 0 0xFFFFFFFF 32 ms) with_base (number_holds (InRegion index keys.Base) 0 0xFFFFFFFF 32 ms) (λ base hb.
      then_holds (IsWithin 32 (0xE0000000 - base) 32) IsRegion (bounded_number_at (InRegion index keys.Size) 32 (0xE0000000 - base) 32 ms) (with_size base) (number_holds (InRegion index keys.Size) 32 (0xE0000000 - base) 32 ms) (λ size hs.
      then_any IsRegion (kind_at (InRegion index keys.Kind) ms) (with_kind base size) (λ kind.
      then_any IsRegion (side_at (InRegion index keys.Side) ms) (sided base size kind) (λ side. is_region_of base size kind side hb hs))))

abbrev AreRegions : List Region → Type 0
AreRegions rs = are_regions rs ≡ true

each_holds : (index : ℕ) (tables : List Members) → Holds AreRegions (each region_in index tables)
unfolding each
each_holds index [] = refl
each_holds index (table ∷ more) =
    then_holds IsRegion AreRegions (region_in index table) (λ (x : Region). each region_in (index + 1) more >>= (λ (xs : List Region). Ok (x ∷ xs))) (region_holds index table) (λ x hx.
    then_holds AreRegions AreRegions (each region_in (index + 1) more) (λ (xs : List Region). Ok (x ∷ xs)) (each_holds (index + 1) more) (λ xs hs. and_from (is_region x) (are_regions xs) hx hs))

listed_hold : (d : Data) → Holds AreRegions (regions_listed d)
listed_hold d =
    then_any AreRegions (tables_in (Top keys.Region) d) (λ (all : List Members). some_table all >>= (λ (tables : List Members). each region_in 0 tables)) (λ all.
    then_any AreRegions (some_table all) (λ (tables : List Members). each region_in 0 tables) (λ tables. each_holds 0 tables))

regions_hold : (ms : Members) → Holds AreRegions (regions_at ms)
regions_hold ms = then_any AreRegions (required (Top keys.Region) (found_at (Top keys.Region) ms)) regions_listed listed_hold

-- ---- boards

abbrev HasRegions : BoardValue → Type 0
HasRegions b = are_regions b.regions ≡ true

apart_holds : (found : Option (ℕ × ℕ)) (b : BoardValue) → HasRegions b → Holds HasRegions (without_overlap found b)
apart_holds None b h = h
apart_holds (Some pair) b h = tt

small_holds : (small : Bool) (r e : Read BoardValue) → Holds HasRegions r → Holds HasRegions e → Holds HasRegions (cond small r e)
small_holds true r e h k = h
small_holds false r e h k = k

limits_hold : (b : BoardValue) → HasRegions b → Holds HasRegions (within_limits b)
limits_hold b h = small_holds (is_small b) (without_overlap (first_overlap [] b.regions) b) _ (apart_holds (first_overlap [] b.regions) b h) tt

-- a board behind its numbers, its profile, whether it has a mover, and its regions
module _ (ms : Members) where
  abbrev with_regions : Numbers → Profile → Bool → List Region → Read BoardValue
  with_regions numbers profile mover regions = sau_at ms >>= (λ (sau : List SauRegion). within_limits (board_with numbers profile mover regions sau))

  abbrev with_mover : Numbers → Profile → Bool → Read BoardValue
  with_mover numbers profile mover = regions_at ms >>= with_regions numbers profile mover

  abbrev with_profile : Numbers → Profile → Read BoardValue
  with_profile numbers profile = mover_at (Top keys.Mover) ms >>= with_mover numbers profile

  abbrev with_numbers : Numbers → Read BoardValue
  with_numbers numbers = profile_at (Top keys.Profile) ms >>= with_profile numbers

  board_holds : Holds HasRegions (board_in ms)
  unfolding board_in
  board_holds =
      then_any HasRegions (numbers_at ms) with_numbers (λ numbers.
      then_any HasRegions (profile_at (Top keys.Profile) ms) (with_profile numbers) (λ profile.
      then_any HasRegions (mover_at (Top keys.Mover) ms) (with_mover numbers profile) (λ mover.
      then_holds AreRegions HasRegions (regions_at ms) (with_regions numbers profile mover) (regions_hold ms) (λ regions h.
      then_any HasRegions (sau_at ms) (λ (sau : List SauRegion). within_limits (board_with numbers profile mover regions sau)) (λ sau. limits_hold (board_with numbers profile mover regions sau) h)))))

file_holds : (bytes : List ℕ) → Holds HasRegions (board_of bytes)
unfolding board_of
file_holds bytes = then_any HasRegions (documented (document_of bytes)) board_in board_holds

demo_holds : HasRegions demo
unfolding demo
demo_holds = refl

-- ---- what is told

-- what is given behind another thing
gives_both : {A B C : Type 0} (t : Told A) (u : A → Told B) (join : A → B → C) (z : C) → told_then t (λ x. told_then (u x) (λ y. Gives (join x y))) ≡ Gives z
    → (x : A) × (y : B) × (t ≡ Gives x) × (join x y ≡ z)
gives_both Unknown u join z h = absurd (cc)
gives_both (Stops stop) u join z h = absurd (cc)
gives_both {A = A} {B = B} {C = C} (Gives x) u join z h = by_next (u x) h
  where
    by_next : (v : Told B) → told_then v (λ y. Gives (join x y)) ≡ Gives z → (w : A) × (y : B) × (◌≡◌ {A = Told A} (Gives x) (Gives w)) × (join w y ≡ z)
    by_next Unknown e = absurd (cc)
    by_next (Stops stop) e = absurd (cc)
    by_next (Gives y) e = (x, y, refl, cc)

graded_holds : (name : List ℕ) (r : Read BoardValue) (b : BoardValue) → Holds HasRegions r → graded (BadBoard name) r ≡ Gives b → HasRegions b
graded_holds name (Ok x) b h e = let same : x ≡ b = cc in subst HasRegions same h
graded_holds name (Err refusal) b h e = absurd (cc)

file_told : (name : List ℕ) (t : Told (List ℕ)) (b : BoardValue) → told_then t (λ bytes. graded (BadBoard name) (board_of bytes)) ≡ Gives b → HasRegions b
file_told name Unknown b e = absurd (cc)
file_told name (Stops stop) b e = absurd (cc)
file_told name (Gives bytes) b e = graded_holds name (board_of bytes) b (file_holds bytes) e

told_by : (is : Bool) (name : List ℕ) (t : Told BoardValue) (b : BoardValue) → (t ≡ Gives b → HasRegions b) → cond is (Gives demo) t ≡ Gives b → HasRegions b
told_by true name t b h e = let same : demo ≡ b = cc in subst HasRegions same demo_holds
told_by false name t b h e = h e

board_told_holds : (held : List ℕ → Held) (name : List ℕ) (b : BoardValue) → board_told held name ≡ Gives b → HasRegions b
unfolding board_told board_file
board_told_holds held name b e = told_by (is_demo name) name _ b (file_told name (file_with name board_limit (held name)) b) e

-- the board of what begins a run
start_holds : (held : List ℕ → Held) (w : StartWords) (start : Start) → (start_files held w).told ≡ Gives start → HasRegions start.board
start_holds held w start e =
    let third = gives_both (nonsecure_files held w).told _ _ start e in
    let second = gives_both (secure_files held w).told _ _ third.0 third.2 in
    let first = gives_both (board_files held w.board).told _ _ second.0 second.2 in
    let same : first.0 ≡ start.board =
    ap (λ (s : Start). s.board) first.3 ∙ (ap (λ (s : Start). s.board) second.3 ∙ ap (λ (s : Start). s.board) third.3) in
    subst HasRegions same (board_told_holds held w.board first.0 first.2)

by_limit : (past : Bool) (files : Settled Start) (start : Start) → (cond {A = Settled Start} past (record { told = Stops TooManySteps; reads = [] }) files).told ≡ Gives start → files.told ≡ Gives start
by_limit true files start e = absurd (cc)
by_limit false files start e = e

pub begun_regions : (held : List ℕ → Held) (w : StartWords) (start : Start) → begin_told held w ≡ Gives start → are_regions start.board.regions ≡ true
begun_regions held w start e = start_holds held w start (by_limit (nat_lt step_limit w.steps) (start_files held w) start e)
