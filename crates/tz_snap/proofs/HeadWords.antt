-- The words before those of the state, by their index.
use Rattle.std.proofs.Common.{◌≡◌, ℕ, zero, suc, ◌+◌, ◌-◌, ◌*◌, ◌/◌, ◌%◌, ◌<◌, ◌≤◌, ◌==◌, if◌then◌else◌, List, [], ◌∷◌, length, Some, None, refl, sym, ap, ◌∙◌, arith, get_or}
use Rattle.std.specs.Prelude.{slice_get, option_map}
use Rattle.std.proofs.lemmas.Option.{slice_get-get_or, slice_get_past}
use Rattle.tz_model.specs.declared.board.Region.{Region}
use Rattle.tz_model.specs.Board.{BoardValue}
use Rattle.tz_state.specs.State.{State}
use Rattle.tz_fields.specs.StateWords.{state_words}
use Rattle.tz_snap.proofs.Lists.{get_left, get_right}
use Rattle.tz_snap.specs.StateFile.{file_words, kind_number, side_number, region_words, board_words, head_words, head_count, step_in, magic}

pub length_regions : (rs : List Region) → length (region_words rs) ≡ 4 * length rs
length_regions [] = refl
length_regions (r ∷ rs) = let e = length_regions rs in omega arith

pub length_head : (b : BoardValue) → head_count b ≡ 10 + 4 * length b.regions
length_head b = let e = length_regions b.regions in omega arith

four_more : (q r : ℕ) → 4 * suc q + r ≡ suc (suc (suc (suc (4 * q + r))))
four_more q r = omega arith

-- the four words of a region
pub base_at : (rs : List Region) (q : ℕ) → slice_get (region_words rs) (4 * q + 0) ≡ option_map (λ r. r.base) (slice_get rs q)
base_at [] q = refl
base_at (r ∷ rs) zero = refl
base_at (r ∷ rs) (suc q) = ap (slice_get (region_words (r ∷ rs))) (four_more q 0) ∙ base_at rs q

pub size_at : (rs : List Region) (q : ℕ) → slice_get (region_words rs) (4 * q + 1) ≡ option_map (λ r. r.size) (slice_get rs q)
size_at [] q = refl
size_at (r ∷ rs) zero = refl
size_at (r ∷ rs) (suc q) = ap (slice_get (region_words (r ∷ rs))) (four_more q 1) ∙ size_at rs q

pub kind_at : (rs : List Region) (q : ℕ) → slice_get (region_words rs) (4 * q + 2) ≡ option_map (λ r. kind_number r.kind) (slice_get rs q)
kind_at [] q = refl
kind_at (r ∷ rs) zero = refl
kind_at (r ∷ rs) (suc q) = ap (slice_get (region_words (r ∷ rs))) (four_more q 2) ∙ kind_at rs q

pub side_at : (rs : List Region) (q : ℕ) → slice_get (region_words rs) (4 * q + 3) ≡ option_map (λ r. side_number r.side) (slice_get rs q)
side_at [] q = refl
side_at (r ∷ rs) zero = refl
side_at (r ∷ rs) (suc q) = ap (slice_get (region_words (r ∷ rs))) (four_more q 3) ∙ side_at rs q

-- a word of a region that is there
field_read : (rs : List Region) (field : Region → ℕ) (r i : ℕ) (d : Region) → ((q : ℕ) → slice_get (region_words rs) (4 * q + r) ≡ option_map field (slice_get rs q)) → i % 4 ≡ r → i / 4 < length rs
    → Some (field (get_or rs (i / 4) d)) ≡ slice_get (region_words rs) i
field_read rs field r i d at e l =
    let whole : 4 * (i / 4) + r ≡ i = omega arith in
    ap (option_map field) (sym (slice_get-get_or rs (i / 4) d l)) ∙ sym (at (i / 4)) ∙ ap (slice_get (region_words rs)) whole

pub base_read : (rs : List Region) (i : ℕ) (d : Region) → i % 4 ≡ 0 → i / 4 < length rs → Some (get_or rs (i / 4) d).base ≡ slice_get (region_words rs) i
base_read rs i d e l = field_read rs (λ r. r.base) 0 i d (base_at rs) e l

pub size_read : (rs : List Region) (i : ℕ) (d : Region) → i % 4 ≡ 1 → i / 4 < length rs → Some (get_or rs (i / 4) d).size ≡ slice_get (region_words rs) i
size_read rs i d e l = field_read rs (λ r. r.size) 1 i d (size_at rs) e l

pub kind_read : (rs : List Region) (i : ℕ) (d : Region) → i % 4 ≡ 2 → i / 4 < length rs → Some (kind_number (get_or rs (i / 4) d).kind) ≡ slice_get (region_words rs) i
kind_read rs i d e l = field_read rs (λ r. kind_number r.kind) 2 i d (kind_at rs) e l

pub side_read : (rs : List Region) (i : ℕ) (d : Region) → i % 4 ≡ 3 → i / 4 < length rs → Some (side_number (get_or rs (i / 4) d).side) ≡ slice_get (region_words rs) i
side_read rs i d e l = field_read rs (λ r. side_number r.side) 3 i d (side_at rs) e l

-- and of one that isn't
pub none_read : (rs : List Region) (i : ℕ) → length rs ≤ i / 4 → slice_get (region_words rs) i ≡ None
none_read rs i l = let all = length_regions rs in slice_get_past (region_words rs) i (omega arith)

-- the words of regions behind the board's first eight, and the board's behind the first two of a file
pub regions_at : (b : BoardValue) (i : ℕ) → 8 ≤ i → slice_get (board_words b) i ≡ slice_get (region_words b.regions) (i - 8)
regions_at b i l =
    let e : i ≡ suc (suc (suc (suc (suc (suc (suc (suc (i - 8)))))))) = omega arith in
    ap (slice_get (board_words b)) e

pub board_at : (b : BoardValue) (n i : ℕ) → 2 ≤ i → slice_get (head_words b n) i ≡ slice_get (board_words b) (i - 2)
board_at b n i l =
    let e : i ≡ suc (suc (i - 2)) = omega arith in
    ap (slice_get (head_words b n)) e

-- a word of the head, and one of the state
pub in_head : (b : BoardValue) (s : State) (n i : ℕ) → b ≡ s.bus.board → i < head_count b → slice_get (head_words b n) i ≡ slice_get (file_words s n) i
unfolding file_words
in_head b s n i e l =
    let same : head_count b ≡ head_count s.bus.board = ap head_count e in
    ap (λ (x : BoardValue). slice_get (head_words x n) i) e ∙ sym (get_left (head_words s.bus.board n) (state_words s) i (omega arith))

pub in_state : (b : BoardValue) (s : State) (n i : ℕ) → b ≡ s.bus.board → head_count b ≤ i → slice_get (state_words s) (i - head_count b) ≡ slice_get (file_words s n) i
unfolding file_words
in_state b s n i e l =
    let same : head_count b ≡ head_count s.bus.board = ap head_count e in
    let behind : i - head_count b ≡ i - length (head_words s.bus.board n) = omega arith in
    ap (slice_get (state_words s)) behind ∙ sym (get_right (head_words s.bus.board n) (state_words s) i (omega arith))

-- ---- the first two words

pub no_first : (ws : List ℕ) → slice_get ws 0 ≡ None → step_in ws ≡ None
no_first [] e = refl
no_first (w ∷ ws) e = cc

pub no_second : (ws : List ℕ) → slice_get ws 1 ≡ None → step_in ws ≡ None
no_second [] e = refl
no_second (w ∷ []) e = refl
no_second (w ∷ n ∷ ws) e = cc

pub both_first : (ws : List ℕ) (w n : ℕ) → slice_get ws 0 ≡ Some w → slice_get ws 1 ≡ Some n → step_in ws ≡ (if w == magic then Some n else None)
both_first [] w n e f = cc
both_first (x ∷ []) w n e f = cc
both_first (x ∷ m ∷ ws) w n e f =
    let one : x ≡ w = cc in
    let two : m ≡ n = cc in
    ap (λ (y : ℕ). if y == magic then Some m else None) one ∙ ap (λ (y : ℕ). if w == magic then Some y else None) two
