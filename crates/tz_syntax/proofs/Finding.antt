-- The first row that fits is found from the first row of its form and width on.
use Rattle.std.proofs.Common.{Bor, ◌≡◌, ℕ, zero, suc, ◌+◌, Bool, true, ◌&&◌, not, List, [], ◌∷◌, Option, Some, None, map, take, drop, refl, ap, ◌∙◌, sym, slice_get, unwrap_or, arith, subst, ℤ}
use Rattle.std.specs.List.{find, list_all}
use Rattle.std.specs.Option.{option_map}
use Rattle.tz_table.specs.declared.units.Width.{Width}
use Rattle.tz_table.specs.declared.units.Width.TheVariants.{Narrow, Wide}
use Rattle.tz_syntax.specs.Pieces.{number_at}
use Rattle.tz_syntax.specs.Rows.{TextRowValue, fits, is_of, row_view}
use Rattle.tz_syntax.specs.Starts.{side, start_at}
use Rattle.tz_syntax.specs.Text.{texts}
use Rattle.tz_syntax.specs.declared.row.TextRow.{TextRow}
use Rattle.tz_syntax.specs.declared.rows.table.TheConstants.{STARTS}

-- no row is of the form and the width
abbrev pub none_of : ℕ → Width → List TextRowValue → Bool
none_of form width rows = list_all (λ r. not (is_of form width r)) rows

-- before the places at which the rows of the forms from k on begin, there are none of theirs
abbrev pub starts_hold : List TextRowValue → ℕ → List (ℕ × ℕ) → Bool
starts_hold rows k [] = true
starts_hold rows k (s ∷ ss) = none_of k Narrow (take s.0 rows) && none_of k Wide (take s.1 rows) && starts_hold rows (k + 1) ss

holds_first : (rows : List TextRowValue) (k : ℕ) (s : ℕ × ℕ) (ss : List (ℕ × ℕ)) (w : Width) → starts_hold rows k (s ∷ ss) ≡ true → none_of k w (take (side w s) rows) ≡ true
holds_first rows k s ss Narrow h = grind arith
holds_first rows k s ss Wide h = grind arith

holds_later : (rows : List TextRowValue) (k : ℕ) (s : ℕ × ℕ) (ss : List (ℕ × ℕ)) → starts_hold rows k (s ∷ ss) ≡ true → starts_hold rows (k + 1) ss ≡ true
holds_later rows k s ss h = grind arith

none_before : (rows : List TextRowValue) (w : Width) (k : ℕ) → none_of k w (take (side w (0, 0)) rows) ≡ true
none_before rows Narrow k = refl
none_before rows Wide k = refl

holds_at : (rows : List TextRowValue) (w : Width) (k : ℕ) (ss : List (ℕ × ℕ)) (j n : ℕ) → k + j ≡ n → starts_hold rows k ss ≡ true → none_of n w (take (side w (unwrap_or (slice_get ss j) (0, 0))) rows) ≡ true
holds_at rows w k [] j n e h = none_before rows w n
holds_at rows w k (s ∷ ss) zero n e h =
    let same : k ≡ n = omega arith in
    let P : ℕ → Type 0 = λ m. none_of m w (take (side w s) rows) ≡ true in
    subst P same (holds_first rows k s ss w h)
holds_at rows w k (s ∷ ss) (suc j) n e h = holds_at rows w (k + 1) ss j n (omega arith) (holds_later rows k s ss h)

starts_hold_here : starts_hold texts 0 STARTS ≡ true
unfolding texts
starts_hold_here = refl

none_before_start : (k : ℕ) (w : Width) → none_of k w (take (start_at k w) texts) ≡ true
none_before_start k w = holds_at texts w 0 STARTS k k (omega arith) starts_hold_here

find-drop : (e : List ℤ) (w : Width) (n : ℕ) (rows : List TextRowValue) → none_of (number_at e 0) w (take n rows) ≡ true → find (fits e w) (drop n rows) ≡ find (fits e w) rows
find-drop e w zero rows h = refl
find-drop e w (suc n) [] h = refl
find-drop e w (suc n) (r ∷ rows) h = grind (arith, find-drop e w n rows)

find-map : (e : List ℤ) (w : Width) (rows : List TextRow) → find (fits e w) (map row_view rows) ≡ option_map row_view (find (λ r. fits e w (row_view r)) rows)
find-map e w [] = refl
find-map e w (r ∷ rows) = grind (arith, find-map e w rows)

seen-twice : (o : Option (Bor TextRow)) → option_map (λ r. row_view r.now) o ≡ option_map row_view (option_map (λ r. r.now) o)
seen-twice None = refl
seen-twice (Some r) = refl

pub found_row : (o : Option (Bor TextRow)) (e : List ℤ) (w : Width) (rows : List TextRow) (k : ℕ) → option_map (λ r. r.now) o ≡ find (λ r. fits e w (row_view r)) rows → map row_view rows ≡ drop (start_at k w) texts → k ≡ number_at e 0 → option_map (λ r. row_view r.now) o ≡ find (fits e w) texts
found_row o e w rows k found behind same =
    let n : ℕ = start_at (number_at e 0) w in
    seen-twice o ∙ ap (option_map row_view) found ∙ sym (find-map e w rows) ∙ ap (find (fits e w)) behind ∙ ap (λ j. find (fits e w) (drop (start_at j w) texts)) same ∙ find-drop e w n texts (none_before_start (number_at e 0) w)
