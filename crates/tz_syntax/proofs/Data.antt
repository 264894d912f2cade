-- The rows of the program are those of the table.
use Rattle.std.proofs.Common.{◌≡◌, ℕ, zero, suc, List, [], ◌∷◌, map, drop, refl, ap, ◌∙◌}
use Rattle.tz_syntax.specs.Rows.{row_view}
use Rattle.tz_syntax.specs.Text.{texts}
use Rattle.tz_syntax.specs.declared.row.TextRow.{TextRow}

map-drop : (n : ℕ) (rows : List TextRow) → map row_view (drop n rows) ≡ drop n (map row_view rows)
map-drop zero rows = refl
map-drop (suc n) [] = refl
map-drop (suc n) (r ∷ rows) = map-drop n rows

pub rows_behind : (result rows : List TextRow) (n m : ℕ) → result ≡ drop n rows → n ≡ m → map row_view rows ≡ texts → map row_view result ≡ drop m texts
rows_behind result rows n m h same e = ap (map row_view) h ∙ map-drop n rows ∙ ap (λ k. drop k (map row_view rows)) same ∙ ap (drop m) e
