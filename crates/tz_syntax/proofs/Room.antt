-- The longest row fits 96 bytes.
use Rattle.std.proofs.Common.{Bor, ◌≡◌, ◌≤◌, Bool, true, List, [], ◌∷◌, Option, Some, refl, ap, ◌∙◌, sym, arith, nat_le, ℤ}
use Rattle.std.specs.List.{find, list_all}
use Rattle.std.specs.Option.{option_map}
use Rattle.tz_table.specs.declared.units.Width.{Width}
use Rattle.tz_syntax.specs.Rows.{TextRowValue, fits, row_most, row_view}
use Rattle.tz_syntax.specs.Text.{texts}
use Rattle.tz_syntax.specs.declared.row.TextRow.{TextRow}

abbrev pub all_fit : List TextRowValue → Bool
all_fit rows = list_all (λ r. nat_le (row_most r) 96) rows

texts_fit : all_fit texts ≡ true
unfolding texts
texts_fit = refl

found_fits : (e : List ℤ) (w : Width) (r : TextRowValue) (rows : List TextRowValue) → find (fits e w) rows ≡ Some r → all_fit rows ≡ true → row_most r ≤ 96
found_fits e w r [] h f = grind arith
found_fits e w r (x ∷ rows) h f = grind (arith, found_fits e w r rows)

-- a row that is found fits
pub row_fits : (e : List ℤ) (w : Width) (o : Option (Bor TextRow)) (r : Bor TextRow) → o ≡ Some r → option_map (λ x. row_view x.now) o ≡ find (fits e w) texts → row_most (row_view r.now) ≤ 96
row_fits e w o r is found = found_fits e w (row_view r.now) texts (sym found ∙ ap (option_map (λ x. row_view x.now)) is) texts_fit
