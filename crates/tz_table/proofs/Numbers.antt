-- Powers of two as the code makes them, and the number of a row.
use Rattle.std.proofs.Common.{◌≡◌, ℕ, zero, suc, ◌*◌, ◌%◌, ◌^◌, ◌<◌, ◌≤◌, List, [], ◌∷◌, length, Some, true, false, refl, sym, arith, ◌∙◌, ap}
use Rattle.std.specs.Prelude.{slice_get}
use Rattle.std.proofs.lemmas.Bool.{cond-true, cond-false}
use Rattle.tz_table.specs.Rows.{TableRow, keeps, limits_at, limits_of, row_of, rows_of, same_row}
use Rattle.tz_table.specs.Table.{rows}
use Rattle.tz_table.specs.declared.rows.Row.{Row}
use Rattle.tz_table.specs.declared.rows.TheConstants.{ROWS}
use Rattle.tz_table.proofs.Data.{data_of_rows, count_of_rows}
use Rattle.std.proofs.lemmas.Nat.{one_shl}

pub one_left : (w : ℕ) → w ≤ 12 → 1 * 2 ^ w % 65536 ≡ 2 ^ w
one_left w h = one_shl w 16 (omega arith)

-- ---- the limits of a row that was found by its data

pub limits_found : (rs : List TableRow) (row : Row) (n f s : ℕ) → ((k : ℕ) (r : Row) → k < n → slice_get (rows_of rs) k ≡ Some r → same_row r row ≡ false) → ((r : Row) → slice_get (rows_of rs) n ≡ Some r → same_row r row ≡ true) → limits_at rs n f s ≡ limits_of rs row f s
unfolding limits_of
limits_found [] row n f s b h = refl
limits_found (r ∷ rs) row zero f s b h = sym (cond-true (same_row (row_of r) row) (keeps r f s) (limits_of rs row f s) (h (row_of r) refl))
limits_found (r ∷ rs) row (suc n) f s b h =
    limits_found rs row n f s (λ k x lt g. b (suc k) x (omega arith) g) h
    ∙ sym (cond-false (same_row (row_of r) row) (keeps r f s) (limits_of rs row f s) (b 0 (row_of r) (omega arith) refl))

pub limits_past : (rs : List TableRow) (n f s : ℕ) → length rs ≤ n → limits_at rs n f s ≡ true
limits_past [] n f s h = refl
limits_past (r ∷ rs) zero f s h = absurd (omega arith)
limits_past (r ∷ rs) (suc n) f s h = limits_past rs n f s (omega arith)

pub table_limits : (row : Row) (n f s : ℕ) → ((k : ℕ) (r : Row) → k < n → slice_get ROWS k ≡ Some r → same_row r row ≡ false) → ((r : Row) → slice_get ROWS n ≡ Some r → same_row r row ≡ true) → limits_at rows n f s ≡ limits_of rows row f s
table_limits row n f s b h =
    limits_found rows row n f s
    (λ k r lt g. b k r lt (ap (λ xs. slice_get xs k) data_of_rows ∙ g))
    (λ r g. h r (ap (λ xs. slice_get xs n) data_of_rows ∙ g))

pub table_past : (n f s : ℕ) → 189 ≤ n → limits_at rows n f s ≡ true
table_past n f s h = limits_past rows n f s (omega (arith, count_of_rows))
