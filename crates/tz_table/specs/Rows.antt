-- A row of the instruction table, what it holds, and how a code is looked up.
use Rattle.std.specs.Prelude.{ℕ, zero, suc, Bool, true, false, ◌==◌, ◌&&◌, List, [], ◌∷◌, codes, length, if◌then◌else◌}
use Prim.Native.String.{String}
use Rattle.tz_table.specs.Patterns.{Cube, Field, Pattern, fits, has_any, in_cube}
use Rattle.tz_table.specs.PatternTexts.{bits_in, cube_of, has_value, number_in}
use Rattle.tz_table.specs.Forms.{form_of}
use Rattle.tz_table.specs.declared.rows.Row.{Row}
use Rattle.tz_table.specs.declared.units.Width.{Width}
use Rattle.tz_table.specs.declared.units.Width.TheVariants.{Narrow, Wide}
use Rattle.tz_table.specs.declared.instruction.Insn.{Insn}
use Rattle.tz_table.specs.declared.decoded.Decoded.{Decoded}
use Rattle.tz_table.specs.declared.decoded.Decoded.TheVariants.{One, Undefined}

-- the fixed bits with the values of fields that belong to other rows, the other limits, and the
-- instruction of a code
pub record TableRow : Type 0 where
  pub pattern : Pattern
  pub width : Width
  pub limits : ℕ → ℕ → Bool
  pub insn : ℕ → ℕ → Insn

-- the code has the row's fixed bits and keeps its limits
abbrev pub holds : TableRow → ℕ → ℕ → Bool
holds r f s = r.limits f s && fits r.pattern f s

-- codes that no row holds, and what decoding answers for them
pub record RefusedCodes : Type 0 where
  pub cube : Cube
  pub answer : Decoded

abbrev pub refused : List RefusedCodes → ℕ → ℕ → Decoded
refused [] f s = Undefined Narrow
refused (r ∷ rs) f s = if in_cube r.cube f s then r.answer else refused rs f s

-- by the first row in which the code stands, its instruction and width
abbrev pub scan : List RefusedCodes → List TableRow → ℕ → ℕ → Decoded
scan rs [] f s = refused rs f s
scan rs (r ∷ rest) f s = if holds r f s then One (r.insn f s) r.width else scan rs rest f s

-- ---- how rows are written

-- no limit
abbrev pub any : (String → ℕ) → Bool
any v = true

-- a row by the bits of its pattern, the fields that other rows have, its limits and its instruction
abbrev pub table_row : List ℕ → List (List Field) → (ℕ → ℕ → Bool) → (ℕ → ℕ → Insn) → TableRow
table_row p others limits insn = record { pattern = record { cube = cube_of p; excepts = others }; width = if length p == 16 then Narrow else Wide; limits = limits; insn = insn }

-- the text of a pattern, the limits and the instruction: `v "d"` is the number in the bits of the letter d, and that
-- of several letters has their bits one after the other, as `v "i00"` is four times that of i
abbrev pub row : String → ((String → ℕ) → Bool) → ((String → ℕ) → Insn) → TableRow
row pattern limits insn = let p = bits_in (codes pattern) in table_row p [] (λ f s. limits (number_in p f s)) (λ f s. insn (number_in p f s))

-- a row without the codes of other rows, told by values of fields: `x "n" 15` is a 15 in the bits of the letter n
abbrev pub row_but : String → ((String → ℕ → Field) → List (List Field)) → ((String → ℕ) → Bool) → ((String → ℕ) → Insn) → TableRow
row_but pattern others limits insn = let p = bits_in (codes pattern) in table_row p (others (has_value p)) (λ f s. limits (number_in p f s)) (λ f s. insn (number_in p f s))

-- a row whose limits or instruction speak of the halfwords themselves
abbrev pub row_at : String → ((String → ℕ) → ℕ → ℕ → Bool) → ((String → ℕ) → ℕ → ℕ → Insn) → TableRow
row_at pattern limits insn = let p = bits_in (codes pattern) in table_row p [] (λ f s. limits (number_in p f s) f s) (λ f s. insn (number_in p f s) f s)

-- codes that no row holds, by the text of their pattern
abbrev pub refusal : String → Decoded → RefusedCodes
refusal pattern answer = record { cube = cube_of (bits_in (codes pattern)); answer = answer }

-- ---- rows as data

-- the data of a row: the form is that of its instructions
abbrev pub row_of : TableRow → Row
row_of r = record { width = r.width; first_mask = r.pattern.cube.first_mask; first_value = r.pattern.cube.first_value; second_mask = r.pattern.cube.second_mask; second_value = r.pattern.cube.second_value; form = form_of (r.insn r.pattern.cube.first_value r.pattern.cube.second_value) }

abbrev pub rows_of : List TableRow → List Row
rows_of [] = []
rows_of (r ∷ rs) = row_of r ∷ rows_of rs

-- ---- the limits of a row by its data

-- the limits of the row, with the values of fields that belong to other rows
abbrev pub keeps : TableRow → ℕ → ℕ → Bool
keeps r f s = if has_any r.pattern.excepts f s then false else r.limits f s

-- those of row k of a list; past its end there are none
abbrev pub limits_at : List TableRow → ℕ → ℕ → ℕ → Bool
limits_at [] k f s = true
limits_at (r ∷ rs) zero f s = keeps r f s
limits_at (r ∷ rs) (suc k) f s = limits_at rs k f s

abbrev pub same_width : Width → Width → Bool
same_width Narrow Narrow = true
same_width Narrow Wide = false
same_width Wide Narrow = false
same_width Wide Wide = true

abbrev pub same_row : Row → Row → Bool
same_row a b = same_width a.width b.width && (a.first_mask == b.first_mask && a.first_value == b.first_value) && (a.second_mask == b.second_mask && a.second_value == b.second_value) && a.form == b.form

-- the limits of the first row of the list with this data; data of no row have none
unfoldable pub limits_of : List TableRow → Row → ℕ → ℕ → Bool
limits_of [] row f s = true
limits_of (r ∷ rs) row f s = if same_row (row_of r) row then keeps r f s else limits_of rs row f s
