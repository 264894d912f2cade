-- A statement read by a row of the texts.
use Rattle.std.specs.Prelude.{ℕ, ◌==◌, Bool, true, false, ◌&&◌, if◌then◌else◌, List, [], ◌∷◌, length, replicate, Option, Some, None, option_map, unwrap_or, slice_set, ℤ, pos}
use Rattle.std.specs.Option.{option_or}
use Rattle.tz_syntax.specs.Tokens.{TokenValue}
use Rattle.tz_syntax.specs.FormNumbers.{load, word, literal}
use Rattle.tz_syntax.specs.Pieces.{number_at}
use Rattle.tz_syntax.specs.Rows.{TextRowValue}
use Rattle.tz_asm.specs.Bits.{mask_from}
use Rattle.tz_asm.specs.Front.{◌>>=◌}
use Rattle.tz_asm.specs.Mnemonics.{behind, lettered}
use Rattle.tz_asm.specs.Pieces.{Progress, Site, pieces_read, label_load_read, with_value}

-- the values that a row fixes, at their places
abbrev pub with_fixed : List (ℕ × ℤ) → List ℤ → List ℤ
with_fixed [] e = e
with_fixed (p ∷ ps) e = with_fixed ps (slice_set e p.0 p.1)

-- the values of a row before its operands: the form, what it fixes, and 0 at all other places
unfoldable pub row_values : TextRowValue → List ℤ
row_values r = with_fixed r.fixed (pos r.form ∷ replicate 8 (pos 0))

-- a load of a word that has its address beside the program counter: it may have a label in place of that address
abbrev pub takes_label : List ℤ → Bool
takes_label e = number_at e 0 == load && number_at e 1 == word && number_at e 3 == literal

-- what was read, where no token is left
abbrev pub all_read : Option Progress → Option Progress
all_read o = o >>= λ p. if length p.rest == 0 then Some p else None

abbrev pub begun : TextRowValue → List TokenValue → Progress
begun r tokens = record { rest = tokens; values = row_values r; held = true; labelled = false }

-- the mask that the letters behind a mnemonic make with the condition
abbrev pub with_letters : Option (ℕ × ℕ) → List ℕ → Progress → Progress
with_letters None letters p = p
with_letters (Some places) letters p = with_value places.1 (Some (pos (mask_from (number_at p.values places.0) 8 letters))) p

-- a statement by the text of a row, and a load by a label
abbrev pub by_text : TextRowValue → List ℕ → List TokenValue → Site → Option Progress
by_text r mnemonic tokens s = option_map (with_letters (lettered r.pieces) (unwrap_or (behind r.mnemonic mnemonic) [])) (all_read (pieces_read r.pieces s (begun r tokens)))

abbrev pub by_label : TextRowValue → List TokenValue → Site → Option Progress
by_label r tokens s = if takes_label (row_values r) then all_read (label_load_read s (begun r tokens)) else None

-- what a row reads in a statement; none where the operands haven't its shape
unfoldable pub row_read : TextRowValue → List ℕ → List TokenValue → Site → Option Progress
row_read r mnemonic tokens s = option_or (by_text r mnemonic tokens s) (by_label r tokens s)
