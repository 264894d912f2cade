-- The text of gates: a line for each, with how often it was entered, and one for all entries elsewhere.
use Rattle.std.specs.Prelude.{ℕ, List, [], ◌∷◌, ◌++◌, codes, decimal}
use Rattle.tz_syntax.specs.Digits.{hex_word}

abbrev pub gate_line : ℕ → ℕ → List ℕ
gate_line gate hits = hex_word gate ++ codes " " ++ decimal hits ++ codes "\n"

-- the line of each gate that has hits
unfoldable pub gate_lines : List ℕ → List ℕ → List ℕ
gate_lines [] hits = []
gate_lines (g ∷ gs) [] = []
gate_lines (g ∷ gs) (h ∷ hs) = gate_line g h ++ gate_lines gs hs

abbrev pub unlisted_line : ℕ → List ℕ
unlisted_line unlisted = codes "unlisted " ++ decimal unlisted ++ codes "\n"

abbrev pub gates_text : List ℕ → List ℕ → ℕ → List ℕ
gates_text gates hits unlisted = gate_lines gates hits ++ unlisted_line unlisted
