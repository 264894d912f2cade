-- Memory before anything is put into it.
use Rattle.std.specs.Prelude.{ℕ, List, [], ◌∷◌, ◌++◌, replicate}
use Rattle.std.specs.FinMap.{from_entries}
use Rattle.tz_model.specs.declared.board.Region.{Region}
use Rattle.tz_state.specs.Memory.{Memory}
use Rattle.tz_model.specs.Image.{entries_from}

-- zeros at each address of the regions
abbrev pub zero_entries : List Region → List (ℕ × ℕ)
zero_entries [] = []
zero_entries (r ∷ rs) = entries_from r.base (replicate r.size 0) ++ zero_entries rs

unfoldable pub zero_memory : List Region → Memory
zero_memory rs = from_entries (zero_entries rs)
