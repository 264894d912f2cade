-- What a contract sees of a line that is made.
use Rattle.std.specs.Prelude.{◌≡◌, ℕ, true, List}
use Rattle.std.specs.Str.{is_utf8}

pub record LineBytes : Type 0 where
  pub bytes : List ℕ

-- bytes that are text
abbrev pub IsText : List ℕ → Type 0
IsText bs = is_utf8 bs ≡ true
