-- Bytes of a text: a separator in it, and a carriage return at its end.
use Rattle.std.specs.Prelude.{ℕ, ◌==◌, Bool, false, ◌||◌, if◌then◌else◌, List, [], ◌∷◌}

-- a byte stands in a text
abbrev pub has : ℕ → List ℕ → Bool
has b [] = false
has b (c ∷ more) = (c == b) || has b more

-- a text without the carriage return at its end
unfoldable pub chomp : List ℕ → List ℕ
chomp [] = []
chomp (b ∷ []) = if b == 13 then [] else b ∷ []
chomp (b ∷ c ∷ more) = b ∷ chomp (c ∷ more)
