-- Hexadecimal digits in lower case.
use Rattle.std.specs.Prelude.{ℕ, ◌+◌, ◌/◌, ◌%◌, nat_lt, if◌then◌else◌, List, [], ◌∷◌, ◌++◌}

abbrev pub hex_digit : ℕ → ℕ
hex_digit d = if nat_lt d 10 then 48 + d else 87 + d

unfoldable pub hex_byte : ℕ → List ℕ
hex_byte b = hex_digit (b / 16) ∷ hex_digit (b % 16) ∷ []

-- four digits
unfoldable pub hex_half : ℕ → List ℕ
hex_half n = hex_byte (n / 256) ++ hex_byte (n % 256)

-- eight digits
unfoldable pub hex_word : ℕ → List ℕ
hex_word n = hex_half (n / 65536) ++ hex_half (n % 65536)
