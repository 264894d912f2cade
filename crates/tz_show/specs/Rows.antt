-- What a page is made of: values with what stands before them, the names of bits that are set, and lines by number.
use Rattle.std.specs.Prelude.{ℕ, zero, suc, ◌-◌, ◌==◌, Bool, bit_and, if◌then◌else◌, List, [], ◌∷◌, ◌++◌, length, replicate, codes}
use Rattle.tz_syntax.specs.Digits.{hex_word}
use Rattle.tz_show.specs.Bits.{BitName, bits_of}
use Rattle.tz_show.specs.declared.bits.BitNames.{BitNames}

-- a value behind its name
unfoldable pub cell : List ℕ → ℕ → List ℕ
cell head value = head ++ hex_word value

-- two of a line
unfoldable pub pair_row : List ℕ → ℕ → List ℕ → ℕ → List ℕ
pair_row head value other second = cell head value ++ cell other second ++ codes "\n"

-- the name of a bit that is set
unfoldable pub bit_text : ℕ → BitName → List ℕ
bit_text value b = if bit_and value b.mask == 0 then [] else codes " " ++ b.name

-- the names of all that are
unfoldable pub bits_text : ℕ → List BitName → List ℕ
bits_text value [] = []
bits_text value (b ∷ bs) = bit_text value b ++ bits_text value bs

-- a value that ends its line, with the bits that are set
unfoldable pub row : List ℕ → ℕ → BitNames → List ℕ
row head value named = cell head value ++ bits_text value (bits_of named) ++ codes "\n"

-- a text where something is so
abbrev pub where_so : Bool → List ℕ → List ℕ
where_so so text = if so then text else []

-- a text with spaces behind it, up to a width
unfoldable pub widened : ℕ → List ℕ → List ℕ
widened width text = text ++ replicate (width - length text) 32

-- the texts of the numbers below n, in order
unfoldable pub texts_below : (ℕ → List ℕ) → ℕ → List ℕ
texts_below text zero = []
texts_below text (suc n) = texts_below text n ++ text n
