-- Memory as a dump: 16 bytes a line, in hexadecimal and as text, each line with the attribution of its first byte.
use Rattle.std.specs.Prelude.{ℕ, ◌+◌, ◌*◌, ◌/◌, ◌%◌, ◌^◌, ◌==◌, nat_le, nat_lt, ◌&&◌, if◌then◌else◌, List, [], ◌∷◌, ◌++◌, codes}
use Rattle.tz_table.specs.declared.units.Side.TheVariants as sides
use Rattle.tz_model.specs.declared.board.RegionSide.{RegionSide}
use Rattle.tz_model.specs.declared.board.RegionSide.TheVariants.{Secure, Nsc, NonSecure}
use Rattle.tz_model.specs.Words.{wrap}
use Rattle.tz_state.specs.Access.{is_mapped}
use Rattle.tz_state.specs.Attribution.{data_attribution}
use Rattle.tz_state.specs.Memory.{byte_at}
use Rattle.tz_state.specs.State.{Bus, map_in}
use Rattle.tz_syntax.specs.Digits.{hex_byte, hex_word}
use Rattle.tz_words.specs.declared.ranges.Range.{Range}
use Rattle.tz_show.specs.Rows.{where_so, texts_below}

-- Secure, Secure and callable from Non-secure code, Non-secure
unfoldable pub attribution_mark : RegionSide → List ℕ
attribution_mark Secure = codes "  S    "
attribution_mark Nsc = codes "  NSC  "
attribution_mark NonSecure = codes "  NS   "

-- the address of a byte of a range, by its number
abbrev pub byte_address : Range → ℕ → ℕ
byte_address r k = wrap (r.first + k)

-- two digits, since a byte has eight bits, or `--` where no region holds it
unfoldable pub shown_byte : Bus → ℕ → List ℕ
shown_byte b a = if is_mapped b.board.regions a then hex_byte (byte_at b.memory a % 2 ^ 8) else codes "--"

-- a printable character of ASCII, or a dot
abbrev pub shown_character : ℕ → List ℕ
shown_character c = (if nat_le 32 c && nat_lt c 127 then c else 46) ∷ []

unfoldable pub shown_text : Bus → ℕ → List ℕ
shown_text b a = if is_mapped b.board.regions a then shown_character (byte_at b.memory a) else codes "."

-- a column of a line; behind the last byte of the range it is empty
unfoldable pub byte_text : Bus → Range → ℕ → ℕ → List ℕ
byte_text b r from k =
    where_so (k == 8) (codes " ") ++ codes " " ++ (if nat_lt (from + k) r.count then shown_byte b (byte_address r (from + k)) else codes "  ")

unfoldable pub character_text : Bus → Range → ℕ → ℕ → List ℕ
character_text b r from k = where_so (nat_lt (from + k) r.count) (shown_text b (byte_address r (from + k)))

-- the line of 16 bytes from a number on
unfoldable pub bytes_line : Bus → Range → ℕ → List ℕ
bytes_line b r from =
    attribution_mark (data_attribution (map_in b) sides.Secure (byte_address r from)) ++ hex_word (byte_address r from) ++ codes " "
    ++ texts_below (byte_text b r from) 16 ++ codes "  " ++ texts_below (character_text b r from) 16 ++ codes "\n"

unfoldable pub dump_line : Bus → Range → ℕ → List ℕ
dump_line b r k = bytes_line b r (16 * k)

-- as many lines as its bytes need
unfoldable pub range_text : Bus → Range → List ℕ
range_text b r = codes "\nMemory\n" ++ texts_below (dump_line b r) ((r.count + 15) / 16)

-- all ranges, in order
unfoldable pub ranges_text : Bus → List Range → List ℕ
ranges_text b [] = []
ranges_text b (r ∷ rs) = range_text b r ++ ranges_text b rs
