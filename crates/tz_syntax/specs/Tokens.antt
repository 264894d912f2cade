-- The tokens of a line of source.
use Rattle.std.specs.Prelude.{ℕ, ◌+◌, ◌*◌, ◌^◌, ◌==◌, nat_le, nat_lt, Bool, ◌||◌, ◌&&◌, if◌then◌else◌, List, [], ◌∷◌, ◌++◌, codes, drop, length, slice_index, Option, Some, None, option_map}
use Rattle.std.specs.Char.{digit_value, is_ascii_alphanumeric, is_ascii_digit, is_digit}
use Rattle.std.specs.List.{list_any}

-- a word, a number, or a byte that stands for itself
pub data TokenValue : Type 0 where
  Word : (text : List ℕ) → TokenValue
  Number : (value : ℕ) → TokenValue
  Mark : (byte : ℕ) → TokenValue

-- what stands before the first `;` (59), which begins a comment
unfoldable pub without_comment : List ℕ → List ℕ
without_comment [] = []
without_comment (b ∷ more) = if b == 59 then [] else b ∷ without_comment more

-- a letter, a digit, `_` (95) or `.` (46)
abbrev pub is_word_byte : ℕ → Bool
is_word_byte b = is_ascii_alphanumeric b || b == 95 || b == 46

-- a space, a tab or a carriage return
abbrev pub is_blank : ℕ → Bool
is_blank b = b == 32 || b == 9 || b == 13

-- a byte that is a token by itself
abbrev pub is_mark : ℕ → Bool
is_mark b = list_any (λ mark. mark == b) (codes "#,[]{}!:+-")

-- the number that digits of a base make behind those that made n
unfoldable pub digits_from : ℕ → ℕ → List ℕ → Option ℕ
digits_from base n [] = Some n
digits_from base n (b ∷ more) = if is_digit b base then digits_from base (base * n + digit_value b) more else None

-- a number, where it is one of 32 bits
abbrev pub in_32_bits : Option ℕ → Option ℕ
in_32_bits None = None
in_32_bits (Some n) = if nat_lt n (2 ^ 32) then Some n else None

-- the number of 32 bits that digits of a base make, of which there is at least one
unfoldable pub number_in : ℕ → List ℕ → Option ℕ
number_in base [] = None
number_in base (b ∷ more) = in_32_bits (digits_from base 0 (b ∷ more))

-- begins with `0x`
abbrev pub is_hexadecimal : List ℕ → Bool
is_hexadecimal run = nat_le 2 (length run) && (slice_index run 0 == 48 && slice_index run 1 == 120)

-- a number: decimal digits, or `0x` and hexadecimal ones of either case
unfoldable pub number_of : List ℕ → Option ℕ
number_of run = if is_hexadecimal run then number_in 16 (drop 2 run) else number_in 10 run

-- the token that a run of letters, digits, `_` and `.` is: where a digit begins it, it has to be a number
unfoldable pub token_of : List ℕ → Option TokenValue
token_of run = if is_ascii_digit (slice_index run 0) then option_map Number (number_of run) else Some (Word run)

-- a token before others, where all of them are tokens
abbrev pub before : Option TokenValue → Option (List TokenValue) → Option (List TokenValue)
before None rest = None
before (Some token) None = None
before (Some token) (Some tokens) = Some (token ∷ tokens)

-- a run that ends here, if one has begun, before what follows
abbrev pub end_run : List ℕ → Option (List TokenValue) → Option (List TokenValue)
end_run [] rest = rest
end_run (b ∷ run) rest = before (token_of (b ∷ run)) rest

-- a byte that is in no run, before what follows
abbrev pub other_byte : ℕ → Option (List TokenValue) → Option (List TokenValue)
other_byte b rest = if is_blank b then rest else if is_mark b then before (Some (Mark b)) rest else None

-- the tokens of what follows a run that may have begun; a run is as long as it can be
unfoldable pub tokens_behind : List ℕ → List ℕ → Option (List TokenValue)
tokens_behind run [] = end_run run (Some [])
tokens_behind run (b ∷ more) =
    if is_word_byte b then tokens_behind (run ++ b ∷ []) more else end_run run (other_byte b (tokens_behind [] more))

-- the tokens of a line without its comment; none where it isn't a list of tokens
unfoldable pub tokens_of : List ℕ → Option (List TokenValue)
tokens_of line = tokens_behind [] line
