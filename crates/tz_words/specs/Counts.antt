-- Numbers in words.
use Rattle.std.specs.Prelude.{ℕ, Bool, ◌&&◌, length, Option, Some, None, if◌then◌else◌}
use Rattle.std.specs.Str.{all_ascii_digits}
use Rattle.std.specs.Str.Parse.{digits_value}
use Rattle.tz_model.specs.Board.{within}
use Rattle.tz_words.specs.Parts.{Text}

-- 1 to 8 decimal digits
abbrev pub is_count : Text → Bool
is_count word = within 1 8 (length word) && all_ascii_digits word

-- the number that such digits write
abbrev pub count_of : Text → Option ℕ
count_of word = if is_count word then Some (digits_value 10 word) else None
