-- The digits of a number before its last one.
use Rattle.std.specs.Prelude.{ℕ, ◌==◌, if◌then◌else◌, List, [], decimal}

-- none where the number has one digit
abbrev pub tens_text : ℕ → List ℕ
tens_text tens = if tens == 0 then [] else decimal tens
