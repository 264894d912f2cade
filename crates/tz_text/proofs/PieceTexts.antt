-- The pieces of a line are text.
use Rattle.std.proofs.Common.{◌≡◌, ℕ, zero, suc, ◌+◌, ◌-◌, ◌/◌, ◌%◌, ◌^◌, ◌<◌, ltb, Bool, true, ◌&&◌, T, List, [], ◌∷◌, ◌++◌, get_or, take, inl, inr, arith, eq-zero-or-pos, ltb→lt, codes}
use Rattle.std.proofs.lemmas.Bool.Decides.{nat_tests}
use Rattle.std.proofs.lemmas.Fmt.{IsAscii-decimal}
use Rattle.std.proofs.lemmas.List.{get_or_default}
use Rattle.std.proofs.lemmas.Str.{IsUtf8-append, IsUtf8-from_ascii, IsUtf8-from_is_utf8, is_utf8-from_IsUtf8, IsAscii-append}
use Rattle.std.proofs.lemmas.Str.Ascii.{IsAscii-nil, IsAscii-cons}
use Rattle.std.specs.Fmt.{decimal}
use Rattle.std.specs.Str.{IsAscii}
use lib.Ieee.Fits.{and_l, and_r}
use Rattle.tz_syntax.specs.Digits.{hex_digit, hex_byte, hex_half, hex_word}
use Rattle.tz_text.specs.Number.{tens_text}
use Rattle.tz_text.specs.Room.{IsText}
use Rattle.tz_text.specs.declared.names.TheConstants.{NAMES}

pub text_append : (xs ys : List ℕ) → IsText xs → IsText ys → IsText (xs ++ ys)
text_append xs ys p q = is_utf8-from_IsUtf8 (xs ++ ys) (IsUtf8-append xs ys (IsUtf8-from_is_utf8 xs p) (IsUtf8-from_is_utf8 ys q))

text_ascii : (xs : List ℕ) → IsAscii xs → IsText xs
text_ascii xs h = is_utf8-from_IsUtf8 xs (IsUtf8-from_ascii xs h)

pub no_text : IsText []
no_text = text_ascii [] IsAscii-nil

digit_ascii : (d : ℕ) → d < 16 → hex_digit d < 128
digit_ascii d h = grind (arith, nat_tests)

byte_ascii : (b : ℕ) → b < 256 → IsAscii (hex_byte b)
unfolding hex_byte
byte_ascii b h =
    IsAscii-cons (hex_digit (b / 16)) (hex_digit (b % 16) ∷ []) (digit_ascii (b / 16) (omega arith)) (IsAscii-cons (hex_digit (b % 16)) [] (digit_ascii (b % 16) (omega arith)) IsAscii-nil)

half_ascii : (n : ℕ) → n < 65536 → IsAscii (hex_half n)
unfolding hex_half
half_ascii n h = IsAscii-append (hex_byte (n / 256)) (hex_byte (n % 256)) (byte_ascii (n / 256) (omega arith)) (byte_ascii (n % 256) (omega arith))

pub text_word : (n : ℕ) → n < 2 ^ 32 → IsText (hex_word n)
unfolding hex_word
text_word n h =
    text_ascii (hex_word n) (IsAscii-append (hex_half (n / 65536)) (hex_half (n % 65536)) (half_ascii (n / 65536) (omega arith)) (half_ascii (n % 65536) (omega arith)))

pub text_tens : (n : ℕ) → n < 2 ^ 32 → IsText (tens_text n)
text_tens n h =
    elim (eq-zero-or-pos n) [
      | inl z ↦ rw z no_text
      | inr g ↦ let d : tens_text n ≡ decimal n = grind (arith, nat_tests) in rw d (text_ascii (decimal n) (IsAscii-decimal n (omega arith)))
    ]

-- the last digit, and a space
pub text_last : (n : ℕ) → IsText ((48 + n % 10) ∷ 32 ∷ [])
text_last n = text_ascii ((48 + n % 10) ∷ 32 ∷ []) (IsAscii-cons (48 + n % 10) (32 ∷ []) (omega arith) (IsAscii-cons 32 [] (omega arith) IsAscii-nil))

-- whether all are below 128
abbrev ascii : List ℕ → Bool
ascii [] = true
ascii (x ∷ xs) = ltb x 128 && ascii xs

from_ascii : (xs : List ℕ) → T (ascii xs) → IsAscii xs
from_ascii [] t = IsAscii-nil
from_ascii (x ∷ xs) t = IsAscii-cons x xs (ltb→lt x 128 (and_l _ (ascii xs) t)) (from_ascii xs (and_r _ (ascii xs) t))

abbrev none : List ℕ × ℕ
none = ([], 0)

-- the names of numbers below one
abbrev are_ascii : ℕ → Bool
are_ascii zero = true
are_ascii (suc k) = ascii (take (get_or NAMES k none).1 (get_or NAMES k none).0) && are_ascii k

below : (n k : ℕ) → T (are_ascii n) → k < n → IsAscii (take (get_or NAMES k none).1 (get_or NAMES k none).0)
below zero k t h = absurd (omega arith)
below (suc n) k t h =
    elim (eq-zero-or-pos (n - k)) [
      | inl z ↦ let e : k ≡ n = omega arith in rw e (from_ascii (take (get_or NAMES n none).1 (get_or NAMES n none).0) (and_l _ (are_ascii n) t))
      | inr g ↦ below n k (and_r _ (are_ascii n) t) (omega arith)
    ]

pub text_named : (k : ℕ) (d : List ℕ × ℕ) → k < 16 → IsText (take (get_or NAMES k d).1 (get_or NAMES k d).0)
text_named k d h = rw (get_or_default NAMES k d none h) (text_ascii _ (below 16 k tt h))

pub text_unnamed : IsText (codes " =")
text_unnamed = text_ascii _ (from_ascii (codes " =") tt)
