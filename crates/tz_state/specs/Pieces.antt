-- Words of flags and fields, as the manual's tables list them.
use Rattle.std.specs.Prelude.{ℕ, zero, suc, ◌*◌, ◌/◌, ◌%◌, ◌^◌, ◌==◌, Bool, false, ◌||◌, if◌then◌else◌, List, [], ◌∷◌, bit_or}

-- bit k of a word is 1
abbrev pub is_bit : ℕ → ℕ → Bool
is_bit word k = word / 2 ^ k % 2 == 1

-- the word of which bit k tells a flag, and all others are 0
abbrev pub bit_at : Bool → ℕ → ℕ
bit_at flag k = if flag then 2 ^ k else 0

-- a flag, or a field, with its lowest bit
pub data Piece : Type 0 where
  Bit : (k : ℕ) (flag : Bool) → Piece
  Field : (low value : ℕ) → Piece

abbrev pub piece_word : Piece → ℕ
piece_word (Bit k flag) = bit_at flag k
piece_word (Field low value) = value * 2 ^ low

-- a word with pieces put onto it
abbrev pub put_onto : ℕ → List Piece → ℕ
put_onto word [] = word
put_onto word (p ∷ ps) = put_onto (bit_or word (piece_word p)) ps

-- the word that pieces make
abbrev pub word_of : List Piece → ℕ
word_of [] = 0
word_of (p ∷ ps) = put_onto (piece_word p) ps

-- the word whose bit k tells whether k passes a test, for all k below n
unfoldable pub bits_below : (ℕ → Bool) → ℕ → ℕ
bits_below p zero = 0
bits_below p (suc k) = bit_or (bits_below p k) (bit_at (p k) k)

-- some number below n passes a test
unfoldable pub any_below : (ℕ → Bool) → ℕ → Bool
any_below p zero = false
any_below p (suc n) = any_below p n || p n
