-- How a pattern is written: a text of 16 or 32 bits, the highest first. 0 and 1 are fixed bits, a letter is a bit
-- of the field of that letter, and spaces and `|` are for the eye. Fixed bits and fields follow from the text.
use Rattle.std.specs.Prelude.{ℕ, ◌+◌, ◌*◌, ◌^◌, ◌==◌, Bool, ◌||◌, if◌then◌else◌, List, [], ◌∷◌, ◌++◌, codes, length, take, drop}
use Prim.Native.String.{String}
use Rattle.tz_table.specs.Fields.{bits}
use Rattle.tz_table.specs.Patterns.{Cube, Field, first, second}

-- the bits of a text, as characters: all but spaces and `|`
abbrev pub bits_in : List ℕ → List ℕ
bits_in [] = []
bits_in (c ∷ cs) = if c == 32 || c == 124 then bits_in cs else c ∷ bits_in cs

abbrev pub is_zero : ℕ → Bool
is_zero c = c == 48

abbrev pub is_one_bit : ℕ → Bool
is_one_bit c = c == 49

abbrev pub is_fixed : ℕ → Bool
is_fixed c = is_zero c || is_one_bit c

-- ---- fixed bits

-- n, and behind it a bit for each character: 1 where the test holds
abbrev pub ones_where : (ℕ → Bool) → ℕ → List ℕ → ℕ
ones_where test n [] = n
ones_where test n (c ∷ cs) = ones_where test (2 * n + (if test c then 1 else 0)) cs

abbrev pub mask_of : List ℕ → ℕ
mask_of p = ones_where is_fixed 0 p

abbrev pub value_of : List ℕ → ℕ
value_of p = ones_where is_one_bit 0 p

-- the codes with the fixed bits of either halfword
abbrev pub cube_of : List ℕ → Cube
cube_of p = record { first_mask = mask_of (take 16 p); first_value = value_of (take 16 p); second_mask = mask_of (drop 16 p); second_value = value_of (drop 16 p) }

-- ---- fields

-- bits of a number: a 0 that no bit of the code tells, or bits of a halfword from `low` on
pub data Piece : Type 0 where
  Gap : Piece
  InFirst : (low width : ℕ) → Piece
  InSecond : (low width : ℕ) → Piece

-- a run of bits, where it has any, before others
abbrev pub run : (ℕ → ℕ → Piece) → ℕ → ℕ → List Piece → List Piece
run lies low width others = if width == 0 then others else lies low width ∷ others

-- the runs of a letter in the rest of a halfword, behind `width` bits of that letter
abbrev pub runs_from : (ℕ → ℕ → Piece) → ℕ → ℕ → List ℕ → List Piece
runs_from lies letter width [] = run lies 0 width []
runs_from lies letter width (c ∷ cs) = if c == letter then runs_from lies letter (width + 1) cs else run lies (1 + length cs) width (runs_from lies letter 0 cs)

-- the bits of some letters, those of each behind those of the one before; the letter 0 is a bit 0
abbrev pub pieces_of : List ℕ → List ℕ → List Piece
pieces_of p [] = []
pieces_of p (c ∷ cs) = if is_zero c then (Gap ∷ pieces_of p cs) else (runs_from InFirst c 0 (take 16 p) ++ runs_from InSecond c 0 (drop 16 p) ++ pieces_of p cs)

-- how many bits the pieces have
abbrev pub width_of : List Piece → ℕ
width_of [] = 0
width_of (Gap ∷ ps) = 1 + width_of ps
width_of (InFirst low width ∷ ps) = width + width_of ps
width_of (InSecond low width ∷ ps) = width + width_of ps

-- x from bit n on
abbrev pub scaled : ℕ → ℕ → ℕ
scaled x n = if n == 0 then x else x * 2 ^ n

-- n and the number in the pieces of a code
abbrev pub gathered_onto : ℕ → List Piece → ℕ → ℕ → ℕ
gathered_onto n [] f s = n
gathered_onto n (Gap ∷ ps) f s = gathered_onto n ps f s
gathered_onto n (InFirst low width ∷ ps) f s = gathered_onto (n + scaled (bits f low width) (width_of ps)) ps f s
gathered_onto n (InSecond low width ∷ ps) f s = gathered_onto (n + scaled (bits s low width) (width_of ps)) ps f s

-- the number in the pieces of a code
abbrev pub gathered : List Piece → ℕ → ℕ → ℕ
gathered [] f s = 0
gathered (Gap ∷ ps) f s = gathered ps f s
gathered (InFirst low width ∷ ps) f s = gathered_onto (scaled (bits f low width) (width_of ps)) ps f s
gathered (InSecond low width ∷ ps) f s = gathered_onto (scaled (bits s low width) (width_of ps)) ps f s

-- the number of some letters in a code
abbrev pub number_in : List ℕ → ℕ → ℕ → String → ℕ
number_in p f s letters = gathered (pieces_of p (codes letters)) f s

-- the first of the pieces that lies in the code, with a value
abbrev pub first_run : List Piece → ℕ → Field
first_run [] v = first 0 0 v
first_run (Gap ∷ ps) v = first_run ps v
first_run (InFirst low width ∷ ps) v = first low width v
first_run (InSecond low width ∷ ps) v = second low width v

-- the field of a letter with a value
abbrev pub has_value : List ℕ → String → ℕ → Field
has_value p letter v = first_run (pieces_of p (codes letter)) v
