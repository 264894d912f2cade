-- What the words behind `dis` mean.
use Rattle.std.specs.Prelude.{ℕ, List, [], ◌∷◌, Option, None, codes, option_map, option_and_then}
use Rattle.tz_table.specs.declared.units.Side.{Side}
use Rattle.tz_table.specs.declared.units.Side.TheVariants.{Secure, NonSecure}
use Rattle.tz_words.specs.Choices.{named_of}
use Rattle.tz_words.specs.Parts.{Text, Parts, AnyWord, parts_of}
use Rattle.tz_words.specs.declared.dis.DisWords.{DisWords as ReadWords}

-- what `dis` is told: names of files, and the side that the image is of
pub record DisWords : Type 0 where
  pub board : List ℕ
  pub image : List ℕ
  pub side : Side

-- what the program read, as such a record
abbrev pub dis_in : ReadWords → DisWords
dis_in w = record { board = w.board.now; image = w.image.now; side = w.side }

-- the side of a word
abbrev pub side_named : Text → Option Side
side_named word = named_of (codes "s") Secure (codes "ns") NonSecure word

-- three positional words, of which the last is a side; no option has a value
abbrev pub dis_with : List Text → List Text → Option DisWords
dis_with [] (board ∷ image ∷ side ∷ []) = option_map (λ s. record { board = board; image = image; side = s }) (side_named side)
dis_with _ _ = None

-- what these parts tell `dis`
abbrev pub dis_parts : Parts → Option DisWords
dis_parts p = dis_with p.values p.positionals

-- the words behind `dis`, which has no option: that without a name can't be given
abbrev pub dis_behind : List Text → Option DisWords
dis_behind words = option_and_then dis_parts (parts_of [] AnyWord words)

-- the names of files, in the order of the words
abbrev pub dis_names : DisWords → List Text
dis_names d = d.board ∷ d.image ∷ []
