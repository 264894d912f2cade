-- What the words behind `pair` mean.
use Rattle.std.specs.Prelude.{ℕ, List, [], ◌∷◌, Option, None, option_map, option_and_then}
use Rattle.tz_words.specs.Parts.{Text, Parts, AnyWord, parts_of}
use Rattle.tz_words.specs.Counts.{count_of}
use Rattle.tz_words.specs.declared.pair.PairWords.{PairWords as ReadWords}

-- what `pair` is told: names of files, two Secure images among them, and how many steps
pub record PairWords : Type 0 where
  pub board : List ℕ
  pub first : List ℕ
  pub second : List ℕ
  pub nonsecure : List ℕ
  pub script : List ℕ
  pub steps : ℕ

-- what the program read, as such a record
abbrev pub pair_in : ReadWords → PairWords
pair_in w = record {
  board = w.board.now;
  first = w.first.now;
  second = w.second.now;
  nonsecure = w.nonsecure.now;
  script = w.script.now;
  steps = w.steps;
}

-- six positional words, of which the last is a number of steps; no option has a value
abbrev pub pair_with : List Text → List Text → Option PairWords
pair_with [] (board ∷ first ∷ second ∷ nonsecure ∷ script ∷ steps ∷ []) =
    option_map (λ n. record {
      board = board;
      first = first;
      second = second;
      nonsecure = nonsecure;
      script = script;
      steps = n;
    }) (count_of steps)
pair_with _ _ = None

-- what these parts tell `pair`
abbrev pub pair_parts : Parts → Option PairWords
pair_parts p = pair_with p.values p.positionals

-- the words behind `pair`, which has no option: that without a name can't be given
abbrev pub pair_behind : List Text → Option PairWords
pair_behind words = option_and_then pair_parts (parts_of [] AnyWord words)

-- the names of files, in the order of the words
abbrev pub pair_names : PairWords → List Text
pair_names p = p.board ∷ p.first ∷ p.second ∷ p.nonsecure ∷ p.script ∷ []
