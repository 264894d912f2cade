-- What the words mean that begin a run.
use Rattle.std.specs.Prelude.{ℕ, List, [], ◌∷◌, Option, None, option_map, option_and_then}
use Rattle.tz_words.specs.Parts.{Text, Parts, AnyWord, parts_of}
use Rattle.tz_words.specs.Counts.{count_of}
use Rattle.tz_words.specs.declared.start.StartWords.{StartWords as ReadWords}

-- names of files, and how many steps are run
pub record StartWords : Type 0 where
  pub board : List ℕ
  pub secure : List ℕ
  pub nonsecure : List ℕ
  pub script : List ℕ
  pub steps : ℕ

-- what the program read, as such a record
abbrev pub start_in : ReadWords → StartWords
start_in w = record {
  board = w.board.now;
  secure = w.secure.now;
  nonsecure = w.nonsecure.now;
  script = w.script.now;
  steps = w.steps;
}

-- five positional words, of which the last is a number of steps
abbrev pub start_with : List Text → Option StartWords
start_with (board ∷ secure ∷ nonsecure ∷ script ∷ steps ∷ []) =
    option_map (λ n. record {
      board = board;
      secure = secure;
      nonsecure = nonsecure;
      script = script;
      steps = n;
    }) (count_of steps)
start_with _ = None

-- what these parts tell a command that has no option
abbrev pub bare_with : List Text → List Text → Option StartWords
bare_with [] words = start_with words
bare_with (value ∷ values) words = None

abbrev pub start_parts : Parts → Option StartWords
start_parts p = bare_with p.values p.positionals

-- the words behind such a command: an option without a name can't be given
abbrev pub start_behind : List Text → Option StartWords
start_behind words = option_and_then start_parts (parts_of [] AnyWord words)

-- the names of files, in the order of the words
abbrev pub start_names : StartWords → List Text
start_names s = s.board ∷ s.secure ∷ s.nonsecure ∷ s.script ∷ []
