-- What the words behind `back` mean.
use Rattle.std.specs.Prelude.{ℕ, nat_lt, if◌then◌else◌, List, [], ◌∷◌, Option, Some, None, codes, option_and_then}
use Rattle.tz_model.specs.declared.report.View.{View}
use Rattle.tz_words.specs.Parts.{Text, Parts, AnyWord, parts_of}
use Rattle.tz_words.specs.Counts.{count_of}
use Rattle.tz_words.specs.Run.{view_of}
use Rattle.tz_words.specs.StartWords.{StartWords, start_in, start_names}
use Rattle.tz_words.specs.declared.back.BackWords.{BackWords as ReadWords}

-- what `back` is told: what begins a run, how many of its steps are undone, and what the trace shows
pub record BackWords : Type 0 where
  pub start : StartWords
  pub back : ℕ
  pub view : View

-- what the program read, as such a record
abbrev pub back_in : ReadWords → BackWords
back_in w = record { start = start_in w.start; back = w.back; view = w.view }

-- no more steps are undone than are made
abbrev pub back_of : View → StartWords → ℕ → Option BackWords
back_of view start back = if nat_lt start.steps back then None else Some (record { start = start; back = back; view = view })

-- six positional words, of which the last two are numbers of steps, and a view
abbrev pub back_with : Option View → List Text → Option BackWords
back_with (Some view) (board ∷ secure ∷ nonsecure ∷ script ∷ steps ∷ back ∷ []) =
    option_and_then (λ n. option_and_then (back_of view (record {
      board = board;
      secure = secure;
      nonsecure = nonsecure;
      script = script;
      steps = n;
    })) (count_of back)) (count_of steps)
back_with _ _ = None

-- what these parts tell `back`
abbrev pub back_parts : Parts → Option BackWords
back_parts p = back_with (view_of p.values) p.positionals

-- the words behind `back`, which has the option `--view`
abbrev pub back_behind : List Text → Option BackWords
back_behind words = option_and_then back_parts (parts_of (codes "view") AnyWord words)

-- the names of files, in the order of the words
abbrev pub back_names : BackWords → List Text
back_names w = start_names w.start
