-- What the words behind `resume` mean.
use Rattle.std.specs.Prelude.{ℕ, List, [], ◌∷◌, Option, Some, None, codes, option_map, option_and_then}
use Rattle.tz_model.specs.declared.report.View.{View}
use Rattle.tz_words.specs.Parts.{Text, Parts, AnyWord, parts_of}
use Rattle.tz_words.specs.Counts.{count_of}
use Rattle.tz_words.specs.Run.{view_of}
use Rattle.tz_words.specs.declared.resume.ResumeWords.{ResumeWords as ReadWords}

-- what `resume` is told: names of files, how many steps, and what the trace shows
pub record ResumeWords : Type 0 where
  pub board : List ℕ
  pub state : List ℕ
  pub script : List ℕ
  pub steps : ℕ
  pub view : View

-- what the program read, as such a record
abbrev pub resume_in : ReadWords → ResumeWords
resume_in w = record { board = w.board.now; state = w.state.now; script = w.script.now; steps = w.steps; view = w.view }

-- four positional words, of which the last is a number of steps, and a view
abbrev pub resume_with : Option View → List Text → Option ResumeWords
resume_with (Some view) (board ∷ state ∷ script ∷ steps ∷ []) =
    option_map (λ n. record { board = board; state = state; script = script; steps = n; view = view }) (count_of steps)
resume_with _ _ = None

-- what these parts tell `resume`
abbrev pub resume_parts : Parts → Option ResumeWords
resume_parts p = resume_with (view_of p.values) p.positionals

-- the words behind `resume`, which has the option `--view`
abbrev pub resume_behind : List Text → Option ResumeWords
resume_behind words = option_and_then resume_parts (parts_of (codes "view") AnyWord words)

-- the names of files, in the order of the words
abbrev pub resume_names : ResumeWords → List Text
resume_names w = w.board ∷ w.state ∷ w.script ∷ []
