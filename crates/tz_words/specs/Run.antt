-- What a run in a view is told, and what the option `--view` means.
use Rattle.std.specs.Prelude.{ℕ, List, Option, codes}
use Rattle.tz_model.specs.declared.report.View.{View}
use Rattle.tz_model.specs.declared.report.View.TheVariants.{Ns, All}
use Rattle.tz_words.specs.Parts.{Text}
use Rattle.tz_words.specs.Choices.{named_of, chosen_of}
use Rattle.tz_words.specs.StartWords.{StartWords}

-- what `run` is told of a view: names of files, how many steps, and what the trace shows
pub record RunWords : Type 0 where
  pub board : List ℕ
  pub secure : List ℕ
  pub nonsecure : List ℕ
  pub script : List ℕ
  pub steps : ℕ
  pub view : View

-- what such words begin
abbrev pub run_of : StartWords → View → RunWords
run_of s view = record { board = s.board; secure = s.secure; nonsecure = s.nonsecure; script = s.script; steps = s.steps; view = view }

abbrev pub start_of : RunWords → StartWords
start_of r = record { board = r.board; secure = r.secure; nonsecure = r.nonsecure; script = r.script; steps = r.steps }

-- the view of a name
abbrev pub view_named : Text → Option View
view_named name = named_of (codes "ns") Ns (codes "all") All name

-- the view that the option's values choose: one at most, and `ns` where there is none
abbrev pub view_of : List Text → Option View
view_of values = chosen_of (codes "ns") Ns (codes "all") All values
