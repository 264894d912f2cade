-- What the words of a command line mean: one of the commands, or nothing.
use Rattle.std.specs.Prelude.{ℕ, List, [], ◌∷◌, length, max, Option, Some, None, if◌then◌else◌, codes, option_map, option_and_then}
use Rattle.std.specs.Str.{bytes_eq}
use Rattle.tz_words.specs.declared.ranges.Range.{Range}
use Rattle.tz_model.specs.declared.report.View.TheVariants.{Ns, All}
use Rattle.tz_words.specs.Parts.{Text, Parts, AnyWord, parts_of}
use Rattle.tz_words.specs.Choices.{named_in, chosen_in}
use Rattle.tz_words.specs.StartWords.{StartWords, start_behind, start_in, start_names, start_with}
use Rattle.tz_words.specs.ShowWords.{ShowWords, SavedWords, ShowParts, no_parts, with_words, saved_in, show_names, saved_names}
use Rattle.tz_words.specs.Run.{RunWords, run_of, start_of}
use Rattle.tz_words.specs.Resume.{ResumeWords, resume_behind, resume_in, resume_names}
use Rattle.tz_words.specs.Back.{BackWords, back_behind, back_in, back_names}
use Rattle.tz_words.specs.Pair.{PairWords, pair_behind, pair_in, pair_names}
use Rattle.tz_words.specs.Asm.{AsmWords, asm_behind, asm_in, asm_names}
use Rattle.tz_words.specs.Dis.{DisWords, dis_behind, dis_in, dis_names}
use Rattle.tz_words.specs.GenWords.{gen_behind}
use Rattle.tz_words.specs.declared.generated.GenWords.{GenWords}
use Rattle.tz_words.specs.declared.show.Next.{Next}
use Rattle.tz_words.specs.declared.show.Next.TheVariants.{ItsValue}
use Rattle.tz_words.specs.declared.start.Work.{Work}
use Rattle.tz_words.specs.declared.start.Work.TheVariants as works
use Rattle.tz_words.specs.declared.command.Command.{Command as ReadCommand}
use Rattle.tz_words.specs.declared.command.Command.TheVariants as read

-- a command with what its words say
pub data Command : Type 0 where
  Run : RunWords → Command
  RunFull : StartWords → Command
  Pair : PairWords → Command
  Asm : AsmWords → Command
  Dis : DisWords → Command
  Gates : StartWords → Command
  Snap : StartWords → Command
  Show : ShowWords → Command
  ShowSaved : SavedWords → Command
  Resume : ResumeWords → Command
  Back : BackWords → Command
  Gen : GenWords → Command

-- what is done with what begins a run
abbrev pub command_with : StartWords → Work → Command
command_with words (works.Trace view) = Run (run_of words view)
command_with words works.Full = RunFull words
command_with words works.Gates = Gates words
command_with words works.Save = Snap words
command_with words (works.Page ranges) = Show (record { start = words; ranges = ranges.items })

-- what the program read, as such a command
abbrev pub command_in : ReadCommand → Command
command_in (read.Start words work) = command_with (start_in words) work
command_in (read.Pair words) = Pair (pair_in words)
command_in (read.Asm words) = Asm (asm_in words)
command_in (read.Dis words) = Dis (dis_in words)
command_in (read.ShowSaved words) = ShowSaved (saved_in words)
command_in (read.Resume words) = Resume (resume_in words)
command_in (read.Back words) = Back (back_in words)
command_in (read.Gen words) = Gen words

-- what is done with a run, by what it shows
abbrev pub shown_works : List (Text × Work)
shown_works = (codes "ns", works.Trace Ns) ∷ (codes "all", works.Trace All) ∷ (codes "full", works.Full) ∷ []

-- the work of a name
abbrev pub work_named : Text → Option Work
work_named name = named_in shown_works name

-- the work that the option's values choose: one at most, and that of `ns` where there is none
abbrev pub work_of : List Text → Option Work
work_of values = chosen_in (works.Trace Ns) shown_works values

-- the words that begin a run, and what is done with it
abbrev pub run_with : Option Work → List Text → Option Command
run_with (Some work) words = option_map (λ s. command_with s work) (start_with words)
run_with None words = None

-- what these parts tell `run`
abbrev pub run_parts : Parts → Option Command
run_parts p = run_with (work_of p.values) p.positionals

-- the words behind `run`, which has the option `--view`
abbrev pub run_behind : List Text → Option Command
run_behind words = option_and_then run_parts (parts_of (codes "view") AnyWord words)

-- the words that begin a run, with ranges; or those of a state's file, behind which the board stands alone
abbrev pub show_with : Option Text → List Text → List Range → Option Command
show_with None words ranges = option_map (λ s. Show (record { start = s; ranges = ranges })) (start_with words)
show_with (Some file) (board ∷ []) ranges = Some (ShowSaved (record { board = board; state = file; ranges = ranges }))
show_with (Some file) words ranges = None

-- what these parts tell `show`: nothing where the value of an option is missing
abbrev pub show_next : Next → ShowParts → Option Command
show_next (ItsValue option) p = None
show_next _ p = show_with p.state p.positionals p.ranges

abbrev pub show_parts : ShowParts → Option Command
show_parts p = show_next p.next p

-- the words behind `show`, which has two options
abbrev pub show_behind : List Text → Option Command
show_behind words = option_and_then show_parts (with_words words no_parts)

-- the command of a word, with the words behind it
abbrev pub command_behind : Text → List Text → Option Command
command_behind command words =
    if bytes_eq command (codes "run") then run_behind words
    else if bytes_eq command (codes "gates") then option_map Gates (start_behind words)
    else if bytes_eq command (codes "snap") then option_map Snap (start_behind words)
    else if bytes_eq command (codes "show") then show_behind words
    else if bytes_eq command (codes "resume") then option_map Resume (resume_behind words)
    else if bytes_eq command (codes "back") then option_map Back (back_behind words)
    else if bytes_eq command (codes "pair") then option_map Pair (pair_behind words)
    else if bytes_eq command (codes "asm") then option_map Asm (asm_behind words)
    else if bytes_eq command (codes "dis") then option_map Dis (dis_behind words)
    else if bytes_eq command (codes "gen") then option_map Gen (gen_behind words)
    else None

-- the words of a command line: the program's name, which may be any text, a command's word, and the words behind it
abbrev pub command_of : List Text → Option Command
command_of (program ∷ command ∷ words) = command_behind command words
command_of _ = None

-- the names of files, in the order of the words
abbrev pub names_of : Command → List Text
names_of (Run r) = start_names (start_of r)
names_of (RunFull s) = start_names s
names_of (Pair p) = pair_names p
names_of (Asm a) = asm_names a
names_of (Dis d) = dis_names d
names_of (Gates s) = start_names s
names_of (Snap s) = start_names s
names_of (Show s) = show_names s
names_of (ShowSaved w) = saved_names w
names_of (Resume w) = resume_names w
names_of (Back w) = back_names w
names_of (Gen w) = []

-- the length of the longest word
abbrev pub longest : List Text → ℕ
longest [] = 0
longest (word ∷ words) = max (length word) (longest words)
