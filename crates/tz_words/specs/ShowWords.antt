-- What the words behind `show` mean.
use Rattle.std.specs.Prelude.{List, [], ◌∷◌, ◌++◌, map, Option, Some, None, if◌then◌else◌, codes, option_map, option_and_then}
use Rattle.std.specs.Str.{bytes_eq}
use Rattle.tz_words.specs.declared.ranges.Range.{Range}
use Rattle.tz_words.specs.Choices.{named_of}
use Rattle.tz_words.specs.Parts.{Text, is_hyphened}
use Rattle.tz_words.specs.Ranges.{cut_at, range_of}
use Rattle.tz_words.specs.StartWords.{StartWords, start_names}
use Rattle.tz_words.specs.declared.show.ShowOption.{ShowOption}
use Rattle.tz_words.specs.declared.show.ShowOption.TheVariants.{Memory, State}
use Rattle.tz_words.specs.declared.show.Next.{Next}
use Rattle.tz_words.specs.declared.show.Next.TheVariants.{AnyWord, ItsValue, NoOption}
use Rattle.tz_words.specs.declared.show.ShowParts.{ShowParts as ReadParts}
use Rattle.tz_words.specs.declared.show.SavedWords.{SavedWords as ReadWords}

-- ---- what is told

-- what begins a run, and the memory that is shown of its state
pub record ShowWords : Type 0 where
  pub start : StartWords
  pub ranges : List Range

-- names of files, and the memory that is shown of the state in one of them
pub record SavedWords : Type 0 where
  pub board : Text
  pub state : Text
  pub ranges : List Range

-- what the program read, as such a record
abbrev pub saved_in : ReadWords → SavedWords
saved_in w = record { board = w.board.now; state = w.state.now; ranges = w.ranges.items }

-- the names of files, in the order of the words
abbrev pub show_names : ShowWords → List Text
show_names s = start_names s.start

abbrev pub saved_names : SavedWords → List Text
saved_names w = w.board ∷ w.state ∷ []

-- ---- how words are read

-- the positional words, the ranges and the state's file that were read, and what the next word is
pub record ShowParts : Type 0 where
  pub positionals : List Text
  pub ranges : List Range
  pub state : Option Text
  pub next : Next

-- what the program read, as such a record
abbrev pub show_parts_in : ReadParts → ShowParts
show_parts_in p = record {
  positionals = map (λ w. w.now) p.positionals.items;
  ranges = p.ranges.items;
  state = option_map (λ w. w.now) p.state;
  next = p.next;
}

-- nothing was read
abbrev pub no_parts : ShowParts
no_parts = record { positionals = []; ranges = []; state = None; next = AnyWord }

-- the option of a name
abbrev pub option_named : Text → Option ShowOption
option_named name = named_of (codes "--memory") Memory (codes "--state") State name

-- one positional word more
abbrev pub with_positional : Text → ShowParts → ShowParts
with_positional word p = record p { positionals = p.positionals ++ word ∷ [] }

-- one range more
abbrev pub with_range : Option Range → ShowParts → Option ShowParts
with_range None p = None
with_range (Some range) p = Some (record p { ranges = p.ranges ++ range ∷ []; next = AnyWord })

-- the file of a state, which is named once
abbrev pub with_state : Option Text → Text → ShowParts → Option ShowParts
with_state None file p = Some (record p { state = Some file; next = AnyWord })
with_state (Some other) file p = None

-- an option's value
abbrev pub with_value : ShowOption → Text → ShowParts → Option ShowParts
with_value Memory value p = with_range (range_of value) p
with_value State value p = with_state p.state value p

-- an option, which has its value behind `=`, or in the next word
abbrev pub with_option : Option ShowOption → Option Text → ShowParts → Option ShowParts
with_option None value p = None
with_option (Some option) None p = Some (record p { next = ItsValue option })
with_option (Some option) (Some value) p = with_value option value p

-- a word where options may stand: `--` ends them, `=` (61) stands before a value
abbrev pub with_any : Text → ShowParts → Option ShowParts
with_any word p =
    if bytes_eq word (codes "--") then Some (record p { next = NoOption })
    else if is_hyphened word then with_option (option_named (cut_at 61 word).0) (cut_at 61 word).1 p
    else Some (with_positional word p)

-- a word by what it is
abbrev pub with_next : Next → Text → ShowParts → Option ShowParts
with_next AnyWord word p = with_any word p
with_next (ItsValue option) word p = with_value option word p
with_next NoOption word p = Some (with_positional word p)

-- the parts with the next word; None where it is refused
unfoldable pub with_word : Text → ShowParts → Option ShowParts
with_word word p = with_next p.next word p

-- the parts with all words behind them
abbrev pub with_words : List Text → ShowParts → Option ShowParts
with_words [] p = Some p
with_words (word ∷ words) p = option_and_then (with_words words) (with_word word p)
