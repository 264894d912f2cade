-- What the words behind a command's word are: positional words, and values of the command's one option.
use Rattle.std.specs.Prelude.{ℕ, Bool, true, false, ◌==◌, ◌&&◌, List, [], ◌∷◌, ◌++◌, if◌then◌else◌, Option, Some, None, codes, option_map}
use Rattle.std.specs.Str.{bytes_eq, chars}

-- the bytes of a word
abbrev pub Text : Type 0
Text = List ℕ

-- how a word reads where options may stand
pub data Look : Type 0 where
  -- two hyphens alone: from here on no word is an option
  EndsOptions : Look
  -- the option, whose value is the next word
  Named : Look
  -- the option with its value
  NamedWith : Text → Look
  -- a word that looks like an option and isn't this one
  Refused : Look
  Positional : Look

-- what stands behind a prefix, in a word that begins with it
abbrev pub behind : Text → Text → Option Text
behind [] word = Some word
behind (p ∷ prefix) [] = None
behind (p ∷ prefix) (c ∷ word) = if p == c then behind prefix word else None

-- two characters or more
abbrev pub are_several : List ℕ → Bool
are_several (c ∷ d ∷ more) = true
are_several _ = false

-- a hyphen (45) with something behind it: such a word looks like an option
abbrev pub is_hyphened : Text → Bool
is_hyphened [] = false
is_hyphened (c ∷ rest) = c == 45 && are_several (chars (c ∷ rest))

-- how any other word reads
abbrev pub other_look : Text → Look
other_look word = if is_hyphened word then Refused else Positional

-- how a word reads by what stands behind the option's name: nothing, or `=` (61) and a value
abbrev pub option_look : Option Text → Look → Look
option_look None other = other
option_look (Some []) other = Named
option_look (Some (c ∷ value)) other = if c == 61 then NamedWith value else other

-- how a word reads to a command whose option has this name
abbrev pub look_of : Text → Text → Look
look_of option word =
    if bytes_eq word (codes "--") then EndsOptions
    else option_look (behind (codes "--" ++ option) word) (other_look word)

-- the positional words and the option's values, each in the order of the words
pub record Parts : Type 0 where
  pub positionals : List Text
  pub values : List Text

-- positional words alone
abbrev pub all_positional : List Text → Option Parts
all_positional words = Some (record { positionals = words; values = [] })

-- a positional word before these parts
abbrev pub with_positional : Text → Option Parts → Option Parts
with_positional word = option_map {T = Parts} (λ p. record p { positionals = word ∷ p.positionals })

-- a value before these parts
abbrev pub with_value : Text → Option Parts → Option Parts
with_value value = option_map {T = Parts} (λ p. record p { values = value ∷ p.values })

-- what the next word is: one that may name the option, or the option's value, whatever it looks like
pub data Next : Type 0 where
  AnyWord : Next
  ItsValue : Next

-- the parts of a word and those behind it, which `go` gives by what the next of them is
abbrev pub parts_by : Look → Text → List Text → (Next → Option Parts) → Option Parts
parts_by EndsOptions word rest go = all_positional rest
parts_by Named word rest go = go ItsValue
parts_by (NamedWith value) word rest go = with_value value (go AnyWord)
parts_by Refused word rest go = None
parts_by Positional word rest go = with_positional word (go AnyWord)

-- the parts of the words, in their order; None where a word is refused or the option's value is missing
unfoldable pub parts_of : Text → Next → List Text → Option Parts
parts_of option AnyWord [] = all_positional []
parts_of option AnyWord (word ∷ rest) = parts_by (look_of option word) word rest (λ next. parts_of option next rest)
parts_of option ItsValue [] = None
parts_of option ItsValue (word ∷ rest) = with_value word (parts_of option AnyWord rest)
