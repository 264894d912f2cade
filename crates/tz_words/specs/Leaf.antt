-- The command that clap is given: positional words of any number, and one option that takes named values.
use Rattle.std.specs.Prelude.{◌≡◌, ◌&&◌, ◌==◌, Bool, not, true, false, List, [], ◌∷◌, Option, Some, None, if◌then◌else◌, codes}
use Rattle.std.specs.List.{list_any}
use Rattle.std.specs.Str.{bytes_eq}
use Rattle.clap.specs.Words.{App, Rule, app_of, new_app, new_rule, rule_of, with_rule}
use Rattle.clap.specs.Simple.{on_top}
use Rattle.clap.specs.ValueTests.{accepts}
use Rattle.clap.specs.declared.builder.arg.Arg.{Arg}
use Rattle.clap.specs.declared.builder.command.Command.{Command}
use Rattle.clap.specs.declared.builder.ArgAction.TheVariants.{Append}
use Rattle.clap.specs.declared.builder.value_parser.ValueParser.{ValueParser}
use Rattle.tz_words.specs.Parts.{Text, Look, Positional, look_of, Parts}

-- the option's name, and the parser of its values
pub record Leaf : Type 0 where
  pub option : Text
  pub parser : ValueParser

-- the positional words, as one argument
abbrev pub words_rule : Rule
words_rule = record (new_rule (codes "words")) { action = Some Append }

-- the option, by its long name alone
abbrev pub option_rule : Leaf → Rule
option_rule leaf = record (new_rule (codes "option")) { long = Some leaf.option; parser = Some leaf.parser }

-- no word is the program's name, and neither help nor version can be asked for
abbrev pub bare_app : App
bare_app =
    on_top (λ t. record t { no_binary_name = true; disable_help_flag = true; disable_version_flag = true }) (new_app (codes "command"))

-- the whole command
abbrev pub app_for : Leaf → App
app_for leaf = with_rule (with_rule bare_app words_rule) (option_rule leaf)

-- one of the names
abbrev pub is_one_of : List Text → Text → Bool
is_one_of names value = list_any (λ name. bytes_eq name value) names

-- the argument is this option, which takes these values
pub record IsOption (option : Text) (names : List Text) (arg : Arg) : Type 0 where
  pub leaf : Leaf
  pub rule : rule_of arg ≡ option_rule leaf
  pub named : leaf.option ≡ option
  pub values : (value : Text) → accepts false leaf.parser value ≡ is_one_of names value

-- the command has this option, which takes these values
pub record IsLeaf (option : Text) (names : List Text) (command : Command) : Type 0 where
  pub leaf : Leaf
  pub app : app_of command ≡ app_for leaf
  pub named : leaf.option ≡ option
  pub values : (value : Text) → accepts false leaf.parser value ≡ is_one_of names value

-- at most one value, which passes; none where there was one before
abbrev pub is_one : (Text → Bool) → Bool → List Text → Bool
is_one passes had [] = true
is_one passes had (value ∷ values) = (not had && passes value) && is_one passes true values

-- the parts, if the option has at most one value, which passes
abbrev pub with_one : (Text → Bool) → Option Parts → Option Parts
with_one passes None = None
with_one passes (Some p) = if is_one passes false p.values then Some p else None

-- reads as a positional word
abbrev pub is_positional : Look → Bool
is_positional Positional = true
is_positional _ = false

-- none of the names would read as an option
abbrev pub are_positional : Text → List Text → Bool
are_positional option [] = true
are_positional option (name ∷ names) = is_positional (look_of option name) && are_positional option names

-- the option's name has no `=` (61)
abbrev pub is_name : Text → Bool
is_name [] = true
is_name (c ∷ rest) = not (c == 61) && is_name rest
