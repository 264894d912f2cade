-- The parts that clap's matches hold.
use Rattle.std.specs.Prelude.{List, [], option_map, unwrap_or, codes}
use Rattle.clap.specs.Words.{found_of, matched_of, raw_values}
use Rattle.clap.specs.declared.parser.matches.ArgMatches.{ArgMatches}
use Rattle.tz_words.specs.Parts.{Text, Parts}

-- the values of an argument
abbrev pub values_in : ArgMatches → Text → List Text
values_in found id = unwrap_or (option_map raw_values (matched_of (found_of found) id)) []

abbrev pub parts_in : ArgMatches → Parts
parts_in found = record { positionals = values_in found (codes "words"); values = values_in found (codes "option") }
