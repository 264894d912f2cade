-- What the words behind `gen` mean.
use Rattle.std.specs.Prelude.{List, [], ◌∷◌, Option, None, option_map, option_and_then}
use Rattle.tz_words.specs.Parts.{Text, Parts, AnyWord, parts_of}
use Rattle.tz_words.specs.Counts.{count_of}
use Rattle.tz_words.specs.declared.generated.GenWords.{GenWords}

-- two positional words: the number that a job is made from, and a number of steps; no option has a value
abbrev pub gen_with : List Text → List Text → Option GenWords
gen_with [] (seed ∷ steps ∷ []) = option_and_then (λ n. option_map (λ m. record { seed = n; steps = m }) (count_of steps)) (count_of seed)
gen_with _ _ = None

-- what these parts tell `gen`
abbrev pub gen_parts : Parts → Option GenWords
gen_parts p = gen_with p.values p.positionals

-- the words behind `gen`, which has no option: that without a name can't be given
abbrev pub gen_behind : List Text → Option GenWords
gen_behind words = option_and_then gen_parts (parts_of [] AnyWord words)
