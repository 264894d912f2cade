-- Commands without an option: where it has no value, clap lets all pass.
use Rattle.std.proofs.Common.{◌≡◌, ◌∙◌, refl, sym, ap, List, [], ◌∷◌, Option, Some, None}
use Rattle.std.specs.Prelude.{option_and_then}
use Rattle.tz_words.specs.Leaf.{is_one_of, with_one}
use Rattle.tz_words.specs.Parts.{Text, Parts}

-- what such a command is told by its positional words; with a value of the option it is told nothing
module _ {U : Type 0} (told : List Text → List Text → Option U) (untold : (value : Text) (values words : List Text) → told (value ∷ values) words ≡ None) where
  abbrev told_parts : Parts → Option U
  told_parts p = told p.values p.positionals

  told_by : (values words : List Text) → option_and_then told_parts (with_one (is_one_of []) (Some (record { positionals = words; values = values }))) ≡ told values words
  told_by [] words = refl
  told_by (value ∷ values) words = sym (untold value values words)

  by_parts : (o : Option Parts) → option_and_then told_parts (with_one (is_one_of []) o) ≡ option_and_then told_parts o
  by_parts None = refl
  by_parts (Some p) = told_by p.values p.positionals

  -- what clap refuses of the option tells nothing
  pub told-with_none : (names : List Text) → names ≡ [] → (o : Option Parts) → option_and_then told_parts (with_one (is_one_of names) o) ≡ option_and_then told_parts o
  told-with_none names e o = ap (λ (ns : List Text). option_and_then told_parts (with_one (is_one_of ns) o)) e ∙ by_parts o
