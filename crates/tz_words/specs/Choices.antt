-- A choice between names.
use Rattle.std.specs.Prelude.{List, [], ◌∷◌, Option, Some, None, if◌then◌else◌}
use Rattle.std.specs.Str.{bytes_eq}
use Rattle.tz_words.specs.Parts.{Text}

-- what a name stands for, which is one of some
abbrev pub named_in : {A : Type 0} → List (Text × A) → Text → Option A
named_in [] name = None
named_in (choice ∷ more) name = if bytes_eq name choice.0 then Some choice.1 else named_in more name

-- which is one of two
abbrev pub named_of : {A : Type 0} → Text → A → Text → A → Text → Option A
named_of first x second y name = named_in ((first, x) ∷ (second, y) ∷ []) name

-- what an option's values choose: one at most, and this where there is none
abbrev pub chosen_in : {A : Type 0} → A → List (Text × A) → List Text → Option A
chosen_in x choices [] = Some x
chosen_in x choices (name ∷ []) = named_in choices name
chosen_in x choices (name ∷ other ∷ more) = None

-- between two, of which the first stands where there is none
abbrev pub chosen_of : {A : Type 0} → Text → A → Text → A → List Text → Option A
chosen_of first x second y values = chosen_in x ((first, x) ∷ (second, y) ∷ []) values
