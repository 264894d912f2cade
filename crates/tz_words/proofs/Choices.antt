-- An option with a value among some: what clap lets pass of it is what makes a choice.
use Rattle.std.proofs.Common.{◌≡◌, ◌∙◌, refl, sym, ap, Bool, true, false, ◌||◌, List, [], ◌∷◌, Option, Some, None}
use Rattle.std.specs.Prelude.{if◌then◌else◌, option_and_then}
use Rattle.std.specs.Str.{bytes_eq}
use Rattle.std.proofs.lemmas.Slice.Eq.{bytes_eq-Decides}
use Rattle.tz_words.specs.Choices.{chosen_in, chosen_of, named_in}
use Rattle.tz_words.specs.Leaf.{is_one_of, with_one}
use Rattle.tz_words.specs.Parts.{Text, Parts}
use Rattle.tz_words.proofs.Numbers.{same_truth}
use Rattle.tz_words.proofs.WordWalks.{and-false}

bytes_eq-turned : (a b : Text) → bytes_eq a b ≡ bytes_eq b a
bytes_eq-turned a b = same_truth (bytes_eq a b) (bytes_eq b a)
    (λ e. (bytes_eq-Decides b a).1 (sym ((bytes_eq-Decides a b).0 e)))
    (λ e. (bytes_eq-Decides a b).1 (sym ((bytes_eq-Decides b a).0 e)))

-- the names of choices
abbrev pub names_in : {A : Type 0} → List (Text × A) → List Text
names_in [] = []
names_in (choice ∷ more) = choice.0 ∷ names_in more

-- another name stands for nothing
unnamed : {A : Type 0} (choices : List (Text × A)) (name : Text) → is_one_of (names_in choices) name ≡ false → named_in choices name ≡ None
unnamed [] name h = refl
unnamed {A} (choice ∷ more) name h = by_test (unnamed more name) (bytes_eq choice.0 name) refl h
  where
    by_test : (is_one_of (names_in more) name ≡ false → named_in more name ≡ None)
        → (b : Bool) → bytes_eq choice.0 name ≡ b → (b || is_one_of (names_in more) name) ≡ false → named_in (choice ∷ more) name ≡ None
    by_test deeper true e k = absurd cc
    by_test deeper false e k = rw (bytes_eq-turned name choice.0 ∙ e) (deeper k)

-- what a command is told by a choice and its positional words; without a choice it is told nothing
module _ {A U : Type 0} (choices : List (Text × A)) (x : A) (told : Option A → List Text → Option U) (untold : (words : List Text) → told None words ≡ None) where
  abbrev told_parts : Parts → Option U
  told_parts p = told (chosen_in x choices p.values) p.positionals

  -- so it is with these values, where at most one of them passes
  abbrev IsTold : List Text → List Text → Type 0
  IsTold values words =
      option_and_then told_parts (with_one (is_one_of (names_in choices)) (Some (record { positionals = words; values = values }))) ≡ told (chosen_in x choices values) words

  told_by : (values words : List Text) → IsTold values words
  told_by [] words = refl
  told_by (name ∷ []) words = by_test (is_one_of (names_in choices) name) refl
    where
      by_test : (b : Bool) → is_one_of (names_in choices) name ≡ b → IsTold (name ∷ []) words
      by_test true e = rw e refl
      by_test false e = rw (e, unnamed choices name e) (sym (untold words))
  told_by (name ∷ other ∷ more) words =
      ap (λ (b : Bool). option_and_then told_parts (if b then Some (record { positionals = words; values = name ∷ other ∷ more }) else None)) (and-false (is_one_of (names_in choices) name))
      ∙ sym (untold words)

  by_parts : (o : Option Parts) → option_and_then told_parts (with_one (is_one_of (names_in choices)) o) ≡ option_and_then told_parts o
  by_parts None = refl
  by_parts (Some p) = told_by p.values p.positionals

  -- what clap refuses of the option chooses nothing
  pub chosen_in-with_one : (ns : List Text) → ns ≡ names_in choices → (o : Option Parts) → option_and_then told_parts (with_one (is_one_of ns) o) ≡ option_and_then told_parts o
  chosen_in-with_one ns e o = ap (λ (n : List Text). option_and_then told_parts (with_one (is_one_of n) o)) e ∙ by_parts o

-- the same of two names
pub chosen-with_one : {A U : Type 0} (one two : Text) (x y : A) (told : Option A → List Text → Option U) → ((words : List Text) → told None words ≡ None)
    → (ns : List Text) → ns ≡ one ∷ two ∷ [] → (o : Option Parts)
    → option_and_then (λ p. told (chosen_of one x two y p.values) p.positionals) (with_one (is_one_of ns) o) ≡ option_and_then (λ p. told (chosen_of one x two y p.values) p.positionals) o
chosen-with_one one two x y told untold ns e o = chosen_in-with_one ((one, x) ∷ (two, y) ∷ []) x told untold ns e o
