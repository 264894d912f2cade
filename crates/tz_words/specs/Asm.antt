-- What the words behind `asm` mean.
use Rattle.std.specs.Prelude.{ℕ, List, [], ◌∷◌, Option, Some, None, codes, option_and_then}
use Rattle.tz_words.specs.Choices.{named_in, chosen_in}
use Rattle.tz_words.specs.Parts.{Text, Parts, AnyWord, parts_of}
use Rattle.tz_words.specs.declared.asm.AsmWords.{AsmWords as ReadWords}
use Rattle.tz_words.specs.declared.asm.Form.{Form}
use Rattle.tz_words.specs.declared.asm.Form.TheVariants.{Hex, Elf, Listing}

-- what `asm` is told: the name of a file, and the form of what is written
pub record AsmWords : Type 0 where
  pub source : List ℕ
  pub form : Form

-- what the program read, as such a record
abbrev pub asm_in : ReadWords → AsmWords
asm_in w = record { source = w.source.now; form = w.form }

-- the forms by their names
abbrev pub forms : List (Text × Form)
forms = (codes "hex", Hex) ∷ (codes "elf", Elf) ∷ (codes "list", Listing) ∷ []

-- the form of a name
abbrev pub form_named : Text → Option Form
form_named name = named_in forms name

-- the form that the option's values choose: one at most, and `hex` where there is none
abbrev pub form_of : List Text → Option Form
form_of values = chosen_in Hex forms values

-- one positional word, and a form
abbrev pub asm_with : Option Form → List Text → Option AsmWords
asm_with (Some form) (source ∷ []) = Some (record { source = source; form = form })
asm_with _ _ = None

-- what these parts tell `asm`
abbrev pub asm_parts : Parts → Option AsmWords
asm_parts p = asm_with (form_of p.values) p.positionals

-- the words behind `asm`, which has the option `--form`
abbrev pub asm_behind : List Text → Option AsmWords
asm_behind words = option_and_then asm_parts (parts_of (codes "form") AnyWord words)

-- the names of files
abbrev pub asm_names : AsmWords → List Text
asm_names a = a.source ∷ []
